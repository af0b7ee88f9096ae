use Rattle.std.proofs.Common.{◌<◌, ◌++◌, ◌+◌, ◌∙◌, List, ap, arith, get_or, length, map}
use Rattle.wc_read.specs.Imports.{import_values}
use Rattle.wc_read.specs.declared.types.Import.{Import}
use Rattle.wc_paths.specs.Counts.{counts_value}
use Rattle.wc_import_paths.specs.Shown.{end_view, import_ends}
use Rattle.wc_module_ways.specs.Modules.{is_adapter_shown}
use Rattle.wc_module_ways.proofs.EndLemmas.{adapter_more, other_fits, other_there}
use Rattle.wc_module_ways.proofs.tree.push_adapters.Goals as goal

pub bounds-parts-index : goal.bounds-parts-index
bounds-parts-index c =
    let lt : c.loop-index.index < length c.args.adapters.now = omega arith in
    other_there c.args.adapters.now c.args.parts.now c.requires c.loop-index.index lt

pub push_adapter-requires : goal.push_adapter-requires
push_adapter-requires c =
    let lt : c.loop-index.index < length c.args.adapters.now = omega arith in
    other_fits c.args.adapters.now c.args.parts.now c.requires c.loop-index.index lt c.index-parts-index.result

pub loop-index-preserved : goal.loop-index-preserved
loop-index-preserved c =
    let k = c.loop-index.index in
    let lt : k < length c.args.adapters.now = omega arith in
    let counts = counts_value (get_or c.args.parts.now (k + 1) c.index-parts-index.result).counts in
    let before = map end_view c.loop-index.shown.items in
    adapter_more c.args.adapters.now c.args.parts.now c.requires k lt c.args.asked.now c.index-adapters-index.result c.index-parts-index.result
    (map end_view c.args.shown.now.items) before (map end_view c.push_adapter.new.shown.items) c.loop-index.invariant
    (c.in_ok-push_adapter.ensures
    ∙ ap (λ (z : List Import). before ++ import_ends (k + 1) counts (is_adapter_shown c.args.asked.now) (import_values z)) c.deref.ensures.value)
