use Rattle.std.proofs.Common.{◌≡◌, ◌<◌, length, map, rules, sym, ◌∙◌}
use Rattle.std.proofs.lemmas.List.{length-map}
use Rattle.std.proofs.lemmas.Option.{get_or_from_slice_get, slice_get_within}
use Rattle.std.proofs.lemmas.Result.{err_from_is_err_and}
use Rattle.std.proofs.lemmas.List.Elements.{All-contains}
use Rattle.wc_summary.specs.Entries.{entries_view}
use Rattle.wc_module_ways.specs.Adapters.{IsRead, adapter_view}
use Rattle.wc_import_paths.specs.MainModules.{code_of, main_view}
use Rattle.wc_module_ways.proofs.ImportLemmas.{at_index, far_all, far_next, far_none}
use Rattle.wc_module_ways.proofs.ModuleLemmas.{way_refused}
use Rattle.wc_module_ways.proofs.imports.note_adapters.Goals as goal

pub loop-index-init : goal.loop-index-init
loop-index-init c =
    let p = c.args.modules.now in far_none (code_of (main_view p.main)).imports (map adapter_view p.adapters.items) (entries_view c.args.entries.now.entries)

pub loop-index-preserved : goal.loop-index-preserved
loop-index-preserved c =
    let p = c.args.modules.now in
    let lt : c.loop-index.index < length p.adapters.items = search rules in
    far_next (code_of (main_view p.main)).imports (map adapter_view p.adapters.items) c.loop-index.index (adapter_view c.index.result.now) (entries_view c.args.entries.now.entries)
    (entries_view c.loop-index.entries.entries) (entries_view c.note_adapter.new.entries.entries)
    (at_index c.loop-index.index p.adapters.items c.index.result.now lt c.index.ensures) c.loop-index.invariant
    (c.in_ok-note_adapter.ensures.notes (code_of (main_view p.main)).imports c.requires.functions)

pub returns-in_err-note_adapter-clause-refused : goal.returns-in_err-note_adapter-clause-refused
returns-in_err-note_adapter-clause-refused c =
    let p = err_from_is_err_and c.from_residual.result c.from_residual.ensures.1 in
    let all = c.args.modules.now.adapters.items in
    let lt : c.loop-index.index < length all = search rules in
    rw (p.1, p.2) (way_refused (map adapter_view all) (adapter_view c.index.result.now) c.loop-index.index _
    (at_index c.loop-index.index all c.index.result.now lt c.index.ensures) c.in_err-note_adapter.ensures.refused)

pub returns-clause-notes : goal.returns-clause-notes
returns-clause-notes c =
    let p = c.args.modules.now in
    let all : c.loop-index.index ≡ length p.adapters.items = search rules in
    far_all (code_of (main_view p.main)).imports (map adapter_view p.adapters.items) c.loop-index.index (entries_view c.args.entries.now.entries)
    (entries_view c.loop-index.entries.entries) (all ∙ sym (length-map p.adapters.items adapter_view)) c.loop-index.invariant

pub note_adapter-requires : goal.note_adapter-requires
note_adapter-requires c =
    let items = c.args.modules.now.adapters.items in
    let lt : c.loop-index.index < length items = search rules in
    let a = adapter_view c.index.result.now in
    All-contains IsRead (map adapter_view items) a c.requires.adapters (
      c.loop-index.index,
      slice_get_within (map adapter_view items) c.loop-index.index a (at_index c.loop-index.index items c.index.result.now lt c.index.ensures),
      get_or_from_slice_get (map adapter_view items) c.loop-index.index a a (at_index c.loop-index.index items c.index.result.now lt c.index.ensures),
    )
