use Rattle.std.proofs.Common.{◌≤◌, ◌<◌, ◌∙◌, ◌++◌, ◌+◌, ap, append-nil, length, map, rules, sym}
use Rattle.std.proofs.lemmas.List.{take_all}
use Rattle.wc_read.specs.Imports.{import_value}
use Rattle.wc_read.specs.Modules.{ModuleValue}
use Rattle.wc_import_paths.specs.Shown.{end_view, import_ends}
use Rattle.wc_module_ways.specs.CoreModules.{core_view}
use Rattle.wc_module_ways.specs.Modules.{is_core_shown}
use Rattle.wc_module_ways.specs.Tree.{all_core_ends, core_ends}
use Rattle.wc_module_ways.specs.declared.core_module.CoreModule.{CoreModule}
use Rattle.wc_module_ways.proofs.EndLemmas.{ends_next}
use Rattle.wc_module_ways.proofs.core_tree.push_core.Goals as goal

pub loop-index-init : goal.loop-index-init
loop-index-init c given names = sym (append-nil (map end_view c.args.shown.now.items))

pub push_one-requires : goal.push_one-requires
push_one-requires c = c.counts-counts.ensures.fits

pub loop-index-preserved : goal.loop-index-preserved
loop-index-preserved c given names =
    let items = c.args.modules.now.core.items in
    let k = c.loop-index.index in
    let lt : k < length items = search rules in
    let before = map end_view c.loop-index.shown.items in
    let asked = c.args.asked.now in
    let imports = ap (map import_value) c.deref.ensures.value ∙ ap (λ (m : ModuleValue). m.imports) c.code.ensures in
    ends_next core_view (core_ends given asked) c.args.first items k c.index-core.result.now (map end_view c.args.shown.now.items) before (map end_view c.push_one.new.shown.items) lt
    (c.loop-index.invariant given names)
    (c.in_ok-push_one.ensures given names
    ∙ ((λ t. before ++ import_ends (c.args.first + k) (c.counts-counts.ensures.counts t) (is_core_shown given (c.is_library.ensures t) asked) (imports t))
    ∙ ap (λ (z : CoreModule). before ++ core_ends given asked (c.args.first + k) (core_view z)) c.index-core.ensures))

pub returns : goal.returns
returns c given names =
    let items = c.args.modules.now.core.items in
    let over : length items ≤ c.loop-index.index = search rules in
    c.loop-index.invariant given names
    ∙ ap (λ z. map end_view c.args.shown.now.items ++ all_core_ends given c.args.asked.now c.args.first (map core_view z)) (take_all c.loop-index.index items over)
