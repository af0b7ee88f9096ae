use Rattle.std.proofs.Common.{◌≡◌, ◌<◌, ◌∙◌, Some, ap, length, map, rules, subst, sym}
use Rattle.std.proofs.lemmas.List.{length-map}
use Rattle.wc_summary.specs.Entries.{entries_view}
use Rattle.wc_import_paths.specs.MainModules.{code_of, main_view}
use Rattle.wc_import_paths.proofs.ShownLemmas.{at_view}
use Rattle.wc_module_ways.specs.CoreModules.{HasCore, core_view}
use Rattle.wc_module_ways.specs.declared.core_module.CoreModule.{CoreModule}
use Rattle.wc_module_ways.proofs.CoreImportLemmas.{cores_all, cores_next, cores_none}
use Rattle.wc_module_ways.proofs.CorePartLemmas.{has_core_at}
use Rattle.wc_module_ways.proofs.core_imports.note_core.Goals as goal

pub loop-index-init : goal.loop-index-init
loop-index-init c given names =
    let p = c.args.modules.now in
    cores_none (code_of (main_view p.main)).imports given (map core_view p.core.items) (entries_view c.args.entries.now.entries)

pub note_one-requires : goal.note_one-requires
note_one-requires c =
    let items = c.args.modules.now.core.items in
    let lt : c.loop-index.index < length items = search rules in
    let x = c.index-core.result.now in
    subst HasCore (sym c.index-core.ensures) (has_core_at items c.requires.core c.loop-index.index x lt)

pub loop-index-preserved : goal.loop-index-preserved
loop-index-preserved c given names =
    let p = c.args.modules.now in
    let items = p.core.items in
    let k = c.loop-index.index in
    let lt : k < length items = search rules in
    let imports = (code_of (main_view p.main)).imports in
    let x = c.index-core.result.now in
    cores_next imports given (map core_view items) k (core_view x) (entries_view c.args.entries.now.entries) (entries_view c.loop-index.entries.entries)
    (entries_view c.note_one.new.entries.entries) (at_view core_view items k x lt ∙ ap (λ (z : CoreModule). Some (core_view z)) (sym c.index-core.ensures))
    (c.loop-index.invariant given names)
    (c.in_ok-note_one.ensures imports c.requires.functions given names)

pub returns : goal.returns
returns c given names =
    let p = c.args.modules.now in
    let all : c.loop-index.index ≡ length p.core.items = search rules in
    cores_all (code_of (main_view p.main)).imports given (map core_view p.core.items) c.loop-index.index (entries_view c.args.entries.now.entries)
    (entries_view c.loop-index.entries.entries) (all ∙ sym (length-map p.core.items core_view)) (c.loop-index.invariant given names)
