use Rattle.std.proofs.Common.{◌∙◌, ap, option_map}
use Rattle.wc_adapters.specs.Entries.{entries_of}
use Rattle.wc_names.specs.Views.{import_view}
use Rattle.wc_validate.specs.Imports.Iter.{imports_left}
use Rattle.wc_validate.specs.Imports.Map.{imports_in}
use Rattle.wc_why.specs.Texts.{text_of}
use Rattle.wc_ways.specs.TypeRoots.{import_needs}
use Rattle.wc_ways.specs.Private.Needs.{noted_in}
use Rattle.wc_ways.proofs.NeedLemmas.{needs_end, needs_next, needs_start}
use Rattle.wc_ways.proofs.type_roots.note_imports.Goals as goal

pub loop-module-init : goal.loop-module-init
loop-module-init c =
    let r = c.args.lists.resolve.now in
    needs_start r (import_needs r (entries_of c.args.lists.imports.now) (option_map text_of c.args.adapter)) (imports_in c.args.imports.now) (noted_in c.args.found.now) _
    (ap imports_left c.into_iter-module-iterator.ensures.into_iter_gives ∙ c.imports-module-items.ensures)

pub loop-module-preserved : goal.loop-module-preserved
loop-module-preserved c =
    let r = c.args.lists.resolve.now in
    needs_next r (import_needs r (entries_of c.args.lists.imports.now) (option_map text_of c.args.adapter)) (imports_in c.args.imports.now) (noted_in c.args.found.now) (imports_left c.loop-module.module-iterator)
    (imports_left c.next.new.self) (c.in-Some.«module».now, (c.in-Some.name.now, import_view c.in-Some.import.now)) (noted_in c.loop-module.found) (noted_in c.note_recorded.new.found)
    c.in-Some.ensures.steps c.in_ok-note_recorded.ensures c.loop-module.invariant

pub returns : goal.returns
returns c =
    let r = c.args.lists.resolve.now in
    needs_end r (import_needs r (entries_of c.args.lists.imports.now) (option_map text_of c.args.adapter)) (imports_in c.args.imports.now) (noted_in c.args.found.now) (imports_left c.loop-module.module-iterator)
    (noted_in c.loop-module.found) c.in-None.ensures.steps.0 c.loop-module.invariant
