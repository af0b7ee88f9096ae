use Rattle.std.proofs.Common.{OnOk, ap, subst, sym}
use Rattle.wc_adapters.specs.Entries.{entries_of}
use Rattle.wc_names.specs.Views.{import_view}
use Rattle.wc_world.specs.Live.{import_roots, named_function_roots}
use Rattle.wc_world.proofs.LiveLemmas.{other_roots}
use Rattle.wc_ways.specs.Private.Needs.{Finds}
use Rattle.wc_ways.proofs.needs.note_import.Goals as goal

pub returns-in-WorldFunc : goal.returns-in-WorldFunc
returns-in-WorldFunc c =
    let g = c.args.needing.now in
    subst (λ z. OnOk c.note_under.result (Finds g c.args.found.now c.note_under.new.found (import_roots g.resolve.now (entries_of c.args.imports.now) z)))
    (sym (ap import_view c.in-WorldFunc.is)) c.note_under.ensures

pub returns-in-InterfaceFunc : goal.returns-in-InterfaceFunc
returns-in-InterfaceFunc c =
    let g = c.args.needing.now in
    let old = c.args.found.now in
    let new = c.note_function_named.new.found in
    subst (λ z. OnOk c.note_function_named.result (Finds g old new (import_roots g.resolve.now (entries_of c.args.imports.now) z))) (sym (ap import_view c.in-InterfaceFunc.is))
    (subst (λ n. OnOk c.note_function_named.result (Finds g old new (named_function_roots g.resolve.now c.in-InterfaceFunc.id.0 n))) c.deref.ensures c.note_function_named.ensures)

pub returns-in-ExportedTaskReturn : goal.returns-in-ExportedTaskReturn
returns-in-ExportedTaskReturn c =
    let g = c.args.needing.now in
    subst (λ z. OnOk c.note_result.result (Finds g c.args.found.now c.note_result.new.found (import_roots g.resolve.now (entries_of c.args.imports.now) z)))
    (sym (ap import_view c.in-ExportedTaskReturn.is)) c.note_result.ensures

pub returns-in_default : goal.returns-in_default
returns-in_default c =
    let g = c.args.needing.now in
    subst (λ z. OnOk c.note_builtin.result (Finds g c.args.found.now c.note_builtin.new.found z))
    (other_roots g.resolve.now (entries_of c.args.imports.now) c.args.import.now c.in_default.not-WorldFunc c.in_default.not-InterfaceFunc c.in_default.not-ExportedTaskReturn)
    c.note_builtin.ensures
