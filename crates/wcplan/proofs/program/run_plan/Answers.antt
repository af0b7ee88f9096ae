use Rattle.std.proofs.Common.{Some, refl, string_bytes, subst}
use Rattle.std.proofs.lemmas.Result.{err_from_is_err_and}
use Rattle.wc_world.specs.WorldViews.{world_view}
use Rattle.wcplan_inputs.specs.Arguments.{command_view}
use Rattle.wc_program.specs.Files.{store_change}
use Rattle.wc_program.specs.Screen.{Becomes}
use Rattle.wcplan_inputs.specs.declared.fault.ProgramFault.TheVariants.{Memory}
use Rattle.wcplan.proofs.RunLemmas.{all_written, description_cause, quiet, unwritten}
use Rattle.wcplan.proofs.program.run_plan.Goals as goal

pub returns-in_err-outputs-clause-fault : goal.returns-in_err-outputs-clause-fault
returns-in_err-outputs-clause-fault g c =
    let command = command_view c.args.command.now in
    let store = g.F.FileStore in
    let directories = g.F.DirectoryStore in
    let files = store_change store.held directories.makes store.read_fails directories.make_fails store.write_fails c.args.files.now c.args.files.now in
    let out = Becomes g.O.Screen.ends c.args.out.now c.args.out.now in
    let p = err_from_is_err_and c.from_residual.result c.from_residual.ensures.1 in
    rw (p.1, p.2) (quiet command files out Memory refl refl tt)

pub returns-in_err-description-clause-fault : goal.returns-in_err-description-clause-fault
returns-in_err-description-clause-fault g c =
    let command = command_view c.args.command.now in
    let store = g.F.FileStore in
    let directories = g.F.DirectoryStore in
    let files = store_change store.held directories.makes store.read_fails directories.make_fails store.write_fails c.args.files.now c.args.files.now in
    let out = Becomes g.O.Screen.ends c.args.out.now c.args.out.now in
    let fault = c.in_err-description.field-0.0 in
    let cause = description_cause command files.before files.IsFailedRead (world_view c.args.planned.world.now) fault c.requires.planned
    c.in_err-description.ensures.fault in
    let p = err_from_is_err_and c.from_residual-in_err-description.result c.from_residual-in_err-description.ensures.1 in
    rw (p.1, p.2) (quiet command files out fault refl refl cause)

pub returns-in_err-warnings-clause-fault : goal.returns-in_err-warnings-clause-fault
returns-in_err-warnings-clause-fault g c =
    let command = command_view c.args.command.now in
    let store = g.F.FileStore in
    let directories = g.F.DirectoryStore in
    let files = store_change store.held directories.makes store.read_fails directories.make_fails store.write_fails c.args.files.now c.args.files.now in
    let out = Becomes g.O.Screen.ends c.args.out.now c.args.out.now in
    let p = err_from_is_err_and c.from_residual-in_err-warnings.result c.from_residual-in_err-warnings.ensures.1 in
    rw (p.1, p.2) (quiet command files out Memory refl refl tt)

pub returns-in-Ok-clause-done : goal.returns-in-Ok-clause-done
returns-in-Ok-clause-done g c =
    let command = command_view c.args.command.now in
    let store = g.F.FileStore in
    let directories = g.F.DirectoryStore in
    let files = store_change store.held directories.makes store.read_fails directories.make_fails store.write_fails c.args.files.now c.write_and_print.new.files in
    let out = Becomes g.O.Screen.ends c.args.out.now c.write_and_print.new.out in
    let ends = g.O.Screen.ends c.args.out.now c.write_and_print.new.out in
    let text = c.in_ok-description.description.items in
    let printed = subst (λ t. ends (Some t)) c.deref.ensures.value c.in-Ok.ensures.printed in
    all_written command files out (world_view c.args.planned.world.now) c.requires.planned c.in_ok-outputs.outputs.items c.in_ok-outputs.ensures text
    (string_bytes c.in_ok-warnings.warnings) c.in_ok-description.ensures.text c.in-Ok.ensures.made c.in-Ok.ensures.written printed c.in_ok-warnings.ensures

pub returns-clause-fault : goal.returns-clause-fault
returns-clause-fault g c =
    let command = command_view c.args.command.now in
    let store = g.F.FileStore in
    let directories = g.F.DirectoryStore in
    let files = store_change store.held directories.makes store.read_fails directories.make_fails store.write_fails c.args.files.now c.write_and_print.new.files in
    let out = Becomes g.O.Screen.ends c.args.out.now c.write_and_print.new.out in
    unwritten command files out (world_view c.args.planned.world.now) c.requires.planned c.in_ok-outputs.outputs.items c.in_ok-outputs.ensures c.in-Err.fault
    c.in-Err.ensures.fault
