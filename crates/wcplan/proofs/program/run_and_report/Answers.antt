use Rattle.std.proofs.Common.{inl, inr, subst, sym}
use Rattle.wc_program.specs.Files.{store_change}
use Rattle.wc_program.specs.Screen.{Becomes}
use Rattle.wcplan_inputs.specs.Arguments.{command_view}
use Rattle.wcplan.specs.Program.{EndsWell}
use Rattle.wcplan.proofs.program.run_and_report.Goals as goal

pub returns-in-Ok : goal.returns-in-Ok
returns-in-Ok g c =
    let command = command_view c.args.command.now in
    let store = g.F.FileStore in
    let directories = g.F.DirectoryStore in
    let files = store_change store.held directories.makes store.read_fails directories.make_fails store.write_fails c.args.shell.now.files c.run_command.new.files in
    let out = Becomes g.O.Screen.ends c.args.shell.now.out c.run_command.new.out in
    let warned = c.print_warnings.ensures in
    inl (c.deref.result.now, subst (EndsWell command files out) (sym c.deref.ensures) c.in-Ok.ensures.done, warned.warned, warned.status)

pub returns-in-Err : goal.returns-in-Err
returns-in-Err g c = inr (c.in-Err.fault, c.in-Err.ensures.fault, c.report_last.ensures)
