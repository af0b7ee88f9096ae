use Rattle.std.proofs.Common.{inr}
use Rattle.wc_program.specs.Files.{file_change}
use Rattle.wctrim_command.specs.Command.{command_view}
use Rattle.wctrim_command.proofs.ProgramLemmas.{ends_in_fault}
use Rattle.wctrim_command.proofs.program.run_and_report.Goals as goal

pub returns-in-Err : goal.returns-in-Err
returns-in-Err g c =
    let store = g.F.FileStore in
    inr (ends_in_fault (command_view c.args.command.now) (file_change store.held store.read_fails store.write_fails c.args.shell.now.files c.run_command.new.files)
    g.O.Sink.written g.O.Output.sent g.O.Sink.is_failed c.args.shell.now.out c.run_command.new.out c.report.new.out c.in-Err.fault c.report.result
    c.in-Err.ensures.fault c.report.ensures)
