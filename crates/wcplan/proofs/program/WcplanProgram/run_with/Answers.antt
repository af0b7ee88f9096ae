use Rattle.std.proofs.Common.{map, refl, string_bytes}
use Rattle.wc_program.specs.Files.{store_change}
use Rattle.wcplan_inputs.specs.Arguments.{command_view}
use Rattle.wcplan.proofs.RunLemmas.{ends_by_command, ends_by_stop}
use Rattle.wcplan.proofs.program.WcplanProgram.run_with.Goals as goal

pub returns-in-Ok : goal.returns-in-Ok
returns-in-Ok g c =
    let arguments = map string_bytes c.args.arguments.now in
    let store = g.F.FileStore in
    let directories = g.F.DirectoryStore in
    let files = store_change store.held directories.makes store.read_fails directories.make_fails store.write_fails c.args.shell.now.files
    c.run_and_report.new.shell.files in
    ends_by_command arguments (command_view c.in-Ok.command) files _ _ _ c.in-Ok.ensures c.run_and_report.ensures

pub returns-in-Err : goal.returns-in-Err
returns-in-Err g c =
    let arguments = map string_bytes c.args.arguments.now in
    let store = g.F.FileStore in
    let directories = g.F.DirectoryStore in
    let files = store_change store.held directories.makes store.read_fails directories.make_fails store.write_fails c.args.shell.now.files
    c.args.shell.now.files in
    ends_by_stop arguments c.in-Err.stop files _ _ _ refl c.in-Err.ensures c.answer_stop.ensures
