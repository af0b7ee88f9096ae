use Rattle.std.proofs.Common.{map, refl, string_bytes}
use Rattle.wcwhy.specs.Arguments.{command_view}
use Rattle.wcwhy.proofs.RunLemmas.{ends_by_command, ends_by_stop}
use Rattle.wcwhy.proofs.program.WcwhyProgram.run_with.Goals as goal

pub returns-in-Ok : goal.returns-in-Ok
returns-in-Ok g c =
    let arguments = map string_bytes c.args.arguments.now in
    ends_by_command arguments (command_view c.in-Ok.command) _ _ _ _ c.in-Ok.ensures c.run_and_report.ensures

pub returns-in-Err : goal.returns-in-Err
returns-in-Err g c =
    let arguments = map string_bytes c.args.arguments.now in
    ends_by_stop arguments c.in-Err.stop _ _ _ _ refl c.in-Err.ensures c.answer_stop.ensures
