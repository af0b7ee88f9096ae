use Rattle.std.proofs.Common.{map, refl, true}
use Rattle.wc_import_paths.specs.Patterns.{pattern_view}
use Rattle.wc_module_ways.specs.Modules.{imports_of}
use Rattle.wc_program.specs.Screen.{Becomes, output_ends}
use Rattle.wcwhy.specs.Arguments.{command_view}
use Rattle.wcwhy.specs.ModuleWays.{AreWayNames, IsShown}
use Rattle.wcwhy.specs.Private.Inputs.{allow_view}
use Rattle.wcwhy.specs.Private.Warnings.{said_view}
use Rattle.wcwhy.proofs.ModuleWayLemmas.{verdict_shown}
use Rattle.wcwhy.proofs.ShownLemmas.{judged_answer}
use Rattle.wcwhy.proofs.module_ways.print_judged.Goals as goal

pub returns-in-Ok-clause-done : goal.returns-in-Ok-clause-done
returns-in-Ok-clause-done g c w v =
    let command = command_view c.args.request.now.command.now in
    let out = Becomes (output_ends g.O.Sink.written g.O.Output.sent g.O.Sink.is_failed) c.args.out.now c.print_verdict.new.out in
    let verdict = c.in-Ok.verdict in
    let is = c.in-Ok.ensures.verdict w v in
    judged_answer command true (IsShown command w) out (imports_of w) (AreWayNames w) (allow_view c.args.allow.now) is.0 (map pattern_view verdict.patterns.items)
    (said_view verdict.said) is.1 is.2 is.3 c.print_verdict.result c.print_verdict.ensures.said (c.print_verdict.ensures.done w v)

pub returns-in-Err-clause-fault : goal.returns-in-Err-clause-fault
returns-in-Err-clause-fault g c w v =
    let command = command_view c.args.request.now.command.now in
    let out = Becomes (output_ends g.O.Sink.written g.O.Output.sent g.O.Sink.is_failed) c.args.out.now c.args.out.now in
    verdict_shown command w out refl c.in-Err.fault (c.in-Err.ensures.fault w v)
