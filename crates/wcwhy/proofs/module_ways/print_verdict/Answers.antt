use Rattle.std.proofs.Common.{map, subst, true}
use Rattle.wc_import_paths.specs.Patterns.{pattern_view}
use Rattle.wc_program.specs.Screen.{Becomes, output_ends}
use Rattle.wcwhy.specs.Arguments.{command_view}
use Rattle.wcwhy.specs.ModuleWays.{IsShown}
use Rattle.wcwhy.specs.Private.Execution.{PrintsSome}
use Rattle.wcwhy.specs.Shown.{ShowsThese}
use Rattle.wcwhy.proofs.module_ways.print_verdict.Goals as goal

pub returns-in-Ok-clause-done : goal.returns-in-Ok-clause-done
returns-in-Ok-clause-done g c w v =
    let command = command_view c.args.request.now.command.now in
    let out = Becomes (output_ends g.O.Sink.written g.O.Output.sent g.O.Sink.is_failed) c.args.out.now c.print_patterns.new.out in
    subst (λ ps. PrintsSome (ShowsThese command true (IsShown command w) (map pattern_view ps)) out) c.deref.ensures.value (c.in-Ok.ensures.done w v)
