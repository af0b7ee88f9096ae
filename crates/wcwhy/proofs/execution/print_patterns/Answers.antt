use Rattle.std.proofs.Common.{◌∙◌, false, sym}
use Rattle.wc_import_paths.specs.Followed.{followed_view}
use Rattle.wc_program.specs.Screen.{Becomes, output_ends}
use Rattle.wcwhy.specs.Arguments.{command_view}
use Rattle.wcwhy.specs.Program.{IsSourceText}
use Rattle.wcwhy.proofs.ShownLemmas.{shows_some}
use Rattle.wcwhy.proofs.execution.print_patterns.Goals as goal

pub returns-in-Ok-clause-done : goal.returns-in-Ok-clause-done
returns-in-Ok-clause-done g c =
    let command = command_view c.args.request.now.command.now in
    let out = Becomes (output_ends g.O.Sink.written g.O.Output.sent g.O.Sink.is_failed) c.args.out.now c.print_known.new.out in
    let f = c.args.followed.now in
    shows_some command false (IsSourceText command (followed_view f) f.bytes.now) out c.args.patterns.now c.in-Ok.asked c.print_known.result (sym c.is_empty.ensures ∙ c.if-is_empty.false)
    c.in-Ok.ensures c.print_known.ensures.done
