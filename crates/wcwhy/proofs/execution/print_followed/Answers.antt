use Rattle.wc_program.specs.Screen.{Becomes, output_ends}
use Rattle.std.proofs.Common.{map, refl, subst}
use Rattle.wc_import_paths.specs.Followed.{IsSource}
use Rattle.wc_import_paths.specs.Following.{IsRefusal}
use Rattle.wc_why.specs.Texts.{text_of}
use Rattle.wcwhy.specs.Arguments.{command_view}
use Rattle.wcwhy.specs.Private.Inputs.{allow_in}
use Rattle.wcwhy.proofs.ExecutionLemmas.{refused_cause, some_source_cause, source_of}
use Rattle.wcwhy.proofs.execution.print_followed.Goals as goal

pub print_source-requires-clause-paths : goal.print_source-requires-clause-paths
print_source-requires-clause-paths g c = c.in-Ok.ensures.source.has_paths

pub returns-in-Ok-clause-done : goal.returns-in-Ok-clause-done
returns-in-Ok-clause-done g c =
    let out = Becomes (output_ends g.O.Sink.written g.O.Output.sent g.O.Sink.is_failed) c.args.out.now c.print_source.new.out in
    let source = subst (λ es. IsSource c.args.bytes.now (map text_of es) c.in-Ok.followed) c.deref.ensures.value c.in-Ok.ensures.source in
    source_of (command_view c.args.request.now.command.now) c.args.bytes.now c.in-Ok.followed source out (allow_in c.args.request.now) c.print_source.result c.print_source.ensures.done

pub returns-in-Ok-clause-fault : goal.returns-in-Ok-clause-fault
returns-in-Ok-clause-fault g c =
    let out = Becomes (output_ends g.O.Sink.written g.O.Output.sent g.O.Sink.is_failed) c.args.out.now c.print_source.new.out in
    let source = subst (λ es. IsSource c.args.bytes.now (map text_of es) c.in-Ok.followed) c.deref.ensures.value c.in-Ok.ensures.source in
    some_source_cause (command_view c.args.request.now.command.now) c.args.bytes.now c.in-Ok.followed source out c.print_source.result c.print_source.ensures.fault

pub returns-in-Err-clause-fault : goal.returns-in-Err-clause-fault
returns-in-Err-clause-fault g c =
    let out = Becomes (output_ends g.O.Sink.written g.O.Output.sent g.O.Sink.is_failed) c.args.out.now c.args.out.now in
    let r = c.in-Err.refusal in
    let refused = subst (λ es. IsRefusal c.args.bytes.now (map text_of es) r.fault r.place) c.deref.ensures.value c.in-Err.ensures.refused in
    refused_cause (command_view c.args.request.now.command.now) c.args.bytes.now out r.fault r.place c.source_fault.result refl refused c.source_fault.ensures
