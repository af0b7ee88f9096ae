use Rattle.std.proofs.Common.{refl}
use Rattle.wc_module_ways.specs.Modules.{input_view}
use Rattle.wc_program.specs.Screen.{Becomes, output_ends}
use Rattle.wcwhy.specs.Arguments.{command_view}
use Rattle.wcwhy.specs.Private.Inputs.{allow_in}
use Rattle.wcwhy.proofs.ModuleWayLemmas.{known_failed, known_printed, read_cause}
use Rattle.wcwhy.proofs.module_ways.print_given.Goals as goal

pub returns-in-Ok-clause-done : goal.returns-in-Ok-clause-done
returns-in-Ok-clause-done g c =
    let command = command_view c.args.request.now.command.now in
    let out = Becomes (output_ends g.O.Sink.written g.O.Output.sent g.O.Sink.is_failed) c.args.out.now c.print_read.new.out in
    let is = c.in-Ok.ensures.modules in
    known_printed command (input_view c.args.given.now) is.view is.is_modules out (allow_in c.args.request.now) c.print_read.result
    (c.print_read.ensures.done is.view is.are_view)

pub returns-in-Ok-clause-fault : goal.returns-in-Ok-clause-fault
returns-in-Ok-clause-fault g c =
    let command = command_view c.args.request.now.command.now in
    let out = Becomes (output_ends g.O.Sink.written g.O.Output.sent g.O.Sink.is_failed) c.args.out.now c.print_read.new.out in
    let is = c.in-Ok.ensures.modules in
    known_failed command (input_view c.args.given.now) is.view is.is_modules out c.print_read.result (c.print_read.ensures.fault is.view is.are_view)

pub returns-in-Err-clause-fault : goal.returns-in-Err-clause-fault
returns-in-Err-clause-fault g c =
    let command = command_view c.args.request.now.command.now in
    let out = Becomes (output_ends g.O.Sink.written g.O.Output.sent g.O.Sink.is_failed) c.args.out.now c.args.out.now in
    read_cause command (input_view c.args.given.now) out refl c.in-Err.refusal c.read_fault.result c.in-Err.ensures.refused c.read_fault.ensures
