use Rattle.std.proofs.Common.{map}
use Rattle.wc_component_file.specs.Files.{core_module_view}
use Rattle.wc_module_ways.specs.CoreModules.{core_given}
use Rattle.wc_program.specs.Screen.{Becomes, output_ends}
use Rattle.wcwhy.specs.Arguments.{command_view}
use Rattle.wcwhy.specs.Component.{input_with}
use Rattle.wcwhy.proofs.ComponentLemmas.{indexed}
use Rattle.wcwhy.proofs.component.print_indexed.Goals as goal

pub returns-in-Err-clause-fault : goal.returns-in-Err-clause-fault
returns-in-Err-clause-fault g c =
    let command = command_view c.args.request.now.command.now in
    let out = Becomes (output_ends g.O.Sink.written g.O.Output.sent g.O.Sink.is_failed) c.args.out.now c.print_inputs.new.out in
    let i = input_with command (core_module_view c.args.main.1) (map core_given c.args.core.now) in
    indexed command i c.args.main.0 out c.in-Err.fault c.of_index.result c.in-Err.ensures.fault c.of_index.ensures
