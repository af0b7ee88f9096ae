use Rattle.std.proofs.Common.{inl, map, refl}
use Rattle.std.specs.Option.{option_map}
use Rattle.wc_program.specs.Files.{file_change}
use Rattle.wc_program.specs.Screen.{Becomes, output_ends}
use Rattle.wcwhy.specs.Arguments.{command_view}
use Rattle.wcwhy.specs.Private.Inputs.{allow_view, file_view}
use Rattle.wcwhy.proofs.RunLemmas.{read_badly, read_well}
use Rattle.wcwhy.proofs.program.print_command.Goals as goal

pub returns-in-Ok-clause-done : goal.returns-in-Ok-clause-done
returns-in-Ok-clause-done g c =
    let out = Becomes (output_ends g.O.Sink.written g.O.Output.sent g.O.Sink.is_failed) c.args.out.now c.print_input.new.out in
    let files = file_change g.F.FileStore.held g.F.FileStore.read_fails g.F.FileStore.write_fails c.args.files.now c.args.files.now in
    let input = c.in-Ok.input in
    read_well (command_view c.args.command.now) files input.source.items (map file_view input.adapters.items) (option_map allow_view input.allow)
    c.in-Ok.ensures.read out c.print_input.result c.print_input.ensures.done

pub returns-in-Ok-clause-fault : goal.returns-in-Ok-clause-fault
returns-in-Ok-clause-fault g c =
    let out = Becomes (output_ends g.O.Sink.written g.O.Output.sent g.O.Sink.is_failed) c.args.out.now c.print_input.new.out in
    let files = file_change g.F.FileStore.held g.F.FileStore.read_fails g.F.FileStore.write_fails c.args.files.now c.args.files.now in
    let input = c.in-Ok.input in
    read_badly (command_view c.args.command.now) files input.source.items (map file_view input.adapters.items) (option_map allow_view input.allow)
    c.in-Ok.ensures.read out c.print_input.result c.print_input.ensures.fault

pub returns-in-Err-clause-fault : goal.returns-in-Err-clause-fault
returns-in-Err-clause-fault g c = inl (c.in-Err.ensures.fault, refl)
