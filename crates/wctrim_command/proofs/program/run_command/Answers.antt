use Rattle.std.proofs.Common.{refl, subst}
use Rattle.wc_program.specs.Files.{FailsBy, file_change}
use Rattle.wc_program.specs.Screen.{Becomes, output_ends}
use Rattle.wc_program.specs.declared.files.FileProblem.TheVariants.{Memory}
use Rattle.wctrim_command.specs.Command.{command_view}
use Rattle.wctrim_command.proofs.ProgramLemmas.{too_large}
use Rattle.wctrim_command.proofs.program.run_command.Goals as goal

pub returns-in-Err-Memory-clause-fault : goal.returns-in-Err-Memory-clause-fault
returns-in-Err-Memory-clause-fault g c =
    let store = g.F.FileStore in
    let fails = store.read_fails c.args.files.now in
    let failed = subst (λ p. FailsBy (fails c.source-source.result.now) p) c.in-Err-Memory.field-0-is c.in-Err-Memory.ensures.problem in
    too_large (command_view c.args.command.now) (file_change store.held store.read_fails store.write_fails c.args.files.now c.args.files.now)
    (Becomes (output_ends g.O.Sink.written g.O.Output.sent g.O.Sink.is_failed) c.args.out.now c.args.out.now)
    (subst (λ path. FailsBy (fails path) Memory) c.source-source.ensures failed) refl refl
