use Rattle.std.proofs.Common.{refl, subst, sym}
use Rattle.std.proofs.lemmas.Result.{err_from_is_err_and}
use Rattle.wc_encoder.specs.EncoderParts.{EncoderView}
use Rattle.wcplan_inputs.specs.Arguments.{command_view}
use Rattle.wc_program.specs.Files.{store_change}
use Rattle.wc_program.specs.Screen.{Becomes}
use Rattle.wcplan_inputs.specs.Inputs.{IsEncoderOf}
use Rattle.wcplan.proofs.RunLemmas.{input_cause, quiet}
use Rattle.wcplan.proofs.program.run_command.Goals as goal

pub run_encoder-requires : goal.run_encoder-requires
run_encoder-requires g c =
    subst (λ (e : EncoderView). IsEncoderOf (command_view c.args.command.now) (g.F.FileStore.held c.args.files.now) e) (sym c.deref.ensures)
    c.in_ok-encoder.ensures.encoder

pub returns-in_err-encoder-clause-fault : goal.returns-in_err-encoder-clause-fault
returns-in_err-encoder-clause-fault g c =
    let command = command_view c.args.command.now in
    let store = g.F.FileStore in
    let directories = g.F.DirectoryStore in
    let files = store_change store.held directories.makes store.read_fails directories.make_fails store.write_fails c.args.files.now c.args.files.now in
    let out = Becomes g.O.Screen.ends c.args.out.now c.args.out.now in
    let p = err_from_is_err_and c.from_residual.result c.from_residual.ensures.1 in
    let cause = input_cause command files.before files.IsFailedRead c.in_err-encoder.field-0.0 c.in_err-encoder.ensures.fault in
    rw (p.1, p.2) (quiet command files out c.in_err-encoder.field-0.0 refl refl cause)
