use Rattle.std.proofs.Common.{◌∙◌, subst, sym}
use Rattle.std.proofs.lemmas.Result.{err_from_is_err_and}
use Rattle.wc_program.specs.Files.{FailsToRead}
use Rattle.wcplan_inputs.specs.Arguments.{command_view}
use Rattle.wcplan_inputs.specs.Inputs.{HoldsInput}
use Rattle.wcplan_inputs.proofs.WorldsLemmas.{all_there, some_cause, unread}
use Rattle.wcplan_inputs.proofs.documents.read_worlds.Goals as goal

pub returns-in_err-bytes-clause-fault : goal.returns-in_err-bytes-clause-fault
returns-in_err-bytes-clause-fault g c =
    let p = err_from_is_err_and c.from_residual.result c.from_residual.ensures.1 in
    rw (p.1, p.2) (unread (command_view c.args.command.now) (g.F.FileStore.held c.args.files.now) (FailsToRead g.F.FileStore.read_fails c.args.files.now) c.in_err-bytes.field-0.0 c.in_err-bytes.ensures.fault)

pub returns-in-Ok-clause-worlds : goal.returns-in-Ok-clause-worlds
returns-in-Ok-clause-worlds g c =
    let command = command_view c.args.command.now in
    let before = g.F.FileStore.held c.args.files.now in
    let held = subst (HoldsInput before command.worlds) (sym (c.in-Ok.ensures.cases.0 ∙ c.deref.ensures.value)) c.in_ok-bytes.ensures.read in
    all_there command before c.in-Ok.text.now (λ m. m.resolve) (λ m. m.world.0) c.worlds_in.result held c.worlds_in.ensures.worlds

pub returns-in-Ok-clause-fault : goal.returns-in-Ok-clause-fault
returns-in-Ok-clause-fault g c =
    let command = command_view c.args.command.now in
    let before = g.F.FileStore.held c.args.files.now in
    let held = subst (HoldsInput before command.worlds) (sym (c.in-Ok.ensures.cases.0 ∙ c.deref.ensures.value)) c.in_ok-bytes.ensures.read in
    some_cause command before (FailsToRead g.F.FileStore.read_fails c.args.files.now) c.in-Ok.text.now c.worlds_in.result held c.worlds_in.ensures.fault
