use Rattle.std.proofs.Common.{List, subst, ℕ}
use Rattle.std.proofs.lemmas.Result.{err_from_is_err_and}
use Rattle.wc_program.specs.Files.{file_change}
use Rattle.wcwhy.specs.Arguments.{command_view}
use Rattle.wcwhy.specs.Inputs.{IsMisfit}
use Rattle.wcwhy.proofs.InputLemmas.{source_misfit, source_unread}
use Rattle.wcwhy.proofs.inputs.read_source.Goals as goal

pub returns-in_err-source-clause-fault : goal.returns-in_err-source-clause-fault
returns-in_err-source-clause-fault g c =
    let files = file_change g.F.FileStore.held g.F.FileStore.read_fails g.F.FileStore.write_fails c.args.files.now c.args.files.now in
    let p = err_from_is_err_and c.from_residual.result c.from_residual.ensures.1 in
    rw (p.1, p.2) (source_unread (command_view c.args.command.now) files c.in_err-source.field-0.0 c.in_err-source.ensures.fault)

pub returns-in_err-check_kind-clause-fault : goal.returns-in_err-check_kind-clause-fault
returns-in_err-check_kind-clause-fault g c =
    let command = command_view c.args.command.now in
    let files = file_change g.F.FileStore.held g.F.FileStore.read_fails g.F.FileStore.write_fails c.args.files.now c.args.files.now in
    let p = err_from_is_err_and c.from_residual-in_err-check_kind.result c.from_residual-in_err-check_kind.ensures.1 in
    let f = c.in_err-check_kind.field-0.0 in
    rw (p.1, p.2) (source_misfit command files c.in_ok-source.source.items c.in_ok-source.ensures.read f
    (subst (λ (bytes : List ℕ). IsMisfit command bytes f) c.deref.ensures.value c.in_err-check_kind.ensures.fault))
