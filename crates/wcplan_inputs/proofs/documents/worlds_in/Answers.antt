use Rattle.std.proofs.Common.{subst}
use Rattle.std.proofs.lemmas.Result.{err_from_is_err_and}
use Rattle.wc_json.specs.Document.{document_view}
use Rattle.wc_resolve.specs.ResolveParts.{parts_view}
use Rattle.wc_resolve.specs.WellFormed.{IsWellFormed}
use Rattle.wc_resolve.specs.declared.resolve.Parts.{Parts}
use Rattle.wcplan_inputs.specs.Private.Causes.{IsOfRefused}
use Rattle.wcplan_inputs.specs.Arguments.{command_view}
use Rattle.wcplan_inputs.proofs.WorldsLemmas.{resolve_cause, text_cause, unselected}
use Rattle.wcplan_inputs.proofs.documents.worlds_in.Goals as goal

pub returns-in_err-document-clause-fault : goal.returns-in_err-document-clause-fault
returns-in_err-document-clause-fault c =
    let p = err_from_is_err_and c.from_residual.result c.from_residual.ensures.1 in
    rw (p.1, p.2) (text_cause (command_view c.args.command.now) c.args.text.now c.in_err-document.field-0.0 c.in_err-document.ensures.fault)

pub returns-in_err-world-clause-fault : goal.returns-in_err-world-clause-fault
returns-in_err-world-clause-fault c =
    let p = err_from_is_err_and c.from_residual-in_err-world.result c.from_residual-in_err-world.ensures.1 in
    rw (p.1, p.2) (unselected (command_view c.args.command.now) c.args.text.now (document_view c.in_ok-document.document)
    c.in_err-world.field-0.0 c.in_ok-document.ensures.document c.in_err-world.ensures.fault)

pub returns-in-Ok-clause-worlds : goal.returns-in-Ok-clause-worlds
returns-in-Ok-clause-worlds c = (
  document_view c.in_ok-document.document,
  c.in_ok-document.ensures.document,
  c.in_ok-world.ensures.meant,
  subst IsWellFormed c.in-Ok.ensures.ok c.in-Ok.ensures.formed,
  c.in-Ok.ensures.ok,
)

pub returns-clause-fault : goal.returns-clause-fault
returns-clause-fault c =
    resolve_cause (command_view c.args.command.now) c.args.text.now (document_view c.in_ok-document.document) c.in_ok-world.world.0
    c.in-Err.refused.refusal c.resolve_fault.result c.in_ok-document.ensures.document c.in_ok-world.ensures.meant c.in-Err.ensures.refusal
    (subst (λ (p : Parts). IsOfRefused (parts_view p) c.in-Err.refused.refusal c.resolve_fault.result) c.in-Err.ensures.given_back c.resolve_fault.ensures)
