use Rattle.wc_json.specs.Document.{document_view}
use Rattle.wcplan_inputs.proofs.WorldsLemmas.{unselected_cause}
use Rattle.wcplan_inputs.proofs.documents.named_world.Goals as goal

pub returns-in-Err-clause-fault : goal.returns-in-Err-clause-fault
returns-in-Err-clause-fault c =
    unselected_cause (document_view c.args.document.now) c.args.name.now c.in-Err.fault c.unselected.result c.in-Err.ensures.fault c.unselected.ensures
