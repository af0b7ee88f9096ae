use Rattle.wc_json.specs.Document.{document_view}
use Rattle.wc_calls.proofs.CauseLemmas.{name_refused}
use Rattle.wc_calls.proofs.encoders.named_world.Goals as goal

pub returns-in-Err-clause-fault : goal.returns-in-Err-clause-fault
returns-in-Err-clause-fault c =
    name_refused (document_view c.args.document.now) c.args.name.now c.in-Err.fault c.world_refused.result c.in-Err.ensures.fault c.world_refused.ensures
