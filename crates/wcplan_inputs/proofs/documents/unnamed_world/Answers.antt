use Rattle.std.proofs.Common.{None}
use Rattle.wc_json.specs.Document.{document_view}
use Rattle.wcplan_inputs.proofs.WorldsLemmas.{unknown_world}
use Rattle.wcplan_inputs.proofs.documents.unnamed_world.Goals as goal

pub returns-in-None-clause-fault : goal.returns-in-None-clause-fault
returns-in-None-clause-fault c = unknown_world (document_view c.args.document.now) None c.no_world.result c.in-None.ensures.none c.no_world.ensures
