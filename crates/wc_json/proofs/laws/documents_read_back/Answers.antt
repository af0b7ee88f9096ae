use Rattle.wc_json.proofs.DocumentRoundTripLemmas.{document_of-document_json}
use Rattle.wc_json.proofs.laws.documents_read_back.Goals as goal

pub returns : goal.returns
returns c = document_of-document_json
