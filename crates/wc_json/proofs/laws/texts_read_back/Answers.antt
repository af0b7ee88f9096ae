use Rattle.wc_json.proofs.TextRoundTripLemmas.{document-document_text}
use Rattle.wc_json.proofs.laws.texts_read_back.Goals as goal

pub returns : goal.returns
returns c = document-document_text
