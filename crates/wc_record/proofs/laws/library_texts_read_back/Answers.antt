use Rattle.wc_record.proofs.LibraryRoundTripLemmas.{library_text_back}
use Rattle.wc_record.proofs.laws.library_texts_read_back.Goals as goal

pub returns : goal.returns
returns c = library_text_back
