use Rattle.wc_validate.proofs.PlaceLawLemmas.{places_are_causes}
use Rattle.wc_validate.proofs.laws.places_are_causes.Goals as goal

pub returns : goal.returns
returns c = places_are_causes
