use Rattle.wc_gc.proofs.TrimPlaceLemmas.{place_of_fault}
use Rattle.wc_gc.proofs.TrimLemmas.{fault_trims}
use Rattle.wc_gc.proofs.trim_place.places_are_of_faults.Goals as goal

pub returns : goal.returns
returns c = λ s w f p h. fault_trims s w f (place_of_fault w f p h)
