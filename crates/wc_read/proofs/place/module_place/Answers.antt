use Rattle.wc_read.proofs.PlaceLemmas.{any_place}
use Rattle.wc_read.proofs.place.module_place.Goals as goal

pub returns-in-None-clause-cause : goal.returns-in-None-clause-cause
returns-in-None-clause-cause c = any_place c.args.bytes.now c.args.fault c.in_ok-place.field-0 c.in-None.is c.in_ok-place.ensures.cause c.place_of.result
