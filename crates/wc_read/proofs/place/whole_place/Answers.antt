use Rattle.wc_read.proofs.PlaceLemmas.{no_contents, whole_found}
use Rattle.wc_read.proofs.place.whole_place.Goals as goal

pub returns-in_default-clause-cause : goal.returns-in_default-clause-cause
returns-in_default-clause-cause c = no_contents c.args.bytes.now c.args.fault c.in_ok-contents.field-0 c.in_default.is c.in_ok-contents.ensures

pub returns-clause-cause : goal.returns-clause-cause
returns-clause-cause c =
    whole_found c.args.bytes.now c.args.fault c.in_ok-contents.field-0 c.in-Some.contents c.in-Some.is c.in_ok-contents.ensures c.cause_place.result c.cause_place.ensures.first
