use Rattle.std.proofs.Common.{ap, refl, sym}
use Rattle.std.proofs.lemmas.Bool.{ltb-false}
use Rattle.std.proofs.lemmas.Option.{slice_get_past, slice_get_read}
use Rattle.std.specs.Option.{option_flatten}
use Rattle.wc_ways.proofs.tree.end_at.Goals as goal

pub returns-in-Some : goal.returns-in-Some
returns-in-Some c = ap option_flatten (sym (slice_get_read _ _ _ _ refl c.in-Some.ensures.lookup.3.0 c.in-Some.ensures.lookup.1))

pub returns-in-None : goal.returns-in-None
returns-in-None c = ap option_flatten (sym (slice_get_past _ _ (ltb-false _ _ (sym c.in-None.ensures.lookup.0))))
