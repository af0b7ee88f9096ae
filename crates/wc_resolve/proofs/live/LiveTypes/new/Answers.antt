use Rattle.wc_resolve.proofs.MarkLemmas.{marks_none}
use Rattle.wc_resolve.proofs.live.LiveTypes.new.Goals as goal

pub invariant_of-result : goal.invariant_of-result
invariant_of-result c = rw (c.new-types.ensures.items, c.new-there.ensures.items) marks_none
