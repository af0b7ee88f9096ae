use Rattle.std.proofs.lemmas.List.{map-append}
use Rattle.wc_read.proofs.NamesReadLemmas.{sections_more, sections_other}
use Rattle.wc_read.proofs.names.all_pairs.Goals as goal
use Rattle.wc_read.proofs.names.all_pairs.Goals.{in-Some+in_ok-pairs+in_ok-extend_from_slice, in_default}

pub loop-section-preserved : goal.loop-section-preserved
loop-section-preserved c = elim c.match-branch-2.branch [
  | in-Some+in_ok-pairs+in_ok-extend_from_slice w ↦
      rw (w.all-is, w.in_ok-extend_from_slice.ensures.items, w.deref.ensures.value, map-append)
      (sections_more _ _ _ _ _ _ _ c.loop-section.invariant c.loop-section-test.true (rw w.in-Some.is at c.in_ok-bytes.ensures.found) w.in_ok-pairs.ensures.found)
  | in_default w ↦ rw w.all-is (sections_other _ _ _ _ _ c.loop-section.invariant c.loop-section-test.true (rw w.in_default.is at c.in_ok-bytes.ensures.found))
]
