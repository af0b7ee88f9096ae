use Rattle.std.proofs.lemmas.List.{map-append}
use Rattle.wc_component_file.proofs.NamesLemmas.{frames_more, frames_other}
use Rattle.wc_component_file.proofs.names.module_names.Goals as goal
use Rattle.wc_component_file.proofs.names.module_names.Goals.{in-Some+in_ok-names+in_ok-extend_from_slice, in_default}

pub loop-frame-preserved : goal.loop-frame-preserved
loop-frame-preserved c = elim c.match-content_after_name.branch [
  | in-Some+in_ok-names+in_ok-extend_from_slice w ↦
      rw (w.all-is, w.in_ok-extend_from_slice.ensures.items, w.deref.ensures.value, map-append)
      (frames_more _ _ _ _ _ _ c.loop-frame.invariant c.loop-frame-test.true (rw w.in-Some.is at c.content_after_name.ensures) w.in_ok-names.ensures)
  | in_default w ↦ rw w.all-is (frames_other _ _ _ _ c.loop-frame.invariant c.loop-frame-test.true (rw w.in_default.is at c.content_after_name.ensures))
]
