use Rattle.std.proofs.Common.{refl}
use Rattle.wc_component_file.proofs.FilesLemmas.{modules_more, modules_same}
use Rattle.wc_component_file.proofs.file.core_modules.Goals as goal
use Rattle.wc_component_file.proofs.file.core_modules.Goals.{then-frame-eq-CORE_MODULE_ID+in_ok-push, else-frame-eq-CORE_MODULE_ID}

pub loop-frame-preserved : goal.loop-frame-preserved
loop-frame-preserved c = elim c.if-frame-eq-CORE_MODULE_ID.branch [
  | then-frame-eq-CORE_MODULE_ID+in_ok-push w ↦
      rw w.modules-is (modules_more _ _ _ _ _ _ c.loop-frame.invariant c.loop-frame-test.true w.if-frame-eq-CORE_MODULE_ID.true w.in_ok-push.ensures.items refl)
  | else-frame-eq-CORE_MODULE_ID w ↦ rw w.modules-is (modules_same _ _ _ _ c.loop-frame.invariant c.loop-frame-test.true w.if-frame-eq-CORE_MODULE_ID.false)
]
