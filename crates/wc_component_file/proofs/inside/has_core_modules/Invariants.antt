use Rattle.wc_component_file.proofs.SearchLemmas.{contents_now}
use Rattle.wc_component_file.proofs.InsideLemmas.{AreWaiting, waiting_size}
use Rattle.wc_component_file.proofs.inside.has_core_modules.Given as goal

abbrev pub invariant-loop-component : goal.invariant-loop-component
invariant-loop-component l = AreWaiting l.fn.bytes (contents_now l.waiting.items)

abbrev pub decreases-loop-component : goal.decreases-loop-component
decreases-loop-component l = waiting_size (contents_now l.waiting.items)
