use Rattle.wc_gc.proofs.AddedBodyLemmas.{growing_is_body, stack_is_body}
use Rattle.wc_gc.proofs.machine_laws.added_bodies_are_spellable.Goals as goal

pub returns-clause-growing : goal.returns-clause-growing
returns-clause-growing c = growing_is_body

pub returns-clause-stack : goal.returns-clause-stack
returns-clause-stack c = stack_is_body
