use Rattle.std.proofs.Common.{◌≡◌, subst}
use Rattle.std.specs.Prelude.{◌||◌}
use Rattle.wc_world.specs.Used.{has_interface}
use Rattle.wc_world.proofs.UsedLemmas.{among, insert_next}
use Rattle.wc_world.proofs.used.add_all.Goals as goal

pub loop-id-preserved : goal.loop-id-preserved
loop-id-preserved c = λ j.
    insert_next (has_interface c.loop-id.set j) (has_interface c.insert.new.self j) c.in-Some.id.now.0 j c.next.new.self (has_interface c.args.set.now j || has_interface c.args.more.now j)
    (c.in_ok-insert.ensures.updates.0 (record { 0 = j }))
    (subst (λ z. (has_interface c.loop-id.set j || among z j) ≡ (has_interface c.args.set.now j || has_interface c.args.more.now j)) c.in-Some.ensures.steps (c.loop-id.invariant j))
