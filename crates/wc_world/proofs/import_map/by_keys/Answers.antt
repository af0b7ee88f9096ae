use Rattle.std.specs.Vec.Iter.{into_iter_items}
use Rattle.wc_world.proofs.KeyedLemmas.{key_law, put_next, same_key}
use Rattle.wc_world.proofs.import_map.by_keys.Goals as goal

pub loop-key-preserved-in_ok-insert : goal.loop-key-preserved-in_ok-insert
loop-key-preserved-in_ok-insert c = λ distinct.
    put_next same_key key_law c.args.lowerings.items (into_iter_items c.loop-key.key-iterator) (into_iter_items c.next.new.self) c.loop-key.found.entries c.insert.new.self.entries (c.in-Some.key, c.in-Some.lowering) distinct
    c.in-Some.ensures.steps.0 c.in_ok-insert.ensures.entries (c.loop-key.invariant distinct)

pub loop-key-preserved-in_ok-insert-2 : goal.loop-key-preserved-in_ok-insert-2
loop-key-preserved-in_ok-insert-2 c = λ distinct.
    put_next same_key key_law c.args.lowerings.items (into_iter_items c.loop-key.key-iterator) (into_iter_items c.next.new.self) c.loop-key.found.entries c.insert.new.self.entries (c.in-Some.key, c.in-Some.lowering) distinct
    c.in-Some.ensures.steps.0 c.in_ok-insert.ensures.entries (c.loop-key.invariant distinct)

pub loop-key-preserved : goal.loop-key-preserved
loop-key-preserved c = λ distinct.
    put_next same_key key_law c.args.lowerings.items (into_iter_items c.loop-key.key-iterator) (into_iter_items c.next.new.self) c.loop-key.found.entries c.insert.new.self.entries (c.in-Some.key, c.in-Some.lowering) distinct
    c.in-Some.ensures.steps.0 c.in_ok-insert.ensures.entries (c.loop-key.invariant distinct)
