use Rattle.std.proofs.Common.{ap, map, refl, string_bytes, option_map}
use Rattle.wc_why.specs.Texts.{text_of}
use Rattle.wc_world.specs.WorldViews.{imported_entry, imported_view, world_view}
use Rattle.wc_ways.proofs.AskedKeyLemmas.{left_next, left_none}
use Rattle.wc_ways.proofs.asked_keys.AskedKeys.new.Goals as goal

pub loop-name-preserved : goal.loop-name-preserved
loop-name-preserved c =
    let w = world_view c.args.world.now in
    left_next c.args.key.now w.import_map (map imported_entry c.loop-name.name-iterator) (map imported_entry c.next.new.self)
    (option_map string_bytes c.in-Some.name.now, imported_view c.in-Some.imported.now) c.loop-name.names.entries c.list_if_asked.new.names.entries
    (ap (map imported_entry) c.in-Some.ensures.steps) c.in_ok-list_if_asked.ensures c.loop-name.invariant

pub returns : goal.returns
returns c =
    let w = world_view c.args.world.now in
    record {
      key = refl;
      names = left_none c.args.key.now w.import_map (map imported_entry c.loop-name.name-iterator) c.loop-name.names.entries (ap (map imported_entry) c.in-None.ensures.steps.0) c.loop-name.invariant;
      own = ap (map text_of) (rw c.new-own.ensures.items at c.in_ok-push.ensures.items);
    }
