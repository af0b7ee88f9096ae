use Rattle.std.proofs.Common.{OnOk, filter, subst}
use Rattle.wc_world.specs.Live.{is_from_elsewhere}
use Rattle.wc_world.specs.Used.{used_view}
use Rattle.wc_ways.specs.Private.Needs.{Finds, interface_types}
use Rattle.wc_ways.proofs.RootLemmas.{live_listed}
use Rattle.wc_ways.proofs.type_roots.note_exported_there.Goals as goal

pub returns : goal.returns
returns c =
    let g = c.args.needing.now in
    let r = g.resolve.now in
    subst (λ z. OnOk c.note_from_elsewhere.result (Finds g c.args.found.now c.note_from_elsewhere.new.found
    (filter (is_from_elsewhere r (used_view c.args.used.now) c.args.id.0) z)))
    (live_listed r c.clear.new.self c.add_world_item.new.self (interface_types r c.args.id.0) c.clear.ensures c.in_ok-add_world_item.ensures.added)
    c.note_from_elsewhere.ensures
