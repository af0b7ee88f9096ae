use Rattle.std.proofs.Common.{length, lt-ltb}
use Rattle.wc_ways.specs.Private.Needs.{noted_in, root_view}
use Rattle.wc_ways.proofs.NeedLemmas.{found_type_on_ok}
use Rattle.wc_ways.proofs.needs.note_there.Goals as goal

pub returns : goal.returns
returns c =
    let g = c.args.needing.now in
    found_type_on_ok g.resolve.now (root_view g.root) c.args.id.0 (noted_in c.args.found.now) c.note_all.new.needed.roots.entries c.clear.new.self
    c.add_world_item_beside.new.self c.note_all.result c.clear.ensures (lt-ltb c.args.id.0 (length g.resolve.now.types) c.requires)
    c.in_ok-add_world_item_beside.ensures.added c.note_all.ensures
