use Rattle.std.proofs.Common.{ap, map, option_map, string_bytes}
use Rattle.wc_import_paths.specs.MainModules.{main_view}
use Rattle.wc_world.specs.WorldViews.{imported_entry, imported_view, world_view}
use Rattle.wc_ways.specs.Typed.{typed_if}
use Rattle.wc_ways.specs.Private.Modules.{codes_in}
use Rattle.wc_ways.specs.Private.Wanted.{wanted_view}
use Rattle.wc_ways.proofs.LoopLemmas.{filter_end, filter_next}
use Rattle.wc_ways.proofs.typed_found.put_typed.Goals as goal

pub loop-name-preserved : goal.loop-name-preserved
loop-name-preserved c =
    let w = world_view c.args.world.now in
    let m = c.args.modules.now in
    filter_next (typed_if w c.args.key.now (main_view m.main) (codes_in m)) (map wanted_view c.loop-name.wanted.items) (map wanted_view c.put_if_typed.new.wanted.items)
    (map imported_entry c.loop-name.name-iterator) (map imported_entry c.next.new.self) (option_map string_bytes c.in-Some.name.now, imported_view c.in-Some.imported.now) _
    (ap (map imported_entry) c.in-Some.ensures.steps) c.in_ok-put_if_typed.ensures c.loop-name.invariant

pub returns : goal.returns
returns c =
    let w = world_view c.args.world.now in
    let m = c.args.modules.now in
    filter_end (typed_if w c.args.key.now (main_view m.main) (codes_in m)) (map wanted_view c.loop-name.wanted.items) (map imported_entry c.loop-name.name-iterator) _
    (ap (map imported_entry) c.in-None.ensures.steps.0) c.loop-name.invariant
