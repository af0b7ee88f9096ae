use Rattle.std.proofs.Common.{◌≡◌, ◌++◌, map}
use Rattle.std.specs.List.{filter_map}
use Rattle.wc_import_paths.specs.MainModules.{main_view}
use Rattle.wc_world.specs.WorldViews.{imported_entry, world_view}
use Rattle.wc_ways.specs.Typed.{typed_if, typed_in}
use Rattle.wc_ways.specs.Private.Modules.{codes_in}
use Rattle.wc_ways.specs.Private.Wanted.{wanted_view}
use Rattle.wc_ways.proofs.typed_found.put_typed.Given as goal

abbrev pub invariant-loop-name : goal.invariant-loop-name
invariant-loop-name l =
    let w = world_view l.world in
    let m = l.modules in
    map wanted_view l.wanted.items ++ filter_map (typed_if w l.key (main_view m.main) (codes_in m)) (map imported_entry l.name-iterator)
    ≡ map wanted_view l.fn.wanted.items ++ typed_in w l.key (main_view m.main) (codes_in m)
