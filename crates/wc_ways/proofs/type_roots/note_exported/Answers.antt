use Rattle.std.proofs.Common.{[], Option, subst, sym}
use Rattle.std.specs.Option.{option_map_or}
use Rattle.wc_resolve.specs.Roots.{interface_roots}
use Rattle.wc_resolve.specs.Views.{InterfaceView}
use Rattle.wc_world.specs.Live.{elsewhere_from}
use Rattle.wc_world.specs.Used.{used_view}
use Rattle.wc_ways.specs.Private.Needs.{Finds}
use Rattle.wc_ways.proofs.NeedLemmas.{finds_none, interface_past}
use Rattle.wc_ways.proofs.type_roots.note_exported.Goals as goal

pub returns-else-has_interface : goal.returns-else-has_interface
returns-else-has_interface c =
    let g = c.args.needing.now in
    subst (λ (o : Option InterfaceView). Finds g c.args.found.now c.args.found.now
    (elsewhere_from g.resolve.now (used_view c.args.used.now) c.args.id.0 (option_map_or interface_roots o [])))
    (sym (interface_past g.resolve.now c.args.id.0 c.has_interface.result c.has_interface.ensures c.if-has_interface.false)) (finds_none g c.args.found.now)
