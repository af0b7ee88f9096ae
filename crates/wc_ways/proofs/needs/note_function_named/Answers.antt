use Rattle.std.proofs.Common.{ℕ, List, [], OnOk, Option, ap, subst, sym}
use Rattle.std.specs.Option.{option_map_or}
use Rattle.wc_resolve.specs.Roots.{function_roots}
use Rattle.wc_resolve.specs.Views.{InterfaceView}
use Rattle.wc_texts.specs.Names.{under_name}
use Rattle.wc_ways.specs.Private.Needs.{Finds}
use Rattle.wc_ways.proofs.NeedLemmas.{finds_none, interface_past}
use Rattle.wc_ways.proofs.needs.note_function_named.Goals as goal

abbrev roots_by : List ℕ → Option InterfaceView → List ℕ
roots_by name v = option_map_or function_roots (under_name (option_map_or (λ (v : InterfaceView). v.functions) v []) name) []

pub returns-then-has_interface : goal.returns-then-has_interface
returns-then-has_interface c =
    subst (λ z. OnOk c.note_function_in.result (Finds c.args.needing.now c.args.found.now c.note_function_in.new.found z))
    (sym (ap (roots_by c.args.name.now) c.interface.ensures)) c.note_function_in.ensures

pub returns-else-has_interface : goal.returns-else-has_interface
returns-else-has_interface c =
    let g = c.args.needing.now in
    subst (Finds g c.args.found.now c.args.found.now)
    (sym (ap (roots_by c.args.name.now) (interface_past g.resolve.now c.args.id.0 c.has_interface.result c.has_interface.ensures c.if-has_interface.false)))
    (finds_none g c.args.found.now)
