use Rattle.std.proofs.Common.{◌≡◌, map}
use Rattle.wc_resolve.specs.Views.{world_entry}
use Rattle.wcplan_inputs.specs.Nearest.{interface_alike}
use Rattle.wcplan_inputs.proofs.nearest.interface_alike.Given as goal

abbrev pub invariant-loop-key : goal.invariant-loop-key
invariant-loop-key l =
    interface_alike l.resolve (map world_entry l.key-iterator) l.text ≡ interface_alike l.resolve (map world_entry l.items.entries) l.text
