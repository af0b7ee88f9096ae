use Rattle.std.proofs.Common.{◌≡◌, map}
use Rattle.wc_resolve.specs.Views.{world_entry}
use Rattle.wcplan_inputs.specs.Nearest.{interface_named}
use Rattle.wcplan_inputs.proofs.nearest.interface_named.Given as goal

abbrev pub invariant-loop-key : goal.invariant-loop-key
invariant-loop-key l =
    interface_named l.resolve (map world_entry l.key-iterator) l.text ≡ interface_named l.resolve (map world_entry l.items.entries) l.text
