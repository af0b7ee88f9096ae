use Rattle.std.proofs.Common.{◌≡◌, map}
use Rattle.wc_resolve.specs.Views.{world_entry}
use Rattle.wcplan_inputs.specs.Nearest.{first_near, key_texts}
use Rattle.wcplan_inputs.proofs.nearest.near_key.Given as goal

abbrev pub invariant-loop-key : goal.invariant-loop-key
invariant-loop-key l =
    first_near l.name (key_texts l.resolve (map world_entry l.key-iterator)) ≡ first_near l.name (key_texts l.resolve (map world_entry l.items.entries))
