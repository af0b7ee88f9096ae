use Rattle.std.proofs.Common.{◌≡◌, ◌++◌, map}
use Rattle.wc_resolve.specs.Views.{world_entry}
use Rattle.wc_selection.proofs.keys.named_keys.Given as goal
use Rattle.wc_selection.specs.Keys.{named_key, named_keys}

abbrev pub invariant-loop-key : goal.invariant-loop-key
invariant-loop-key l =
    map named_key l.keys.items ++ named_keys l.resolve (map world_entry l.key-iterator) ≡ named_keys l.resolve (map world_entry l.exports.entries)
