use Rattle.std.proofs.Common.{◌≡◌, ◌++◌, take}
use Rattle.std.specs.List.{flat_map}
use Rattle.wc_calls.specs.Renames.{rename_text}
use Rattle.wc_calls.proofs.renames.put_renames.Given as goal

abbrev pub invariant-loop-index : goal.invariant-loop-index
invariant-loop-index l = l.out.items ≡ l.fn.out.items ++ flat_map rename_text (take l.index l.renames)
