use Rattle.std.proofs.Common.{ℕ, ◌+◌, ◌<◌, get_or}
use Rattle.wc_dedupe.specs.Private.NameKeys.{NameKey}
use Rattle.wc_dedupe.proofs.name_keys.are_different.Given as goal

abbrev pub invariant-loop-index : goal.invariant-loop-index
invariant-loop-index l = (k : ℕ) (d : NameKey) → k + 1 < l.index → (get_or l.keys k d).0 < (get_or l.keys (k + 1) d).0
