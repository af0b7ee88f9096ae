use Rattle.std.proofs.Common.{◌≡◌, ℕ, ◌<◌, ◌≤◌, get_or}
use Rattle.wc_dedupe.specs.Private.Numbers.{numbered, IsTaken}
use Rattle.wc_dedupe.specs.Private.NamePositions.{named, names_of}
use Rattle.wc_dedupe.proofs.numbers.give_number.Given as goal

abbrev pub invariant-loop-number : goal.invariant-loop-number
invariant-loop-number l =
    (l.numbers ≡ l.fn.numbers)
    × ((k : ℕ) → get_or l.fn.numbers l.position 0 ≤ k → k < l.number → IsTaken (names_of l.known.names.now) l.fn.numbers (numbered (named l.original) k))
