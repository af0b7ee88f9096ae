-- The ranks of numbers in a set.
use Rattle.std.specs.Prelude.{ℕ, Bool}
use Rattle.wc_gc.specs.Ranges.{in_ranges}
use Rattle.wc_gc.specs.Counts.{count_below}
use Rattle.wc_gc.specs.declared.ranks.Ranks.{Ranks}

-- whether a number is in the set
abbrev pub has_number : Ranks → ℕ → Bool
has_number r x = in_ranges r.ranges.items x

-- how many numbers of the set are below one
abbrev pub rank_of : Ranks → ℕ → ℕ
rank_of r x = count_below (has_number r) x
