-- Texts that are split at a character.
use Rattle.std.specs.Prelude.{ℕ, List, cond, nat_lt, ◌==◌, length, Option, Some, None}
use Rattle.std.specs.List.{position_or_len, before_first, after_first}

-- the texts before and after the first such character
abbrev pub split_once : ℕ → List ℕ → Option (List ℕ × List ℕ)
split_once c text =
    cond (nat_lt (position_or_len (λ b. b == c) text) (length text)) (Some (before_first (λ b. b == c) text, after_first (λ b. b == c) text)) None
