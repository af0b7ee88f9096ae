-- The prefixes of texts.
use Rattle.std.specs.Prelude.{ℕ, List, Option, Some, None, cond, length, take, drop}
use Rattle.std.specs.Str.{bytes_eq}

-- the rest of a text after a prefix; None where the text does not begin with it
abbrev pub rest_after : List ℕ → List ℕ → Option (List ℕ)
rest_after prefix text = cond (bytes_eq (take (length prefix) text) prefix) (Some (drop (length prefix) text)) None
