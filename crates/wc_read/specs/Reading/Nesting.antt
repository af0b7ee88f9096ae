-- The stack of open blocks, the inmost first: whether an `else` may occur in each (5.4.1).
use Rattle.std.specs.Prelude.{List, [], ◌∷◌, Bool, true, false, if◌then◌else◌, Option, Some, None, ◌≡◌}
use Rattle.wc_read.specs.Options.{◌>>=◌}
use Rattle.wc_read.specs.declared.nesting.Token.{Token}
use Rattle.wc_read.specs.declared.nesting.Token.TheVariants.{Plain, Block, If, Else, End}

abbrev pub step : List Bool → Token → Option (List Bool)
step [] t = None
step (is_if ∷ blocks) Plain = Some (is_if ∷ blocks)
step (is_if ∷ blocks) Block = Some (false ∷ is_if ∷ blocks)
step (is_if ∷ blocks) If = Some (true ∷ is_if ∷ blocks)
step (is_if ∷ blocks) Else = if is_if then Some (false ∷ blocks) else None
step (is_if ∷ blocks) End = Some blocks

-- what a step gave: a stack, or none
abbrev pub Steps : Bool → Option (List Bool) → List Bool → Type 0
Steps true o blocks = o ≡ Some blocks
Steps false o blocks = o ≡ None

unfoldable pub steps : List Bool → List Token → Option (List Bool)
steps blocks [] = Some blocks
steps blocks (t ∷ ts) = step blocks t >>= λ others. steps others ts

abbrev pub is_closed : Option (List Bool) → Bool
is_closed None = false
is_closed (Some []) = true
is_closed (Some (b ∷ blocks)) = false

abbrev pub is_nested : List Token → Bool
is_nested ts = is_closed (steps (false ∷ []) ts)
