-- What holds of each pair of a list, from its first element on.
use Rattle.std.proofs.Common.{◌↔◌, zero, suc, List, [], ◌∷◌, All, AllPairs, arith}
use Rattle.std.proofs.lemmas.List.Kept.{AllPairs-cons}

module _ {X : Type 0} (R : X → X → Type 0) where
  pub pairs_head : (x : X) (xs : List X) → AllPairs R (x ∷ xs) → All (R x) xs
  pairs_head x xs h j d small = h zero (suc j) d (omega arith) (omega arith)

  pub pairs_tail : (x : X) (xs : List X) → AllPairs R (x ∷ xs) → AllPairs R xs
  pairs_tail x xs h i j d less small = h (suc i) (suc j) d (omega arith) (omega arith)

  pub pairs_none : AllPairs R []
  pairs_none i j d less small = absurd (omega (arith, small))

  -- where the relation holds of the first and all others, the pairs are those of the rest
  pub pairs_step : (x : X) (xs : List X) → All (R x) xs → AllPairs R (x ∷ xs) ↔ AllPairs R xs
  pairs_step x xs first = (pairs_tail x xs, AllPairs-cons R x xs first)
