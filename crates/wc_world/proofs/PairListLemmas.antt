-- Pairs of lists that are put together.
use Rattle.std.proofs.Common.{List, [], ◌∷◌, ◌++◌, All, AllPairs, map, get_or}
use Rattle.std.specs.List.{flat_map}
use Rattle.std.proofs.lemmas.List.Elements.{All-append, All-cons, All-head, All-nil, All-tail}
use Rattle.std.proofs.lemmas.List.Kept.{AllPairs-cons}
use Rattle.wc_resolve.proofs.ViewedLemmas.{all_unviewed}
pub use Rattle.wc_validate.proofs.MissingLemmas.{all_rest as all_back}
use Rattle.wc_maps.proofs.PairLemmas.{pairs_head, pairs_none, pairs_tail}

pub all_front : {X : Type 0} (P : X → Type 0) (xs ys : List X) → All P (xs ++ ys) → All P xs
all_front P [] ys h = All-nil P
all_front P (x ∷ xs) ys h = All-cons P x xs (All-head P x (xs ++ ys) h) (all_front P xs ys (All-tail P x (xs ++ ys) h))

pub all_of_flat : {X Y : Type 0} (P : Y → Type 0) (f : X → List Y) (xs : List X) → All (λ x. All P (f x)) xs → All P (flat_map f xs)
all_of_flat P f [] h = All-nil P
all_of_flat P f (x ∷ xs) h = All-append P (f x) (flat_map f xs) (All-head (λ z. All P (f z)) x xs h) (all_of_flat P f xs (All-tail (λ z. All P (f z)) x xs h))

module _ {X : Type 0} (R : X → X → Type 0) where
  pub pairs_front : (xs ys : List X) → AllPairs R (xs ++ ys) → AllPairs R xs
  pairs_front [] ys h = pairs_none R
  pairs_front (x ∷ xs) ys h = AllPairs-cons R x xs (all_front (R x) xs ys (pairs_head R x (xs ++ ys) h)) (pairs_front xs ys (pairs_tail R x (xs ++ ys) h))

  pub pairs_across : (xs ys : List X) → All (λ x. All (R x) ys) xs → AllPairs R xs → AllPairs R ys → AllPairs R (xs ++ ys)
  pairs_across [] ys across front back = back
  pairs_across (x ∷ xs) ys across front back =
      AllPairs-cons R x (xs ++ ys) (All-append (R x) xs ys (pairs_head R x xs front) (All-head (λ z. All (R z) ys) x xs across))
      (pairs_across xs ys (All-tail (λ z. All (R z) ys) x xs across) (pairs_tail R x xs front) back)

  pub pairs_one : (x : X) → AllPairs R (x ∷ [])
  pairs_one x = AllPairs-cons R x [] (All-nil (R x)) (pairs_none R)

  pub pairs_unviewed : {Y : Type 0} (f : Y → X) (ys : List Y) → AllPairs R (map f ys) → AllPairs (λ a b. R (f a) (f b)) ys
  pairs_unviewed f [] h = pairs_none (λ a b. R (f a) (f b))
  pairs_unviewed f (y ∷ ys) h =
      AllPairs-cons (λ a b. R (f a) (f b)) y ys (all_unviewed f (R (f y)) ys (pairs_head R (f y) (map f ys) h)) (pairs_unviewed f ys (pairs_tail R (f y) (map f ys) h))

  -- pairs of what elements give: within one element, and across two of them
  pub pairs_of_flat : {Y : Type 0} (f : Y → List X) (ys : List Y) → All (λ y. AllPairs R (f y)) ys → AllPairs (λ a b. All (λ x. All (R x) (f b)) (f a)) ys → AllPairs R (flat_map f ys)
  pairs_of_flat f [] each across = pairs_none R
  pairs_of_flat f (y ∷ ys) each across =
      let heads : All (λ b. All (λ x. All (R x) (f b)) (f y)) ys = pairs_head (λ a b. All (λ x. All (R x) (f b)) (f a)) y ys across in
      pairs_across (f y) (flat_map f ys) (λ k d small. all_of_flat (R (get_or (f y) k d)) f ys (λ j e less. heads j e less k d small)) (All-head (λ z. AllPairs R (f z)) y ys each)
      (pairs_of_flat f ys (All-tail (λ z. AllPairs R (f z)) y ys each) (pairs_tail (λ a b. All (λ x. All (R x) (f b)) (f a)) y ys across))
