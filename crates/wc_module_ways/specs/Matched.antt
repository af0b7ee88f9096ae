-- Two lists of one length, of which each is to the other as a relation says, place by place.
use Rattle.std.specs.Prelude.{◌≡◌, ℕ, List, length, Some}
use Rattle.std.specs.List.{slice_get}

pub record AreMatched {A B : Type 0} (Is : A → B → Type 0) (xs : List A) (ys : List B) : Type 0 where
  pub each : length ys ≡ length xs
  pub at : (k : ℕ) (x : A) (y : B) → slice_get xs k ≡ Some x → slice_get ys k ≡ Some y → Is x y
