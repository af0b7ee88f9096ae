-- What is at an index of a list, by the answer of a look-up.
use Rattle.std.proofs.Common.{◌≡◌, ◌<◌, ◌≤◌, ◌∙◌, ap, ℕ, List, length, nat_lt, get_or, Option, Some, None, refl, sym, subst}
use Rattle.std.specs.Borrow.{Bor}
use Rattle.std.specs.List.{slice_get}
use Rattle.std.specs.Option.{is_some}
use Rattle.std.specs.Prelude.{IfSome}
use Rattle.std.proofs.lemmas.Bool.{ltb-false, ltb-true}
use Rattle.std.proofs.lemmas.Option.{slice_get_past, slice_get_read}

module _ {A : Type 0} (xs : List A) (i : ℕ) (r : Option (Bor A)) (test : is_some r ≡ nat_lt i (length xs)) where
  pub some_at : IfSome r (λ y. y.now ≡ get_or xs i y.now) → (x : Bor A) → r ≡ Some x → slice_get xs i ≡ Some x.now
  some_at h x is =
      let lt : i < length xs = ltb-true i (length xs) (sym test ∙ ap is_some is) in
      slice_get_read xs (length xs) i x.now refl lt (subst (λ o. IfSome o (λ y. y.now ≡ get_or xs i y.now)) is h)

  pub past_at : r ≡ None → length xs ≤ i
  past_at is = ltb-false i (length xs) (sym test ∙ ap is_some is)

  pub none_at : r ≡ None → slice_get xs i ≡ None
  none_at is = slice_get_past xs i (past_at is)
