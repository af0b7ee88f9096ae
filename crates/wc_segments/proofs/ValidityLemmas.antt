-- Checks of one thing after another.
use Rattle.std.proofs.Common.{◌≡◌, ℕ, ◌+◌, ◌<◌, ◌≤◌, List, length, map, get_or, sym, subst, inl, inr, arith}
use Rattle.std.specs.Prelude.{All}
use Rattle.std.proofs.lemmas.Bool.{cases_lt}
use Rattle.std.proofs.lemmas.List.{length-map, get_or_default, get_or-map}
use Rattle.std.proofs.lemmas.List.Elements.{All-map}

module _ {A B : Type 0} (P : B → Type 0) (view : A → B) (xs : List A) where
  -- those before an index are as P says
  pub record HoldTo (index : ℕ) : Type 0 where
    pub each : (k : ℕ) (d : A) → k < index → P (view (get_or xs k d))

  pub hold_start : HoldTo 0
  hold_start = record { each = λ k d lt. absurd (omega (arith, lt)) }

  pub hold_more : (i : ℕ) (d : A) → i < length xs → HoldTo i → P (view (get_or xs i d)) → HoldTo (i + 1)
  hold_more i d lt h here = record {
    each = λ k e less. elim (cases_lt k i) [
      | inl before ↦ h.each k e before
      | inr past ↦
          let same : k ≡ i = omega (arith, less, past) in
          subst (λ (n : ℕ). P (view (get_or xs n e))) (sym same) (subst (λ (x : A). P (view x)) (get_or_default xs i d e lt) here)
    ];
  }

  pub hold_all : (i : ℕ) → length xs ≤ i → HoldTo i → All P (map view xs)
  hold_all i over h = All-map P view xs (λ k d lt. h.each k d (omega (arith, lt, over)))

  pub hold_not : (i : ℕ) (d : A) → i < length xs → ¬ (P (view (get_or xs i d))) → ¬ (All P (map view xs))
  hold_not i d lt wrong all =
      let l = length-map xs view in
      wrong (subst P (get_or-map view xs i d (view d) lt) (all i (view d) (omega (arith, lt, l))))
