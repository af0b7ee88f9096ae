-- Sets that are filled index by index.
use Rattle.std.proofs.Common.{◌≡◌, ℕ, ◌+◌, ◌≤◌, List, length, sym, ◌∙◌, ap, Bool, true, false, ◌&&◌, ◌||◌, inl, inr, arith}
use Rattle.std.specs.Prelude.{nat_lt, nat_eq}
use Rattle.std.proofs.lemmas.Bool.Decides.{eqb_tells, nat_tests}
use Rattle.std.specs.Option.{option_map_or}
use Rattle.std.specs.Borrow.{Bor}
use Rattle.std.proofs.lemmas.Option.{slice_get_past}
use Rattle.std.proofs.Math.Bool.{and-true, and-false, or-false}
use Rattle.wc_read.specs.declared.items.Item.{Item}
use Rattle.wc_read.specs.Decoded.{FuncCode, func_code}
use Rattle.wc_gc.specs.Private.FuncGroups.{has_func}

-- filled in up to an index

pub filled_more : (p : ℕ → Bool) (i n : ℕ) (h h' b : Bool) → h' ≡ (h || (b && nat_eq n i)) → h ≡ (nat_lt n i && p n) → b ≡ p i → h' ≡ (nat_lt n (i + 1) && p n)
filled_more p i n h h' b e k s =
    elim (eqb_tells n i) [
      | inl q ↦
          let same : nat_eq n i ≡ true = grind (arith, nat_tests) in
          let now : nat_lt n (i + 1) ≡ true = grind (arith, nat_tests) in
          let past : nat_lt n i ≡ false = grind (arith, nat_tests) in
          e ∙ (ap (λ z. z || (b && nat_eq n i)) (k ∙ ap (λ z. z && p n) past)
          ∙ (ap (λ z. b && z) same ∙ (and-true b ∙ (s ∙ (ap p (sym q.1) ∙ ap (λ z. z && p n) (sym now))))))
      | inr q ↦
          let other : nat_eq n i ≡ false = grind (arith, nat_tests) in
          let same : nat_lt n (i + 1) ≡ nat_lt n i = grind (arith, nat_tests) in
          let none = ap (λ z. b && z) other ∙ and-false b in
          e ∙ (ap (λ z. h || z) none ∙ (or-false h ∙ (k ∙ ap (λ z. z && p n) (sym same))))
    ]

-- no function has an index past the last

pub none_past : (live : Bool) (test : FuncCode → Bool) (funcs : List (Item ℕ (Bor (List ℕ)))) (n : ℕ) → length funcs ≤ n
    → (live && has_func test funcs n) ≡ false
none_past live test funcs n past =
    let none = ap (λ o. option_map_or (λ f. test (func_code f)) o false) (slice_get_past funcs n past) in
    ap (λ b. live && b) none ∙ and-false live
