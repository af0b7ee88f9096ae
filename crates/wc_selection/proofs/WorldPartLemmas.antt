-- Worlds that are parts of others.
use Rattle.std.proofs.Common.{◌≡◌, ◌≢◌, ◌↔◌, ◌<◌, ◌+◌, ℕ, Bool, true, false, IsTrue, List, length, Some, refl, sym, ◌∙◌, subst, inl, inr, arith}
use Rattle.std.proofs.lemmas.Bool.Decides.{eqb_tells}
use Rattle.std.proofs.lemmas.Option.{same_Some, slice_get_within}
use Rattle.std.specs.List.{slice_get}
use Rattle.wc_resolve.specs.Views.{WorldView}
use Rattle.wc_selection.specs.WorldParts.{HasAllParts, IsOtherPart, IsPart, IsProperPart}

-- of worlds below an index: the only one that has all others for parts is the one at another index
abbrev pub FoundBelow : List WorldView → ℕ → ℕ → Type 0
FoundBelow ws n whole = (index : ℕ) → index < n → HasAllParts ws index → whole ≡ index

abbrev pub PartsBelow : List WorldView → ℕ → ℕ → Type 0
PartsBelow ws n whole = (other : ℕ) → other < n → IsOtherPart ws other whole

pub none_below : (ws : List WorldView) (whole : ℕ) → PartsBelow ws 0 whole
none_below ws whole other lt = absurd (let e : ⊥ = omega (arith, lt) in e)

module _ (ws : List WorldView) (whole index : ℕ) (a b : WorldView) (at_whole : slice_get ws whole ≡ Some a) (at_index : slice_get ws index ≡ Some b) (holds : Bool)
    (test : IsTrue holds ↔ IsPart a b) where
  apart_from : (w : ℕ) → w < index → index ≢ w
  apart_from w lt e = let bad : ⊥ = omega (arith, lt, e) in bad

  pub moved : holds ≡ true → FoundBelow ws index whole → FoundBelow ws (index + 1) index
  moved is found w lt all = elim (eqb_tells index w) [
    | inl same ↦ same.1
    | inr differ ↦ absurd (
        let ne = differ.1 in
        let less : w < index = omega (arith, lt, ne) in
        let here : whole ≡ w = found w less all in
        let at_w : slice_get ws w ≡ Some a = subst (λ (k : ℕ). slice_get ws k ≡ Some a) here at_whole in
        (all.1 index (apart_from w less) b a at_index at_w).1 (test.0 is))
  ]

  pub stayed : holds ≡ false → FoundBelow ws index whole → FoundBelow ws (index + 1) whole
  stayed is found w lt all = elim (eqb_tells index w) [
    | inl same ↦ elim (eqb_tells whole index) [
      | inl here ↦ here.1 ∙ same.1
      | inr differ ↦ absurd (
          let all_index : HasAllParts ws index = subst (HasAllParts ws) (sym same.1) all in
          let part : IsPart a b = (all_index.1 whole differ.1 a b at_whole at_index).0 in
          let bad : false ≡ true = sym is ∙ test.1 part in let e : ⊥ = cc bad in e)
    ]
    | inr differ ↦ let ne = differ.1 in let less : w < index = omega (arith, lt, ne) in found w less all
  ]

module _ (ws : List WorldView) (whole index : ℕ) (holds : Bool) (test : IsTrue holds ↔ IsOtherPart ws index whole) where
  pub one_more_part : holds ≡ true → PartsBelow ws index whole → PartsBelow ws (index + 1) whole
  one_more_part is below other lt = elim (eqb_tells other index) [
    | inl same ↦ subst (λ (k : ℕ). IsOtherPart ws k whole) (sym same.1) (test.0 is)
    | inr differ ↦ let ne = differ.1 in let less : other < index = omega (arith, lt, ne) in below other less
  ]

  pub not_a_part : holds ≡ false → IsTrue false ↔ HasAllParts ws whole
  not_a_part is = (
    (λ t. absurd (let e : false ≡ true = t in let bad : ⊥ = cc e in bad)),
    (λ all. sym is ∙ test.1 (all.1 index)),
  )

-- all worlds have been looked at
pub all_found : (ws : List WorldView) (n whole : ℕ) → length ws ≡ n → FoundBelow ws n whole → (index : ℕ) → HasAllParts ws index → whole ≡ index
all_found ws n whole is found index all = let lt = all.0 in found index (subst (λ (k : ℕ). index < k) is lt) all

pub all_are_parts : (ws : List WorldView) (n whole : ℕ) → length ws ≡ n → whole < length ws → PartsBelow ws n whole → IsTrue true ↔ HasAllParts ws whole
all_are_parts ws n whole is there below = (
  (λ t. (
    there,
    λ other ne part w at_other at_whole.
        below other (subst (λ (k : ℕ). other < k) is (slice_get_within ws other part at_other)) ne part w at_other at_whole,
  )),
  (λ all. refl),
)

-- the world at an index and the one at another
module _ (ws : List WorldView) (index whole : ℕ) where
  pub same_index : index ≡ whole → IsTrue true ↔ IsOtherPart ws index whole
  same_index same = ((λ t. λ ne. absurd (ne same)), (λ other. refl))

  pub other_index : (a b : WorldView) (holds : Bool) → slice_get ws index ≡ Some a → slice_get ws whole ≡ Some b → index ≢ whole → IsTrue holds ↔ IsProperPart a b
      → IsTrue holds ↔ IsOtherPart ws index whole
  other_index a b holds at_index at_whole ne test = (
    (λ t. λ _ part w at_part at_w.
        let p : a ≡ part = same_Some a part (sym at_index ∙ at_part) in
        let q : b ≡ w = same_Some b w (sym at_whole ∙ at_w) in
        subst (λ (y : WorldView). IsProperPart part y) q (subst (λ (x : WorldView). IsProperPart x b) p (test.0 t))),
    (λ other. test.1 (other ne a b at_index at_whole)),
  )
