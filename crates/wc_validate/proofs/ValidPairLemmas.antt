-- Imports that are recorded: each as an entry at its position, and any two entries can stand together.
use Rattle.std.proofs.Common.{◌≡◌, ℕ, zero, suc, List, [], ◌∷◌, ◌++◌, All, AllPairs, Contains, Some, None, slice_get, refl, sym, ap, subst, ◌∙◌, inl, inr}
use Rattle.std.proofs.lemmas.Bool.{cases_eq}
use Rattle.std.proofs.lemmas.List.Elements.{All-cons, All-nil, All-push, All-weaker, Contains-append_left, Contains-push}
use Rattle.std.proofs.lemmas.List.Kept.{AllPairs-cons}
use Rattle.wc_read.specs.Imports.{ImportValue}
use Rattle.wc_maps.proofs.PairLemmas.{pairs_none}
use Rattle.wc_names.specs.Views.{ImportView}
use Rattle.wc_validate.specs.Imports.Entries.{Entry, single}
use Rattle.wc_validate.specs.Imports.Record.{AreEntries, ImportScope, IsEntry}
use Rattle.wc_validate.proofs.DistinctNameLemmas.{pair_either}
use Rattle.wc_validate.proofs.ContainedLemmas.{none_some, some_same}
use Rattle.wc_validate.proofs.SingleEntryLemmas.{AgreesWithFirst, AreCompatible, IsSingle, agrees_more, agrees_none, valid_compatible}

-- the entry of the import at a position
pub entry_at : (s : ImportScope) (before : List Entry) (is : List ImportValue) (xs : List Entry) (p : ℕ) (j : ImportValue) → AreEntries s before is xs
    → slice_get is p ≡ Some j
    → (y : Entry) × (slice_get xs p ≡ Some y) × IsEntry s j y
entry_at s before [] xs p j h at = absurd (none_some j at)
entry_at s before (i ∷ is) [] p j h at = absurd h
entry_at s before (i ∷ is) (x ∷ xs) zero j h at = (x, refl, subst (λ z. IsEntry s z x) (some_same at) h.0)
entry_at s before (i ∷ is) (x ∷ xs) (suc p) j h at = entry_at s (before ++ x ∷ []) is xs p j h.2 at

-- the import of the entry at a position
pub import_at : (s : ImportScope) (before : List Entry) (is : List ImportValue) (xs : List Entry) (p : ℕ) (y : Entry) → AreEntries s before is xs
    → slice_get xs p ≡ Some y
    → (j : ImportValue) × (slice_get is p ≡ Some j) × IsEntry s j y
import_at s before [] xs p y h at = absurd (let none : None ≡ Some y = ap (λ z. slice_get z p) (sym h) ∙ at in none_some y none)
import_at s before (i ∷ is) [] p y h at = absurd h
import_at s before (i ∷ is) (x ∷ xs) zero y h at = (i, refl, subst (IsEntry s i) (some_same at) h.0)
import_at s before (i ∷ is) (x ∷ xs) (suc p) y h at = import_at s (before ++ x ∷ []) is xs p y h.2 at

-- two entries of one name are one
pub one_of_name : (xs : List Entry) → AllPairs AreCompatible xs → (m n : List ℕ) (u w : ImportView) (p q : ℕ) → slice_get xs p ≡ Some (single m n u)
    → slice_get xs q ≡ Some (single m n w) → u ≡ w
one_of_name xs pairs m n u w p q at_p at_q = elim (cases_eq p q) [
  | inl is ↦ (let both : single m n u ≡ single m n w = some_same (sym at_p ∙ (ap (slice_get xs) is ∙ at_q)) in let same : u ≡ w = cc both in same)
  | inr differ ↦ elim (pair_either AreCompatible xs p q (single m n u) (single m n w) pairs differ at_p at_q) [
    | inl c ↦ absurd (c.names m n u w refl refl)
    | inr c ↦ absurd (c.names m n w u refl refl)
  ]
]

-- an entry can stand with each of these
abbrev Follows : List Entry → Entry → Type 0
Follows before x = (y : Entry) → Contains before y → AreCompatible y x

module _ (s : ImportScope) (alone : (i : ImportValue) (x : Entry) → IsEntry s i x → IsSingle x) where
  follow : (before : List Entry) (is : List ImportValue) (xs : List Entry) → All IsSingle before → AgreesWithFirst before → AreEntries s before is xs
      → All (Follows before) xs × AllPairs AreCompatible xs
  follow before [] xs singles agrees h =
      (subst (All (Follows before)) (sym h) (All-nil (Follows before)), subst (AllPairs AreCompatible) (sym h) (pairs_none AreCompatible))
  follow before (i ∷ is) [] singles agrees h = absurd h
  follow before (i ∷ is) (x ∷ xs) singles agrees h =
      let one = alone i x h.0 in
      let more = before ++ x ∷ [] in
      let rest = follow more is xs (All-push IsSingle before x singles one) (agrees_more before x agrees one h.1) h.2 in (
        All-cons (Follows before) x xs (λ y there. valid_compatible before x y singles agrees one h.1 there)
            (All-weaker (Follows more) (Follows before) (λ z each y there. each y (Contains-append_left before (x ∷ []) y there)) xs rest.0),
        AllPairs-cons AreCompatible x xs (All-weaker (Follows more) (AreCompatible x) (λ z each. each x (Contains-push before x)) xs rest.0) rest.1,
      )

  -- all pairs of entries
  pub pairs_compatible : (is : List ImportValue) (xs : List Entry) → AreEntries s [] is xs → AllPairs AreCompatible xs
  pairs_compatible is xs h = (follow [] is xs (All-nil IsSingle) agrees_none h).1
