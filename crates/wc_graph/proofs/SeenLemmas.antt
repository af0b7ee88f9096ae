-- Marks of what was found, of items that are numbered from 0.
use Rattle.std.proofs.Common.{◌≡◌, ℕ, ◌+◌, ◌<◌, ◌≤◌, List, [], ◌∷◌, ◌++◌, take, length, get_or, set, refl, sym, subst, Bool, true, false, inl, inr}
use Rattle.std.proofs.Common.{get_or-set_same, get_or-set_other}
use Rattle.std.specs.Prelude.{IsTrue}
use Rattle.std.proofs.lemmas.Bool.{cases_eq, cases_lt, both_ways, eqb-true}
use Rattle.std.proofs.lemmas.Bool.Decides.{Decides-eqb}
use Rattle.std.proofs.lemmas.List.{get_or_past, take_more}
use Rattle.std.proofs.lemmas.List.Elements.{Contains-get_or}
use Rattle.std.proofs.lemmas.Map.Made.{IsDistinct-from_AllPairs}
use Rattle.std.proofs.lemmas.Map.Steps.{length-le_from_distinct_below}
use Rattle.std.proofs.lemmas.Map.Views.{Contains-from_any}
use Rattle.wc_graph.specs.Growth.{IsTied, HasGrown, IsGrown}
use Rattle.wc_graph.proofs.GrowthLemmas.{grown_old, grown_push, only_if_tied}

abbrev pub marked : List Bool → ℕ → Bool
marked marks x = get_or marks x false

pub mark_push : (marks : List Bool) (found : List ℕ) (x : ℕ) → x < length marks → get_or marks x false ≡ false → IsTied (marked marks) found
    → HasGrown found (marked (set marks x true)) (found ++ x ∷ []) (x ∷ [])
mark_push marks found x within new tied =
    grown_push (λ a b. cases_eq a b) (marked marks) (marked (set marks x true)) found x new (record {
      present = get_or-set_same marks x true false within;
      others = λ y n. get_or-set_other marks x y true false n;
    }) tied

pub mark_again : (marks : List Bool) (found : List ℕ) (x : ℕ) → get_or marks x false ≡ true → IsTied (marked marks) found
    → HasGrown found (marked marks) found (x ∷ [])
mark_again marks found x old tied =
    grown_old (λ a b. cases_eq a b) (marked marks) (marked marks) found x old (record { present = old; others = λ y n. refl }) tied

pub grown_next : (has has' has'' : ℕ → Bool) (found found' found'' items : List ℕ) (i : ℕ) → i < length items
    → IsGrown has found has' found' (take i items) → IsGrown has' found' has'' found'' (get_or items i 0 ∷ []) → IsGrown has found has'' found'' (take (i + 1) items)
grown_next has has' has'' found found' found'' items i h a b =
    subst (λ z. IsGrown has found has'' found'' z) (sym (take_more items i 0 h)) (only_if_tied has found has' found' has'' found'' (take i items) (get_or items i 0 ∷ []) a b)

pub below_marks : (marks : List Bool) (x : ℕ) → IsTrue (marked marks x) → x < length marks
below_marks marks x h = elim (cases_lt x (length marks)) [ inl l ↦ l | inr n ↦ absurd (both_ways (get_or marks x false) (get_or_past marks x false n) h) ]

pub found_below : (marks : List Bool) (found : List ℕ) → IsTied (marked marks) found → (k d : ℕ) → k < length found → get_or found k d < length marks
found_below marks found tied k d h = below_marks marks (get_or found k d) (tied.is_in_set (get_or found k d) (Contains-get_or found k d h))

-- what was found is no more than there are marks
pub found_bounded : (marks : List Bool) (found : List ℕ) → IsTied (marked marks) found → length found ≤ length marks
found_bounded marks found tied =
    length-le_from_distinct_below found (length marks) (IsDistinct-from_AllPairs Decides-eqb found tied.distinct)
    (λ q h. below_marks marks q (tied.is_in_set q (Contains-from_any (λ x y e. eqb-true x y e) q found h)))
