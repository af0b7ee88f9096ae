-- Marks of types that are settled.
use Rattle.std.proofs.Common.{◌≡◌, ◌∙◌, ◌↔◌, ◌⊎◌, ◌<◌, ℕ, zero, suc, length, inl, inr, Bool, true, false, IsTrue, List, [], ◌∷◌, ◌++◌, Option, Some, None, filter, refl, sym, subst, arith}
use Rattle.std.specs.Prelude.{◌||◌, ◌&&◌, ◌==◌, not}
use Rattle.std.specs.List.{Contains}
use Rattle.std.specs.Option.{option_map_or}
use Rattle.std.proofs.lemmas.Bool.{cases_eq, cases_lt, eqb-true, or_cases, or_right}
use Rattle.std.proofs.lemmas.List.{get_or_past}
use Rattle.std.proofs.lemmas.List.Elements.{Contains-append_cases, Contains-append_left, Contains-append_right, Contains-push}
use Rattle.wc_resolve.specs.declared.ids.InterfaceId.{InterfaceId}
use Rattle.wc_resolve.specs.Dependencies.{interface_owning}
use Rattle.wc_resolve.specs.Kinds.{ResolveView}
use Rattle.wc_resolve.specs.Live.{IsComplete}
use Rattle.wc_adapters.specs.Entries.{Entries}
use Rattle.wc_world.specs.Live.{is_from_elsewhere, is_used}
use Rattle.wc_world.specs.Used.{AreUsed, UsedView}
use Rattle.wc_world.specs.Private.Marks.{UseFurther, holds, is_within, known_to, mark_of, numbers_below}
use Rattle.wc_world.specs.Private.Settled.{AreSettled}
use Rattle.wc_world.proofs.UsedLemmas.{filter_from, filter_has, leads_on}

numbers_there : (n x : ℕ) → x < n → Contains (numbers_below n) x
numbers_there zero x small = absurd (let bad : ⊥ = omega arith in bad)
numbers_there (suc n) x small = elim (cases_eq x n) [
  | inl same ↦ subst (Contains (numbers_below n ++ n ∷ [])) (sym same) (Contains-push (numbers_below n) n)
  | inr other ↦ Contains-append_left (numbers_below n) (n ∷ []) x (numbers_there n x (omega arith))
]

-- what is marked for some has a mark
pub marked_reach : (p : ℕ → Bool) (m : Option (Option InterfaceId)) → holds p m ≡ true → (reach : Option InterfaceId) × (m ≡ Some reach)
marked_reach p (Some reach) h = (reach, refl)
marked_reach p None h = absurd (let bad : ⊥ = cc h in bad)

marked_in : (marks : List (Option (Option InterfaceId))) (t : ℕ) (reach : Option InterfaceId) → mark_of marks t ≡ Some reach → t < length marks
marked_in marks t reach is = elim (cases_lt t (length marks)) [
  | inl small ↦ small
  | inr past ↦ absurd (let e = sym (get_or_past marks t None past) ∙ is in let bad : ⊥ = cc e in bad)
]

is_small : (p : ℕ → Bool) (marks : List (Option (Option InterfaceId))) (t : ℕ) → holds p (mark_of marks t) ≡ true → t < length marks
is_small p marks t h = let m = marked_reach p (mark_of marks t) h in marked_in marks t m.0 m.1

-- a test of a mark
pub mark_test : (p : ℕ → Bool) (marks : List (Option (Option InterfaceId))) (b : Bool) (t : ℕ) → b ≡ holds p (mark_of marks t)
    → IsTrue b ↔ Contains (filter (λ (x : ℕ). holds p (mark_of marks x)) (numbers_below (length marks))) t
mark_test p marks b t is = (
  (λ h. filter_has (λ (x : ℕ). holds p (mark_of marks x)) (numbers_below (length marks)) t (numbers_there (length marks) t (is_small p marks t (sym is ∙ h))) (sym is ∙ h)),
  (λ h. is ∙ (filter_from (λ (x : ℕ). holds p (mark_of marks x)) (numbers_below (length marks)) t h).1),
)

-- what is known is live, or marked
module _ (sets : UsedView) (live : List ℕ) (marks : List (Option (Option InterfaceId))) (reach : Option InterfaceId) (t : ℕ) where
  pub known_cases : Contains (known_to sets live marks reach) t → Contains live t ⊎ (holds (is_within sets reach) (mark_of marks t) ≡ true)
  known_cases h = elim (Contains-append_cases live (filter (λ (x : ℕ). holds (is_within sets reach) (mark_of marks x)) (numbers_below (length marks))) t h) [
    | inl there ↦ inl there
    | inr marked ↦ inr (filter_from (λ (x : ℕ). holds (is_within sets reach) (mark_of marks x)) (numbers_below (length marks)) t marked).1
  ]

  pub known_live : Contains live t → Contains (known_to sets live marks reach) t
  known_live h = Contains-append_left live (filter (λ (x : ℕ). holds (is_within sets reach) (mark_of marks x)) (numbers_below (length marks))) t h

  pub known_marked : holds (is_within sets reach) (mark_of marks t) ≡ true → Contains (known_to sets live marks reach) t
  known_marked h =
      Contains-append_right live (filter (λ (x : ℕ). holds (is_within sets reach) (mark_of marks x)) (numbers_below (length marks))) t
      ((mark_test (is_within sets reach) marks true t (sym h)).0 refl)

-- what is within an interface that is within another one is within that too
module _ (sets : UsedView) (further : UseFurther sets) where
  used_within : (i k j : ℕ) → ((k == i) || is_used sets i k) ≡ true → ((j == k) || is_used sets k j) ≡ true → ((j == i) || is_used sets i j) ≡ true
  used_within i k j first second = elim (or_cases (k == i) (is_used sets i k) first) [
    | inl same ↦ subst (λ z. ((j == z) || is_used sets z j) ≡ true) (eqb-true k i same) second
    | inr uses ↦ elim (or_cases (j == k) (is_used sets k j) second) [
      | inl same ↦ or_right (j == i) (is_used sets i j) (subst (λ z. is_used sets i z ≡ true) (sym (eqb-true j k same)) uses)
      | inr more ↦ or_right (j == i) (is_used sets i j) (further i k j uses more)
    ]
  ]

  pub within_further : (reach m : Option InterfaceId) → holds (is_within sets reach) (Some m) ≡ true → (j : ℕ) → is_within sets m j ≡ true → is_within sets reach j ≡ true
  within_further reach None h j own = absurd (let bad : ⊥ = cc own in bad)
  within_further None (Some k) h j own = absurd (let bad : ⊥ = cc h in bad)
  within_further (Some i) (Some k) h j own = used_within i.0 k.0 j h own

holds_more : (p q : ℕ → Bool) → ((j : ℕ) → p j ≡ true → q j ≡ true) → (m : Option (Option InterfaceId)) → holds p m ≡ true → holds q m ≡ true
holds_more p q more (Some (Some k)) h = more k.0 h
holds_more p q more (Some None) h = refl
holds_more p q more None h = absurd (let bad : ⊥ = cc h in bad)

test_there : (o : Option (ℕ → Bool)) (k : ℕ) → option_map_or (λ (test : ℕ → Bool). test k) o false ≡ true → (test : ℕ → Bool) × (o ≡ Some test) × (test k ≡ true)
test_there (Some test) k h = (test, refl, h)
test_there None k h = absurd (let bad : ⊥ = cc h in bad)

-- sets of all that interfaces use are so
pub use_further : (r : ResolveView) (exports : Entries) (sets : UsedView) → AreUsed r exports sets → UseFurther sets
use_further r exports sets are i k j first second =
    let a = test_there (sets i) k first in
    let b = test_there (sets k) j second in
    subst (λ o. option_map_or (λ (test : ℕ → Bool). test j) o false ≡ true) (sym a.1)
    ((are.used i a.0 a.1 j).1 (leads_on ((are.used i a.0 a.1 k).0 a.2) ((are.used k b.0 b.1 j).0 b.2)))

-- what is known is complete
module _ (r : ResolveView) (sets : UsedView) (live : List ℕ) (marks : List (Option (Option InterfaceId))) (further : UseFurther sets) (are : AreSettled r sets live marks) where
  pub known_complete : IsComplete r.types live → (reach : Option InterfaceId) → IsComplete r.types (known_to sets live marks reach)
  known_complete complete reach t c h child = elim (known_cases sets live marks reach t h) [
    | inl there ↦ known_live sets live marks reach c (complete t c there child)
    | inr marked ↦ (let m = marked_reach (is_within sets reach) (mark_of marks t) marked in
        elim (known_cases sets live marks m.0 c (are.over t c m.0 m.1 child)) [
          | inl there ↦ known_live sets live marks reach c there
          | inr own ↦ known_marked sets live marks reach c
              (holds_more (is_within sets m.0) (is_within sets reach) (within_further sets further reach m.0 (subst (λ z. holds (is_within sets reach) z ≡ true) m.1 marked)) (mark_of marks c) own)
        ])
  ]

  not_elsewhere : (a b : Bool) → (a || b) ≡ true → (not a && not b) ≡ true → ⊥
  not_elsewhere true b h k = (let bad : ⊥ = cc k in bad)
  not_elsewhere false true h k = (let bad : ⊥ = cc k in bad)
  not_elsewhere false false h k = (let bad : ⊥ = cc h in bad)

  owner_there : (o : Option ℕ) (p : ℕ → Bool) → option_map_or p o false ≡ true → (i : ℕ) × (o ≡ Some i) × (p i ≡ true)
  owner_there None p h = absurd (let bad : ⊥ = cc h in bad)
  owner_there (Some i) p h = (i, refl, h)

  -- and of it what is from elsewhere is live
  pub elsewhere_live : (i : InterfaceId) (t : ℕ) → Contains (known_to sets live marks (Some i)) t → is_from_elsewhere r sets i.0 t ≡ true → Contains live t
  elsewhere_live i t h passes = elim (known_cases sets live marks (Some i) t h) [
    | inl there ↦ there
    | inr marked ↦ (let m = marked_reach (is_within sets (Some i)) (mark_of marks t) marked in
        let own = owner_there (interface_owning r t) (λ (k : ℕ). not (k == i.0) && not (is_used sets i.0 k)) passes in
        let within = within_further sets further (Some i) m.0 (subst (λ z. holds (is_within sets (Some i)) z ≡ true) m.1 marked) own.0 (are.owned t own.0 m.0 m.1 own.1) in
        absurd (not_elsewhere (own.0 == i.0) (is_used sets i.0 own.0) within own.2))
  ]
