-- Positions are marked, and then their finders.
use Rattle.std.proofs.Common.{◌≡◌, ◌≢◌, ◌⊎◌, ℕ, zero, suc, ◌+◌, ◌<◌, ◌≤◌, Bool, true, false, List, [], ◌∷◌, length, replicate, set, take, get_or, Some, refl, sym, ◌∙◌, ap, subst, arith, inl, inr}
use Rattle.std.specs.Prelude.{All, Contains}
use Rattle.std.specs.List.{slice_get}
use Rattle.std.proofs.lemmas.List.{length-set, get_or_default, get_or-take, length-take}
use Rattle.std.proofs.lemmas.List.Elements.{All-contains, Contains-get_or}
use Rattle.std.proofs.lemmas.Option.{same_Some, slice_get_within}
use Rattle.wc_graph.specs.ChainMarks.{AreOnChains, IsOnChain, here, before}
use Rattle.wc_graph.specs.Private.ChainMarks.{AreTaken, AreTargets, IsTaken, first, next}

-- what is on a chain to one of some positions, each of which is on one to others, is on one to these
pub on_more : (finder ts ss : List ℕ) → All (IsOnChain finder ss) ts → (k : ℕ) → IsOnChain finder ts k → IsOnChain finder ss k
on_more finder ts ss all k (here c) = All-contains (IsOnChain finder ss) ts k all c
on_more finder ts ss all k (before from on e) = before from (on_more finder ts ss all from on) e

pub on_among : (finder ts ss : List ℕ) → ((k : ℕ) → Contains ts k → Contains ss k) → (k : ℕ) → IsOnChain finder ts k → IsOnChain finder ss k
on_among finder ts ss among = on_more finder ts ss (λ i d lt. here (among (get_or ts i d) (Contains-get_or ts i d lt)))

-- marks, when one is set

pub none_is_set : (n k : ℕ) → slice_get (replicate n false) k ≡ Some true → ⊥
none_is_set zero k e = absurd cc
none_is_set (suc n) zero e = absurd cc
none_is_set (suc n) (suc k) e = none_is_set n k e

pub set_at : (marks : List Bool) (k : ℕ) → k < length marks → slice_get (set marks k true) k ≡ Some true
set_at [] k lt = absurd (omega arith)
set_at (m ∷ marks) zero lt = refl
set_at (m ∷ marks) (suc k) lt = set_at marks k (omega arith)

set_other : (marks : List Bool) (k j : ℕ) → j ≢ k → slice_get (set marks k true) j ≡ slice_get marks j
set_other [] k j differ = refl
set_other (m ∷ marks) zero zero differ = absurd (differ refl)
set_other (m ∷ marks) zero (suc j) differ = refl
set_other (m ∷ marks) (suc k) zero differ = refl
set_other (m ∷ marks) (suc k) (suc j) differ = set_other marks k j (λ e. differ (ap suc e))

pub same_or : (j k : ℕ) → (j ≡ k) ⊎ (j ≢ k)
same_or zero zero = inl refl
same_or zero (suc k) = inr (λ e. absurd cc)
same_or (suc j) zero = inr (λ e. absurd cc)
same_or (suc j) (suc k) = elim (same_or j k) [
  | inl e ↦ inl (ap suc e)
  | inr differ ↦ inr (λ e. differ (omega (arith, e)))
]

-- what is marked of marks of which one was set: this one, or what was
pub was_set : (marks : List Bool) (k j : ℕ) → slice_get (set marks k true) j ≡ Some true → (j ≡ k) ⊎ (slice_get marks j ≡ Some true)
was_set marks k j e = elim (same_or j k) [
  | inl same ↦ inl same
  | inr differ ↦ inr (sym (set_other marks k j differ) ∙ e)
]

pub stays_set : (marks : List Bool) (k j : ℕ) → k < length marks → slice_get marks j ≡ Some true → slice_get (set marks k true) j ≡ Some true
stays_set marks k j lt e = elim (same_or j k) [
  | inl same ↦ subst (λ n. slice_get (set marks k true) n ≡ Some true) (sym same) (set_at marks k lt)
  | inr differ ↦ set_other marks k j differ ∙ e
]

-- their finders

module _ (finder : List ℕ) (old : List Bool) where
  pub none_taken : AreTaken finder old (length old) old
  none_taken = record {
    sized = refl;
    only = λ index is. first is;
    kept = λ index is. is;
    taken = λ index its le is e. absurd (let lt = slice_get_within old index true is in omega (arith, le, lt));
  }

  pub one_taken : (index by_it : ℕ) (marks : List Bool) → AreTaken finder old (index + 1) marks → slice_get marks index ≡ Some true
      → slice_get finder index ≡ Some by_it → by_it ≤ index → AreTaken finder old index (set marks by_it true)
  one_taken index by_it marks t is at le =
      let inside : by_it < length marks = (let lt = slice_get_within marks index true is in omega (arith, lt)) in
      record {
        sized = length-set marks by_it true ∙ t.sized;
        only = λ other e. elim (was_set marks by_it other e) [
          | inl same ↦ subst (IsTaken finder old) (sym same) (next index (t.only index is) at)
          | inr before_it ↦ t.only other before_it
        ];
        kept = λ other e. stays_set marks by_it other inside (t.kept other e);
        taken = λ other its from e f. elim (same_or other index) [
          | inl same ↦ let one : its ≡ by_it = same_Some its by_it (sym f ∙ subst (λ k. slice_get finder k ≡ Some by_it) (sym same) at) in
              subst (λ k. slice_get (set marks by_it true) k ≡ Some true) (sym one) (set_at marks by_it inside)
          | inr differ ↦ let past : index + 1 ≤ other = omega (arith, from, differ) in
              let apart : other ≢ by_it = (λ same. absurd (omega (arith, same, le, past))) in
              stays_set marks by_it its inside (t.taken other its past (sym (set_other marks by_it other apart) ∙ e) f)
        ];
      }

  pub not_taken : (index : ℕ) (marks : List Bool) → AreTaken finder old (index + 1) marks → slice_get marks index ≡ Some false → AreTaken finder old index marks
  not_taken index marks t is = record {
    sized = t.sized;
    only = t.only;
    kept = t.kept;
    taken = λ other its from e f. elim (same_or other index) [
      | inl same ↦ absurd (let both : Some false ≡ Some true = sym is ∙ subst (λ k. slice_get marks k ≡ Some true) same e in cc)
      | inr differ ↦ t.taken other its (let past : index + 1 ≤ other = omega (arith, from, differ) in past) e f
    ];
  }

-- positions that are targets

module _ (targets : List ℕ) (size : ℕ) where
  pub none_marked : (marks : List Bool) → length marks ≡ size → marks ≡ replicate size false → AreTargets (take 0 targets) size marks
  none_marked marks sized e = record {
    sized = sized;
    marked = λ k lt. (
      (λ is. absurd (none_is_set size k (subst (λ (ms : List Bool). slice_get ms k ≡ Some true) e is))),
      (λ (i, less, at). absurd (omega (arith, less))),
    );
  }

  pub one_marked : (n : ℕ) (marks : List Bool) → n < length targets → get_or targets n 0 < size → AreTargets (take n targets) size marks
      → AreTargets (take (n + 1) targets) size (set marks (get_or targets n 0) true)
  one_marked n marks within lt a =
      let target = get_or targets n 0 in
      let inside : target < length marks = (let s = a.sized in omega (arith, lt, s)) in
      let more = length-take (n + 1) targets in
      let fewer = length-take n targets in
      record {
        sized = length-set marks target true ∙ a.sized;
        marked = λ k less. (
          (λ is. elim (was_set marks target k is) [
            | inl same ↦ (n, let w : n < length (take (n + 1) targets) = omega (arith, more, within) in w, get_or-take (n + 1) targets n k (omega arith) ∙ (get_or_default targets n k 0 within ∙ sym same))
            | inr old ↦ (let (i, w, at) = (a.marked k less).0 old in
                (i, let v : i < length (take (n + 1) targets) = omega (arith, more, fewer, w) in v, get_or-take (n + 1) targets i k (omega (arith, fewer, w)) ∙ (sym (get_or-take n targets i k (omega (arith, fewer, w))) ∙ at)))
          ]),
          (λ (i, w, at). elim (same_or i n) [
            | inl same ↦
                let is : target ≡ k = get_or_default targets n 0 k within ∙ (sym (get_or-take (n + 1) targets n k (omega arith)) ∙ subst (λ z. get_or (take (n + 1) targets) z k ≡ k) same at) in
                subst (λ z. slice_get (set marks target true) z ≡ Some true) is (set_at marks target inside)
            | inr differ ↦
                let less_n : i < n = omega (arith, w, more, differ) in
                stays_set marks target k inside ((a.marked k less).1 (i, let v : i < length (take n targets) = omega (arith, fewer, less_n, within) in v, get_or-take n targets i k less_n ∙ (sym (get_or-take (n + 1) targets i k (omega (arith, less_n))) ∙ at)))
          ]),
        );
      }

-- both

module _ (finder targets : List ℕ) (marks last : List Bool) (a : AreTargets targets (length finder) marks) (t : AreTaken finder marks 0 last)
    (there : All (λ p. p < length finder) targets) where
  on_from_taken : (k : ℕ) → IsTaken finder marks k → IsOnChain finder targets k
  on_from_taken k (first is) = here ((a.marked k (let w = slice_get_within marks k true is in let s = a.sized in omega (arith, w, s))).0 is)
  on_from_taken k (next from is e) = before from (on_from_taken from is) e

  marked_from_on : (k : ℕ) → IsOnChain finder targets k → slice_get last k ≡ Some true
  marked_from_on k (here (i, w, at)) =
      t.kept k ((a.marked k (subst (λ z. z < length finder) at (there i k w))).1 (i, w, at))
  marked_from_on k (before from on e) = t.taken from k (omega arith) (marked_from_on from on) e

  pub all_on_chains : AreOnChains finder targets last
  all_on_chains = record {
    sized = t.sized ∙ a.sized;
    marked = λ k lt. ((λ is. on_from_taken k (t.only k is)), (λ on. marked_from_on k on));
  }
