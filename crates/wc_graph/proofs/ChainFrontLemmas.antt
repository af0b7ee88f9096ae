-- What is on chains to some positions is on their chains, and has its own chain as their front.
use Rattle.std.proofs.Common.{◌≡◌, ℕ, zero, suc, ◌<◌, List, [], ◌∷◌, ◌++◌, length, get_or, Some, refl, sym, ◌∙◌, ap, subst, arith, inl, inr, append-nil}
use Rattle.std.specs.Prelude.{All, Contains}
use Rattle.std.specs.List.{slice_get}
use Rattle.std.proofs.lemmas.Bool.{cases_eq}
use Rattle.std.proofs.lemmas.List.{append_assoc}
use Rattle.std.proofs.lemmas.List.Elements.{All-append, All-cons}
use Rattle.std.proofs.lemmas.Option.{same_Some, slice_get-get_or}
use Rattle.wc_graph.specs.ShortestChains.{AreFinders, IsFinderChain, at_root, at_named}
use Rattle.wc_graph.specs.ChainMarks.{IsOnChain, here, before}

module _ {X : Type 0} (found : List X) (finder targets : List ℕ) where
  -- a thing that is on the chain to one of the targets
  abbrev pub IsThingOn : X → Type 0
  IsThingOn x = (k : ℕ) × (slice_get found k ≡ Some x) × IsOnChain finder targets k

  none : All IsThingOn []
  none k d lt = absurd (omega (arith, lt))

  -- all that is on the chain to a target is
  pub chain_on : (k : ℕ) (chain : List X) → IsFinderChain found finder k chain → IsOnChain finder targets k → All IsThingOn chain
  chain_on k chain (at_root n x is root) on = All-cons IsThingOn x [] (n, is, on) none
  chain_on k chain (at_named n j x front is by differ rest) on =
      All-append IsThingOn front (x ∷ []) (chain_on j front rest (before n on by)) (All-cons IsThingOn x [] (n, is, on) none)

  -- a chain to a target has this position's chain as its front
  pub record IsFront (k : ℕ) : Type 0 where
    pub target : ℕ
    pub there : Contains targets target
    pub chain : List X
    pub leads : IsFinderChain found finder target chain
    pub front : List X
    pub rest : List X
    pub is : chain ≡ front ++ rest
    pub has : IsFinderChain found finder k front

  module _ (finders : AreFinders found finder) where
    at_finder : (k : ℕ) → k < length found → slice_get finder k ≡ Some (get_or finder k 0)
    at_finder k lt = let s = finders.sized in slice_get-get_or finder k 0 (omega (arith, lt, s))

    -- there is a chain to each position
    pub chain_to : (fuel k : ℕ) → k < fuel → k < length found → (chain : List X) × IsFinderChain found finder k chain
    chain_to zero k less lt = absurd (omega (arith, less))
    chain_to (suc fuel) k less lt =
        let early = finders.earlier k lt in
        let x = thing k lt in
        elim (cases_eq (get_or finder k 0) k) [
          | inl same ↦ (x.0 ∷ [], at_root k x.0 x.1 (at_finder k lt ∙ ap Some same))
          | inr differ ↦
              let c = chain_to fuel (get_or finder k 0) (omega (arith, early, differ, less)) (omega (arith, early, lt)) in
              (c.0 ++ x.0 ∷ [], at_named k (get_or finder k 0) x.0 c.0 x.1 (at_finder k lt) differ c.1)
        ]
      where
        thing : (k : ℕ) → k < length found → (x : X) × (slice_get found k ≡ Some x)
        thing k lt = by found k lt
          where
            by : (xs : List X) (k : ℕ) → k < length xs → (x : X) × (slice_get xs k ≡ Some x)
            by [] k lt = absurd (omega (arith, lt))
            by (y ∷ ys) zero lt = (y, refl)
            by (y ∷ ys) (suc k) lt = by ys k (omega (arith, lt))

    front_of : (k j target : ℕ) → Contains targets target → (chain front rest : List X) → IsFinderChain found finder target chain → chain ≡ front ++ rest
        → IsFinderChain found finder k front → slice_get finder k ≡ Some j → IsFront j
    front_of k j target there chain front rest leads is (at_root n x at root) by =
        let same : k ≡ j = same_Some k j (sym root ∙ by) in
        subst IsFront same (record { target = target; there = there; chain = chain; leads = leads; front = x ∷ []; rest = rest; is = is; has = at_root n x at root })
    front_of k j target there chain front rest leads is (at_named n i x early at named differ has) by =
        let same : i ≡ j = same_Some i j (sym named ∙ by) in
        subst IsFront same (record {
          target = target;
          there = there;
          chain = chain;
          leads = leads;
          front = early;
          rest = x ∷ rest;
          is = is ∙ append_assoc early (x ∷ []) rest;
          has = has;
        })

    -- what is on the chain to a target is on a front of it
    pub on_front : All (λ p. p < length found) targets → (k : ℕ) → IsOnChain finder targets k → IsFront k
    on_front inside k (here (i, lt, at)) =
        let within : k < length found = subst (λ z. z < length found) at (inside i k lt) in
        let c = chain_to (suc k) k (omega arith) within in
        record { target = k; there = (i, lt, at); chain = c.0; leads = c.1; front = c.0; rest = []; is = sym (append-nil c.0); has = c.1 }
    on_front inside k (before from on by) =
        let f = on_front inside from on in
        front_of from k f.target f.there f.chain f.front f.rest f.leads f.is f.has by
