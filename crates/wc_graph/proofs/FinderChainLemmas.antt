-- The chains of finders are the shortest, from whatever list of roots a search began with.
use Rattle.std.proofs.Common.{◌≡◌, ◌≢◌, ℕ, ◌+◌, ◌<◌, List, [], ◌∷◌, ◌++◌, length, get_or, sym, ◌∙◌, ap, subst, inl, inr, arith}
use Rattle.std.proofs.Common.{Bool, Some, append_assoc, append-nil}
use Rattle.std.specs.Prelude.{Contains, ◌↔◌}
use Rattle.std.specs.List.{slice_get}
use Rattle.std.proofs.lemmas.Bool.{cases_lt}
use Rattle.std.proofs.lemmas.List.{get_or_default}
use Rattle.std.proofs.lemmas.Option.{get_or_from_slice_get, slice_get_read, slice_get_within}
use Rattle.wc_graph.specs.Reached.{IsReachedFrom}
use Rattle.wc_graph.specs.ShortestChains.{IsBefore, IsFinderChain, IsShortestChain, at_root, at_named}
use Rattle.wc_graph.specs.Growth.{HasGrown}
use Rattle.wc_graph.specs.Finders.{AreFound}
use Rattle.wc_graph.proofs.ListLemmas.{get_some}
use Rattle.wc_graph.proofs.ShortestLemmas.{AreTails, tails_start, tails_step, tails_end}

module _ {X : Type 0} where
  -- the chain of what was found at a position, and what was walked before

  walk_shortest : (names : X → List X) (roots found : List X) (finder : List ℕ) → AreFound names roots found finder → (position : ℕ) (d : X) → position < length found
      → {at : ℕ} {chain : List X} → IsFinderChain found finder at chain → (rest : List X)
      → AreTails found finder at position d (get_or found at d ∷ rest) → IsShortestChain names roots (get_or found position d) (chain ++ rest)
  walk_shortest names roots found finder a position d pl (at_root k x is own) rest t =
      subst (λ z. IsShortestChain names roots (get_or found position d) (z ∷ rest)) (get_or_from_slice_get found k x d is)
      (tails_end found finder k position d (get_or found k d ∷ rest) (slice_get_within found k x is) pl (get_or_from_slice_get finder k k 0 own) t names roots a)
  walk_shortest names roots found finder a position d pl (at_named k j x chain is by other c) rest t =
      let finds : get_or finder k 0 ≡ j = get_or_from_slice_get finder k j 0 by in
      let step : AreTails found finder (get_or finder k 0) position d (get_or found (get_or finder k 0) d ∷ (get_or found k d ∷ rest)) =
      tails_step found finder k position d (get_or found k d ∷ rest) (slice_get_within found k x is) (λ e. other (sym finds ∙ e)) t in
      let there : AreTails found finder j position d (get_or found j d ∷ (x ∷ rest)) =
      subst (λ z. AreTails found finder j position d (get_or found j d ∷ (z ∷ rest))) (get_or_from_slice_get found k x d is)
      (subst (λ z. AreTails found finder z position d (get_or found z d ∷ (get_or found k d ∷ rest))) finds step) in
      subst (IsShortestChain names roots (get_or found position d)) (sym (append_assoc chain (x ∷ []) rest))
      (walk_shortest names roots found finder a position d pl c (x ∷ rest) there)

  pub finder_chains : (names : X → List X) (roots found : List X) (finder : List ℕ) → AreFound names roots found finder
      → (k : ℕ) (x : X) (chain : List X) → slice_get found k ≡ Some x → IsFinderChain found finder k chain → IsShortestChain names roots x chain
  finder_chains names roots found finder a k x chain is c =
      let pl = slice_get_within found k x is in
      subst (λ z. IsShortestChain names roots z chain) (get_or_from_slice_get found k x x is)
      (subst (IsShortestChain names roots (get_or found k x)) (append-nil chain)
      (walk_shortest names roots found finder a k x pl c [] (tails_start found finder k x pl)))

  -- a search that begins with what is in a list, in its order

  module _ (xs : List X) (has : X → Bool) (order : List X) (g : HasGrown [] has order xs) where
    pub in_list : (x : X) → Contains order x → Contains xs x
    in_list x c = elim (g.only x c) [ inl n ↦ absurd (let h = n.1 in omega (arith, h)) | inr r ↦ r ]

    before_in : (x y : X) → Contains order y → IsBefore order x y → IsBefore xs x y
    before_in x y c b =
        let kl = b.1 in
        let jl = c.1 in
        elim (cases_lt b.0 c.0) [
          | inl less ↦
              subst (λ z. IsBefore xs z y) b.2
              (subst (λ z. IsBefore xs (get_or order b.0 x) z) (get_or_default order c.0 x y jl ∙ c.2) (g.ordered b.0 c.0 x (omega arith) less jl))
          | inr more ↦ absurd (b.3 c.0 more (get_or_default order c.0 x y jl ∙ c.2))
        ]

    pub found_from_list : (names : X → List X) (found : List X) (finder : List ℕ) → AreFound names order found finder → AreFound names xs found finder
    found_from_list names found finder (depth, t, o) = (
      depth,
      record {
        distinct = t.distinct;
        sized = t.sized;
        within = t.within;
        from = λ x c. t.from x (g.all x c);
        steps = λ k d h. elim (t.steps k d h) [ inl r ↦ inl (r.0, in_list (get_or found k d) r.1, r.2) | inr r ↦ inr r ];
        sorted = t.sorted;
        near = t.near;
        passed = t.passed;
      },
      record {
        behind = o.behind;
        rising = o.rising;
        roots_ordered = λ i j d h l z. before_in (get_or found i d) (get_or found j d) (root_at j d l z) (o.roots_ordered i j d h l z);
        names_ordered = o.names_ordered;
        none_before = o.none_before;
      },
    )
      where
        root_at : (j : ℕ) (d : X) → j < length found → depth j ≡ 0 → Contains order (get_or found j d)
        root_at j d l z = elim (t.steps j d l) [ inl r ↦ r.1 | inr r ↦ absurd (let e = r.2 in omega (arith, e, z)) ]

    pub reached_from_list : (names : X → List X) (y : X) → IsReachedFrom names xs y ↔ IsReachedFrom names order y
    reached_from_list names y = ((λ r. (r.0, g.all r.0 r.1, r.2, r.3)), λ r. (r.0, in_list r.0 r.1, r.2, r.3))

  -- what was walked from one position to another before it: the chain of the position goes on with it
  pub record IsWalked (found : List X) (finder : List ℕ) (at position : ℕ) (items : List X) : Type 0 where
    pub rest : List X
    pub is : (d : X) → items ≡ get_or found at d ∷ rest
    pub goes_on : (chain : List X) → IsFinderChain found finder at chain → IsFinderChain found finder position (chain ++ rest)

  pub walk_start : (found : List X) (finder : List ℕ) (position : ℕ) (items : List X) → ((d : X) → items ≡ get_or found position d ∷ [])
      → IsWalked found finder position position items
  walk_start found finder position items e = record {
    rest = [];
    is = e;
    goes_on = λ chain c. subst (IsFinderChain found finder position) (sym (append-nil chain)) c;
  }

  pub walk_step : (found : List X) (finder : List ℕ) (at by position : ℕ) (items more : List X) → at < length found → length finder ≡ length found
      → get_or finder at 0 ≡ by → by ≢ at → ((d : X) → more ≡ get_or found by d ∷ items) → IsWalked found finder at position items
      → IsWalked found finder by position more
  walk_step found finder at by position items more lt sized finds other e w = record {
    rest = items;
    is = e;
    goes_on = λ chain c.
        let x = get_some found at lt in
        let own : slice_get finder at ≡ Some by = slice_get_read finder (length found) at by (sym sized) lt (sym (get_or_default finder at by 0 (omega (arith, lt, sized)) ∙ finds)) in
        subst (IsFinderChain found finder position) (append_assoc chain (x.0 ∷ []) w.rest ∙ ap (λ z. chain ++ z) (ap (λ z. z ∷ w.rest) (sym (get_or_from_slice_get found at x.0 x.0 x.1)) ∙ sym (w.is x.0)))
        (w.goes_on (chain ++ x.0 ∷ []) (at_named at by x.0 chain x.1 own other c));
  }

  pub walk_end : (found : List X) (finder : List ℕ) (at position : ℕ) (items : List X) → at < length found → length finder ≡ length found
      → get_or finder at 0 ≡ at → IsWalked found finder at position items → IsFinderChain found finder position items
  walk_end found finder at position items lt sized finds w =
      let x = get_some found at lt in
      let own : slice_get finder at ≡ Some at = slice_get_read finder (length found) at at (sym sized) lt (sym (get_or_default finder at at 0 (omega (arith, lt, sized)) ∙ finds)) in
      subst (IsFinderChain found finder position) (ap (λ z. z ∷ w.rest) (sym (get_or_from_slice_get found at x.0 x.0 x.1)) ∙ sym (w.is x.0))
      (w.goes_on (x.0 ∷ []) (at_root at x.0 x.1 own))

  -- a chain begins with what is at its root
  pub begins_at : (found : List X) (finder : List ℕ) (at position : ℕ) (items : List X) → at < length found → IsWalked found finder at position items
      → (x : X) → slice_get items 0 ≡ Some x → slice_get found at ≡ Some x
  begins_at found finder at position items lt w x e =
      let y = get_some found at lt in
      y.1 ∙ (ap Some (sym (get_or_from_slice_get found at y.0 x y.1)) ∙ (ap (λ z. slice_get z 0) (sym (w.is x)) ∙ e))
