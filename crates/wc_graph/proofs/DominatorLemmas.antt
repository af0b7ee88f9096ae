-- Dominators in any graph: chains to targets by what a search found, and the marks of items.
use Rattle.std.proofs.Common.{◌≡◌, ℕ, ◌<◌, List, [], ◌∷◌, length, map, replicate, get_or, zero, suc, Bool, false, Option, Some, None, option_map, refl, sym, ◌∙◌, ap, subst, arith}
use Rattle.std.specs.Prelude.{All, Contains, IsTrue, ◌↔◌}
use Rattle.std.specs.declared.alloc.Global.{Global}
use Rattle.std.specs.declared.vec.Vec.{Vec}
use Rattle.std.specs.List.{filter_map, slice_get}
use Rattle.std.specs.Option.{option_map_or}
use Rattle.std.proofs.lemmas.Bool.{both_ways}
use Rattle.std.proofs.lemmas.List.{get_or-replicate, length-map, length-replicate}
use Rattle.std.proofs.lemmas.List.Elements.{All-contains}
use Rattle.std.proofs.lemmas.Option.{get_or_from_slice_get, slice_get-get_or, slice_get-map, slice_get_within}
use Rattle.wc_graph.specs.ShortestChains.{IsFinderChain, IsShortestChain}
use Rattle.wc_graph.specs.ChainMarks.{here, is_set}
use Rattle.wc_graph.specs.Dominators.{mark_at, IsDominator, AreGraphDominators}
use Rattle.wc_graph.specs.Tree.{ArePlaces}
use Rattle.wc_graph.specs.Private.Dominators.{AreUnreached, IsTreeAnswer}
use Rattle.wc_graph.specs.Private.Places.{mark_by, place_at}
use Rattle.wc_graph.specs.Private.Ways.{AreDominators, IsWay, IsChainTo}
use Rattle.wc_graph.specs.declared.tree.Tree.{Tree}
use Rattle.wc_graph.proofs.ChainFrontLemmas.{chain_on}
use Rattle.wc_graph.proofs.OnChainLemmas.{at_place, has_place, mapped_from, mapped_to}
use Rattle.wc_maps.proofs.OptionLemmas.{some_none}
use Rattle.wc_graph.proofs.ChainWayLemmas.{shortest_once}

-- no path leads to a target
pub none_marked : (names : ℕ → List ℕ) (roots targets : List ℕ) → AreUnreached names roots targets → (n : ℕ) (marks : List Bool) (o : Option ℕ) → o ≡ None
    → IsTrue (mark_at marks o) ↔ IsDominator names roots targets n
none_marked names roots targets missed n marks o e = (
  (λ h. absurd (both_ways (mark_at marks o) (ap (mark_at marks) e) h)),
  λ d. absurd (missed d.target d.asked d.reached),
)

-- those on a way
pub way_marked : (names : ℕ → List ℕ) (roots targets way : List ℕ) (marks : List Bool) (size : ℕ) (places : List (Option ℕ)) → IsWay names roots targets way
    → AreDominators names roots targets way marks → ArePlaces way size places → (n : ℕ) → n < size
    → IsTrue (mark_at marks (get_or places n None)) ↔ IsDominator names roots targets n
way_marked names roots targets way marks size places w a p n lt = by (get_or places n None) refl
  where
    read : slice_get places n ≡ Some (get_or places n None)
    read = slice_get-get_or places n None (let e = p.each in omega (arith, lt, e))

    by : (o : Option ℕ) → get_or places n None ≡ o → IsTrue (mark_at marks o) ↔ IsDominator names roots targets n
    by None e = (
      (λ h. absurd (both_ways false refl h)),
      λ d. absurd (p.at n None (read ∙ ap Some e) (subst (λ (z : List ℕ). Contains z n) (sym w.is) (d.on_all w.root w.target w.path w.from w.ends w.leads))),
    )
    by (Some k) e =
        let at : slice_get way k ≡ Some n = p.at n (Some k) (read ∙ ap Some e) in
        let l = slice_get_within way k n at in
        let m = a.at k n (get_or marks k false) at (slice_get-get_or marks k false (let z = a.each in omega (arith, l, z))) in (
          (λ h.
              let both = m.0 h in
              record { target = w.target; asked = w.ends; reached = (w.root, w.from, w.path, w.leads); no_target = both.0; on_all = both.1 }),
          λ d. m.1 (d.no_target, d.on_all),
        )

-- there is a mark for each position on a way
pub way_within : (names : ℕ → List ℕ) (roots targets way : List ℕ) (marks : List Bool) (size : ℕ) (places : List (Option ℕ))
    → AreDominators names roots targets way marks → ArePlaces way size places → (x k : ℕ) → slice_get places x ≡ Some (Some k) → k < length marks
way_within names roots targets way marks size places a p x k e =
    let l = slice_get_within way k x (p.at x (Some k) e) in
    let z = a.each in
    omega (arith, l, z)

-- no position is noted
pub none_noted : (size n : ℕ) → n < size → get_or (replicate {A = Option ℕ} size None) n None ≡ None
none_noted size n lt = get_or-replicate size n None None lt

pub none_within : (size : ℕ) (x k : ℕ) → slice_get (replicate {A = Option ℕ} size None) x ≡ Some (Some k) → k < 0
none_within size x k e =
    let lt = slice_get_within (replicate {A = Option ℕ} size None) x (Some k) e in
    let l : length (replicate {A = Option ℕ} size None) ≡ size = length-replicate size None in
    some_none k (sym (get_or_from_slice_get (replicate {A = Option ℕ} size None) x (Some k) None e) ∙ none_noted size x (omega (arith, lt, l)))

pub shortest_to : (names : ℕ → List ℕ) (some roots targets : List ℕ) → ((x : ℕ) → Contains some x → Contains roots x) → (t : ℕ) → Contains targets t → (chain : List ℕ)
    → IsShortestChain names some t chain → IsChainTo names roots targets chain
shortest_to names some roots targets among t c chain s = record {
  root = s.root;
  path = s.path;
  target = t;
  is = s.is;
  from = among s.root s.from;
  leads = s.leads;
  ends = c;
  once = shortest_once names some t chain s;
}

pub first_none : {X : Type 0} (xs : List X) → slice_get xs 0 ≡ None → xs ≡ []
first_none [] e = refl
first_none (x ∷ xs) e = absurd cc

pub first_some : {X : Type 0} (xs : List X) (x : X) → slice_get xs 0 ≡ Some x → Contains xs x
first_some xs x e = (0, slice_get_within xs 0 x e, get_or_from_slice_get xs 0 x x e)

-- all on a chain was found
chain_found : (order finder : List ℕ) (size : ℕ) → All (λ x. x < size) order → (k : ℕ) (chain : List ℕ) → IsFinderChain order finder k chain
    → All (λ x. x < size) chain
chain_found order finder size there k chain f i d lt =
    let w = chain_on order finder (k ∷ []) k chain f (here (0, omega arith, refl)) i d lt in
    let x = get_or chain i d in
    let at : get_or order w.0 x ≡ x = get_or_from_slice_get order w.0 x x w.1 in
    let below : get_or order w.0 x < size = there w.0 x (slice_get_within order w.0 x w.1) in
    subst (λ z. z < size) at below

module _ (t : Tree) (size : ℕ) (there : All (λ x. x < size) t.order.items) (places : List (Option ℕ)) (placed : ArePlaces t.order.items size places)
    (targets : List ℕ) where
  -- the position of a target that was found
  pub found_inside : (k : ℕ) → Contains (filter_map (place_at places) targets) k → k < length t.order.items
  found_inside k c =
      let m = mapped_from (place_at places) targets k c in
      slice_get_within t.order.items k m.0 (placed.at m.0 (Some k) (at_place (slice_get places m.0) k m.2))

  -- the chain to a target that was found
  pub tree_some : (k : ℕ) (chain : Vec ℕ Global) → Contains (filter_map (place_at places) targets) k
      → IsFinderChain t.order.items t.finder.items k chain.items → IsTreeAnswer t size targets (Some chain)
  tree_some k chain c f = λ names roots tree.
      let m = mapped_from (place_at places) targets k c in
      let at : slice_get t.order.items k ≡ Some m.0 = placed.at m.0 (Some k) (at_place (slice_get places m.0) k m.2) in
      let s : IsShortestChain names roots m.0 chain.items = tree.chains k m.0 chain.items at f in
      (shortest_to names roots roots targets (λ x h. h) m.0 m.1 chain.items s, chain_found t.order.items t.finder.items size there k chain.items f)

  -- none was found
  pub tree_none : filter_map (place_at places) targets ≡ [] → All (λ x. x < size) targets → IsTreeAnswer t size targets None
  tree_none none below = λ names roots tree x c r.
      let p = has_place names roots t.order.items t.finder.items tree.reached tree.once tree.chains t.finders places size placed x
      (All-contains (λ z. z < size) targets x below c) ((tree.reached x).1 r) in
      let m : Contains (filter_map (place_at places) targets) p.0 = mapped_to (place_at places) targets p.0 (x, c, p.1) in
      let e : Contains [] p.0 = subst (λ (z : List ℕ). Contains z p.0) none m in
      let lt = e.1 in
      absurd (omega (arith, lt))

-- the mark that is set is the one that is read
set_read : (marks : List Bool) (k : ℕ) → is_set marks k ≡ get_or marks k false
set_read [] k = refl
set_read (m ∷ ms) zero = refl
set_read (m ∷ ms) (suc k) = set_read ms k

mark_same : (marks : List Bool) (o : Option ℕ) → mark_by marks o ≡ mark_at marks o
mark_same marks None = refl
mark_same marks (Some k) = set_read marks k

mark_read : (marks last : List Bool) (places : List (Option ℕ)) → last ≡ map (mark_by marks) places → (x : ℕ) → x < length places
    → is_set last x ≡ mark_at marks (get_or places x None)
mark_read marks last places are x lt =
    let read : slice_get last x ≡ Some (mark_by marks (get_or places x None)) =
    ap (λ (ms : List Bool). slice_get ms x) are
    ∙ (slice_get-map (mark_by marks) places x ∙ ap (option_map (mark_by marks)) (slice_get-get_or places x None lt)) in
    ap (λ o. option_map_or (λ b. b) o false) read ∙ mark_same marks (get_or places x None)

-- the marks of a way, as those of all items
pub way_graph : (names : ℕ → List ℕ) (roots targets way : List ℕ) (marks last : List Bool) (size : ℕ) (places : List (Option ℕ))
    → IsWay names roots targets way → AreDominators names roots targets way marks → ArePlaces way size places → last ≡ map (mark_by marks) places
    → AreGraphDominators names size roots targets last
way_graph names roots targets way marks last size places w a p are = record {
  sized = ap length are ∙ (length-map places (mark_by marks) ∙ p.each);
  marked = λ x lt.
      let e : is_set last x ≡ mark_at marks (get_or places x None) = mark_read marks last places are x (let z = p.each in omega (arith, lt, z)) in
      let m = way_marked names roots targets way marks size places w a p x lt in
      ((λ h. m.0 (sym e ∙ h)), λ d. e ∙ m.1 d);
}

-- no item is marked, where no path leads to a target
pub none_graph : (names : ℕ → List ℕ) (roots targets : List ℕ) (last : List Bool) (size : ℕ) → AreUnreached names roots targets → last ≡ replicate size false
    → AreGraphDominators names size roots targets last
none_graph names roots targets last size missed are = record {
  sized = ap length are ∙ length-replicate size false;
  marked = λ x lt.
      let e : is_set last x ≡ false = set_read last x ∙ (ap (λ (ms : List Bool). get_or ms x false) are ∙ get_or-replicate size x false false lt) in
      ((λ h. absurd (both_ways (is_set last x) e h)), λ d. absurd (missed d.target d.asked d.reached));
}
