-- Items are marked that are on the shortest chains to some of them.
use Rattle.std.proofs.Common.{◌≡◌, ◌≢◌, ℕ, zero, suc, ◌<◌, List, [], ◌∷◌, ◌++◌, length, map, get_or, Bool, true, false, Option, Some, None, option_map, refl, sym, ◌∙◌, ap, subst, inl, inr, arith}
use Rattle.std.specs.Prelude.{All, AllPairs, Contains, ◌↔◌}
use Rattle.std.specs.List.{filter_map, slice_get}
use Rattle.std.specs.Option.{option_map_or}
use Rattle.std.proofs.lemmas.Bool.{cases_eq, cases_lt}
use Rattle.std.proofs.lemmas.List.{get_or_default}
use Rattle.std.proofs.lemmas.List.Elements.{All-contains, Contains-append_left, Contains-push}
use Rattle.std.proofs.lemmas.Option.{get_or_from_slice_get, same_Some, slice_get-get_or, slice_get-map, slice_get_read, slice_get_within}
use Rattle.wc_graph.specs.ShortestChains.{AreFinders, IsFinderChain, IsShortestChain, at_named, at_root}
use Rattle.wc_graph.specs.Reached.{IsReachedFrom}
use Rattle.wc_graph.proofs.OneChainLemmas.{one_chain}
use Rattle.wc_graph.specs.ChainMarks.{AreOnChains, IsOnChain, here, is_set}
use Rattle.wc_graph.specs.OnChains.{IsOnChainTo}
use Rattle.wc_graph.specs.Tree.{ArePlaces}
use Rattle.wc_graph.specs.Private.Places.{entry_by}
use Rattle.wc_graph.specs.Private.Places.{is_missing, is_missing_at, mark_by, place_at}
use Rattle.wc_graph.proofs.ChainFrontLemmas.{IsThingOn, chain_on, chain_to, on_front}

-- lists without `None`

module _ {X Y : Type 0} (h : X → Option Y) where
  none_more : (x : X) (xs : List X) → h x ≡ None → filter_map h (x ∷ xs) ≡ filter_map h xs
  none_more x xs e = rw e refl

  one_more : (x : X) (xs : List X) (y : Y) → h x ≡ Some y → filter_map h (x ∷ xs) ≡ y ∷ filter_map h xs
  one_more x xs y e = rw e refl

  -- what something in a list is mapped to
  abbrev IsMapped : List X → Y → Type 0
  IsMapped xs y = (x : X) × Contains xs x × (h x ≡ Some y)

  later : (x : X) (xs : List X) (y : Y) → IsMapped xs y → IsMapped (x ∷ xs) y
  later x xs y (z, (k, lt, e), f) = (z, (suc k, omega (arith, lt), e), f)

  at_first : (x : X) (xs : List X) (y v : Y) → h x ≡ Some v → (Contains (filter_map h xs) y → IsMapped xs y) → Contains (v ∷ filter_map h xs) y
      → IsMapped (x ∷ xs) y
  at_first x xs y v e rest (zero, lt, g) = (x, (zero, omega arith, refl), e ∙ ap Some g)
  at_first x xs y v e rest (suc k, lt, g) = later x xs y (rest (k, omega (arith, lt), g))

  from_first : (x : X) (xs : List X) (y : Y) (o : Option Y) → h x ≡ o → (Contains (filter_map h xs) y → IsMapped xs y) → Contains (filter_map h (x ∷ xs)) y
      → IsMapped (x ∷ xs) y
  from_first x xs y None e rest c = later x xs y (rest (subst (λ zs. Contains zs y) (none_more x xs e) c))
  from_first x xs y (Some v) e rest c = at_first x xs y v e rest (subst (λ zs. Contains zs y) (one_more x xs v e) c)

  pub mapped_from : (xs : List X) (y : Y) → Contains (filter_map h xs) y → IsMapped xs y
  mapped_from [] y (k, lt, e) = absurd (omega (arith, lt))
  mapped_from (x ∷ xs) y c = from_first x xs y (h x) refl (mapped_from xs y) c

  to_first : (x : X) (xs : List X) (y : Y) (o : Option Y) → h x ≡ o → Contains (filter_map h xs) y → Contains (filter_map h (x ∷ xs)) y
  to_first x xs y None e c = subst (λ zs. Contains zs y) (sym (none_more x xs e)) c
  to_first x xs y (Some v) e (k, lt, at) = subst (λ zs. Contains zs y) (sym (one_more x xs v e)) (suc k, omega (arith, lt), at)

  pub mapped_to : (xs : List X) (y : Y) → IsMapped xs y → Contains (filter_map h xs) y
  mapped_to [] y (x, (k, lt, e), is) = absurd (omega (arith, lt))
  mapped_to (z ∷ zs) y (x, (zero, lt, e), is) = subst (λ vs. Contains vs y) (sym (one_more z zs y (ap h e ∙ is))) (zero, omega arith, refl)
  mapped_to (z ∷ zs) y (x, (suc k, lt, e), is) = to_first z zs y (h z) refl (mapped_to zs y (x, (k, omega (arith, lt), e), is))

-- marks

set_is : (o : Option Bool) → option_map_or (λ b. b) o false ≡ true → o ≡ Some true
set_is None e = absurd cc
set_is (Some b) e = ap Some e

pub marked_is : (marks : List Bool) (k : ℕ) → is_set marks k ≡ true → slice_get marks k ≡ Some true
marked_is marks k e = set_is (slice_get marks k) e

pub is_marked : (marks : List Bool) (k : ℕ) → slice_get marks k ≡ Some true → is_set marks k ≡ true
is_marked marks k e = ap (λ o. option_map_or (λ b. b) o false) e

-- where a thing is, it is once
pub once_at : (xs : List ℕ) → AllPairs (λ x y. x ≢ y) xs → (j k x : ℕ) → slice_get xs j ≡ Some x → slice_get xs k ≡ Some x → j ≡ k
once_at xs once j k x e f = elim (cases_eq j k) [
  | inl same ↦ same
  | inr differ ↦ elim (cases_lt j k) [
    | inl less ↦ absurd (once j k x less (slice_get_within xs k x f) (get_or_from_slice_get xs j x x e ∙ sym (get_or_from_slice_get xs k x x f)))
    | inr more ↦
        let less : k < j = omega (arith, differ, more) in
        absurd (once k j x less (slice_get_within xs j x e) (get_or_from_slice_get xs k x x f ∙ sym (get_or_from_slice_get xs j x x e)))
  ]
]

-- the last of a chain
ends_at : (order finder : List ℕ) (k x : ℕ) (chain : List ℕ) → slice_get order k ≡ Some x → IsFinderChain order finder k chain → Contains chain x
ends_at order finder k x chain e (at_root n y is root) = (zero, omega arith, same_Some y x (sym is ∙ e))
ends_at order finder k x chain e (at_named n j y front is by differ rest) =
    subst (Contains (front ++ y ∷ [])) (same_Some y x (sym is ∙ e)) (Contains-push front y)

pub at_place : (o : Option (Option ℕ)) (k : ℕ) → entry_by o ≡ Some k → o ≡ Some (Some k)
at_place None k e = absurd cc
at_place (Some place) k e = ap Some e

-- the positions of items are those of what was found
pub positions_inside : (places : List (Option ℕ)) (count : ℕ) → ((x k : ℕ) → slice_get places x ≡ Some (Some k) → k < count) → (items : List ℕ)
    → All (λ p. p < count) (filter_map (place_at places) items)
positions_inside places count within items k d lt =
    let targets = filter_map (place_at places) items in
    let t = mapped_from (place_at places) items (get_or targets k d) (k, lt, get_or_default targets k (get_or targets k d) d lt) in
    within t.0 (get_or targets k d) (at_place (slice_get places t.0) (get_or targets k d) t.2)

module _ (names : ℕ → List ℕ) (roots order finder : List ℕ) (reached : (x : ℕ) → Contains order x ↔ IsReachedFrom names roots x)
    (once : AllPairs (λ x y. x ≢ y) order)
    (chains : (k x : ℕ) (chain : List ℕ) → slice_get order k ≡ Some x → IsFinderChain order finder k chain → IsShortestChain names roots x chain)
    (finders : AreFinders order finder) (places : List (Option ℕ)) (size : ℕ) (placed : ArePlaces order size places) where
  -- the position of an item
  pub place_is : (x k : ℕ) → place_at places x ≡ Some k → slice_get order k ≡ Some x
  place_is x k e = placed.at x (Some k) (at_place (slice_get places x) k e)

  pub has_place : (x : ℕ) → x < size → Contains order x → (k : ℕ) × (place_at places x ≡ Some k)
  has_place x lt c =
      let sized = placed.each in
      let read = slice_get-get_or places x None (omega (arith, lt, sized)) in
      by (get_or places x None) read
    where
      by : (place : Option ℕ) → slice_get places x ≡ Some place → (k : ℕ) × (place_at places x ≡ Some k)
      by None e = absurd (placed.at x None e c)
      by (Some k) e = (k, ap entry_by e)

  -- an item that has none is not reached
  pub missing_unreached : (x : ℕ) → x < size → is_missing_at places x ≡ true → ¬ (IsReachedFrom names roots x)
  missing_unreached x lt none r =
      let p = has_place x lt ((reached x).1 r) in let both : true ≡ false = sym none ∙ ap is_missing p.1 in let bad : ⊥ = cc both in bad

  pub unreached_missing : (x : ℕ) → ¬ (IsReachedFrom names roots x) → is_missing_at places x ≡ true
  unreached_missing x out = by (place_at places x) refl
    where
      by : (o : Option ℕ) → place_at places x ≡ o → is_missing o ≡ true
      by None e = refl
      by (Some k) e = let at = place_is x k e in absurd (out ((reached x).0 (k, slice_get_within order k x at, get_or_from_slice_get order k x x at)))

  -- an item that is reached has a chain
  pub chain_of : (x : ℕ) → IsReachedFrom names roots x → (chain : List ℕ) × IsShortestChain names roots x chain
  chain_of x r =
      let there = (reached x).1 r in
      let at : slice_get order there.0 ≡ Some x = slice_get_read order (length order) there.0 x refl there.1 (sym there.2) in
      let c = chain_to order finder [] finders (suc there.0) there.0 (omega arith) there.1 in
      (c.0, chains there.0 x c.0 at c.1)

  module _ (items : List ℕ) where
    -- the positions of these items
    abbrev targets : List ℕ
    targets = filter_map (place_at places) items

    targets_inside : All (λ p. p < length order) targets
    targets_inside = positions_inside places (length order) (λ x k e. slice_get_within order k x (placed.at x (Some k) e)) items

    module _ (marks : List Bool) (on : AreOnChains finder targets marks) where
      -- what is marked is on a chain
      on_chain : (x k : ℕ) → place_at places x ≡ Some k → is_set marks k ≡ true → IsOnChainTo names roots items x
      on_chain x k at e =
          let set = marked_is marks k e in
          let f = on_front order finder targets finders targets_inside k ((on.marked k (slice_get_within marks k true set)).0 set) in
          let t = mapped_from (place_at places) items f.target f.there in
          record {
            target = t.0;
            asked = t.1;
            chain = f.chain;
            is = chains f.target t.0 f.chain (place_is t.0 f.target t.2) f.leads;
            on = subst (λ ys. Contains ys x) (sym f.is) (Contains-append_left f.front f.rest x (ends_at order finder k x f.front (place_is x k at) f.has));
          }

      -- what is on a chain is marked
      on_marked : (x : ℕ) → x < size → ((y : ℕ) → Contains items y → y < size) → IsOnChainTo names roots items x → (k : ℕ) × (place_at places x ≡ Some k) × (is_set marks k ≡ true)
      on_marked x lt below o =
          let y = o.target in
          let there : Contains order y = (reached y).1 (o.is.root, o.is.from, o.is.path, o.is.leads) in
          let t = has_place y (below y o.asked) there in
          let at : slice_get order t.0 ≡ Some y = place_is y t.0 t.1 in
          let target : Contains targets t.0 = mapped_to (place_at places) items t.0 (y, o.asked, t.1) in
          let c = chain_to order finder targets finders (suc t.0) t.0 (omega arith) (slice_get_within order t.0 y at) in
          let same : o.chain ≡ c.0 = one_chain names roots y o.chain c.0 o.is (chains t.0 y c.0 at c.1) in
          let w = All-contains (IsThingOn order finder targets) c.0 x (chain_on order finder targets t.0 c.0 c.1 (here target)) (subst (λ ys. Contains ys x) same o.on) in
          let p = has_place x lt (w.0, slice_get_within order w.0 x w.1, get_or_from_slice_get order w.0 x x w.1) in
          let one : w.0 ≡ p.0 = once_at order once w.0 p.0 x w.1 (place_is x p.0 p.1) in
          let inside : p.0 < length marks = (let l = slice_get_within order p.0 x (place_is x p.0 p.1) in let s = on.sized in let f = finders.sized in omega (arith, l, s, f)) in
          (p.0, p.1, is_marked marks p.0 ((on.marked p.0 inside).1 (subst (IsOnChain finder targets) one w.2)))

      module _ (last : List Bool) (are : last ≡ map (mark_by marks) places) where
        mark_is : (x : ℕ) → slice_get last x ≡ option_map (mark_by marks) (slice_get places x)
        mark_is x = ap (λ ms. slice_get ms x) are ∙ slice_get-map (mark_by marks) places x

        pub all_marked : ((y : ℕ) → Contains items y → y < size) → (x : ℕ) → x < size → (is_set last x ≡ true) ↔ IsOnChainTo names roots items x
        all_marked below x lt = (
          (λ e. from (slice_get places x) refl (sym (mark_is x) ∙ marked_is last x e)),
          (λ o.
              let m = on_marked x lt below o in
              is_marked last x (mark_is x ∙ (ap (option_map (mark_by marks)) (at_place (slice_get places x) m.0 m.1) ∙ ap Some m.2))),
        )
          where
            from : (o : Option (Option ℕ)) → slice_get places x ≡ o → option_map (mark_by marks) o ≡ Some true → IsOnChainTo names roots items x
            from None e h = absurd cc
            from (Some None) e h = absurd (let both : Some false ≡ Some true = h in cc)
            from (Some (Some k)) e h = on_chain x k (ap entry_by e) (same_Some (is_set marks k) true h)
