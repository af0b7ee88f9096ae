-- What one more list of roots reaches, after what the lists before it reach.
use Rattle.std.proofs.Common.{◌≡◌, ◌≢◌, ◌⊎◌, ℕ, suc, ◌+◌, ◌-◌, ◌<◌, ◌≤◌, List, [], ◌∷◌, ◌++◌, length, map, take, get_or, true, ◌==◌, Option, Some, None, refl, sym, ◌∙◌, ap, subst, inl, inr, arith}
use Rattle.std.specs.Prelude.{All, Contains}
use Rattle.std.specs.List.{slice_get}
use Rattle.std.specs.Option.{option_map}
use Rattle.std.proofs.lemmas.Bool.{cases_eq, cases_lt, eqb-true}
use Rattle.std.proofs.lemmas.List.{append_assoc, get_or-map, get_or_append_left, length-append, length-map, length-take-le, take_more}
use Rattle.std.proofs.lemmas.List.Elements.{All-append, Contains-push_cases}
use Rattle.std.proofs.lemmas.Option.{get_or_from_slice_get, same_Some, slice_get-get_or, slice_get-map, slice_get_within}
use Rattle.std.proofs.Math.Seq.{get_or-append_right}
use Rattle.wc_graph.specs.Private.Places.{entry_by, place_at}
use Rattle.wc_graph.specs.Reached.{IsPath, IsReachedFrom}
use Rattle.wc_graph.specs.Search.{IsTreeOf}
use Rattle.wc_graph.specs.ShortestChains.{IsFinderChain, IsShortestChain, at_named, at_root}
use Rattle.wc_graph.specs.declared.tree.Tree.{Tree}
use Rattle.wc_graph.proofs.ChainFrontLemmas.{chain_to}
use Rattle.wc_graph.proofs.ChainTreeLemmas.{push_cases}
use Rattle.wc_graph.proofs.ListLemmas.{back_at, contains_mapped, get_front, get_last, get_set_other, set_same}
use Rattle.wc_graph.proofs.OnChainLemmas.{once_at}
use Rattle.wc_why.specs.Graph.{names_in}
use Rattle.wc_why.specs.Part.{PartView}
use Rattle.wc_why.specs.Paths.{IsFirstPath}
use Rattle.wc_why.specs.Private.Found.{AreNoted, IsFoundOf, IsNoted, IsPlaced}
use Rattle.wc_why.specs.Private.Graph.{AreLinked, names_by}
use Rattle.wc_why.specs.Private.Numbers.{AreNumbers, place_of, total}
use Rattle.wc_why.specs.declared.links.Linked.{Linked}
use Rattle.wc_why.specs.declared.numbers.Numbers.{Numbers}
use Rattle.wc_why.proofs.GraphLemmas.{AreBelow, named_below, named_same, places_apart}
use Rattle.wc_why.proofs.TransportLemmas.{reached_any, reached_back, reached_inside, shortest_to}

-- one more position was noted
module _ (x place : ℕ) (old new : List (Option ℕ)) (within : x < length old) (noted : IsNoted x place old new) where
  noted_others : (y : ℕ) → y ≢ x → place_at new y ≡ place_at old y
  noted_others y other = by (place_at old x) refl
    where
      by : (o : Option ℕ) → place_at old x ≡ o → place_at new y ≡ place_at old y
      by None e = ap entry_by (ap (λ l. slice_get l y) (noted.noted e) ∙ get_set_other old x y (Some place) other)
      by (Some k) e = ap (λ l. place_at l y) (noted.kept k e)

  noted_now : place_at old x ≡ None → place_at new x ≡ Some place
  noted_now e = ap entry_by (ap (λ l. slice_get l x) (noted.noted e) ∙ set_same old x (Some place) within)

  noted_kept : (y k : ℕ) → place_at old y ≡ Some k → place_at new y ≡ Some k
  noted_kept y k e = elim (cases_eq y x) [
    | inl same ↦ ap (λ l. place_at l y) (noted.kept k (ap (place_at old) (sym same) ∙ e)) ∙ e
    | inr other ↦ noted_others y other ∙ e
  ]

pub noted_more : (count : ℕ) (items : List ℕ) (i : ℕ) (first old new : List (Option ℕ)) → i < length items → All (λ x. x < length first) items → (place : ℕ)
    → AreNoted count (take i items) first old → place ≡ count + i → length new ≡ length old → IsNoted (get_or items i 0) place old new
    → AreNoted count (take (i + 1) items) first new
noted_more count items i first old new lt all place a is sized noted = record {
  sized = sized ∙ a.sized;
  kept = λ y k e. noted_kept (get_or items i 0) place old new within noted y k (a.kept y k e);
  none = λ y e. none_of y e (place_at old y) refl;
  some = λ y k e. some_of y k e (place_at old y) refl;
}
  where
    is_at : place ≡ count + i
    is_at = is

    within : get_or items i 0 < length old
    within = let l = all i 0 lt in let s = a.sized in omega (arith, l, s)

    more : take (i + 1) items ≡ take i items ++ get_or items i 0 ∷ []
    more = take_more items i 0 lt

    none_of : (y : ℕ) → place_at new y ≡ None → (o : Option ℕ) → place_at old y ≡ o → (place_at first y ≡ None) × ¬ (Contains (take (i + 1) items) y)
    none_of y e (Some k) is = absurd (let eq : None ≡ Some k = sym e ∙ noted_kept (get_or items i 0) place old new within noted y k is in cc)
    none_of y e None is =
        let before = a.none y is in (
          before.0,
          λ c. elim (Contains-push_cases (take i items) (get_or items i 0) y (subst (λ l. Contains l y) more c)) [
            | inl early ↦ before.1 early
            | inr same ↦ let eq : None ≡ Some place = sym e ∙ (ap (place_at new) (sym same) ∙ noted_now (get_or items i 0) place old new within noted (ap (place_at old) same ∙ is)) in cc
          ],
        )

    some_of : (y k : ℕ) → place_at new y ≡ Some k → (o : Option ℕ) → place_at old y ≡ o
        → (place_at first y ≡ Some k) ⊎ ((place_at first y ≡ None) × (j : ℕ) × (k ≡ count + j) × (slice_get (take (i + 1) items) j ≡ Some y))
    some_of y k e (Some m) is =
        let same : m ≡ k = same_Some m k (sym (noted_kept (get_or items i 0) place old new within noted y m is) ∙ e) in
        elim (a.some y k (is ∙ ap (λ v. Some v) same)) [
          | inl early ↦ inl early
          | inr late ↦ let (none, j, at, here) = late in inr (none, j, at, ap (λ l. slice_get l j) more ∙ get_front (take i items) (get_or items i 0 ∷ []) j y here)
        ]
    some_of y k e None is = elim (cases_eq y (get_or items i 0)) [
      | inl same ↦
          let now : k ≡ place = same_Some k place (sym e ∙ (ap (place_at new) same ∙ noted_now (get_or items i 0) place old new within noted (ap (place_at old) (sym same) ∙ is))) in
          let len : length (take i items) ≡ i = length-take-le i items (omega (arith, lt)) in
          inr (
            (a.none y is).0,
            i,
            now ∙ is_at,
            ap (λ l. slice_get l i) more ∙ (subst (λ n. slice_get (take i items ++ get_or items i 0 ∷ []) n ≡ Some (get_or items i 0)) len (get_last (take i items) (get_or items i 0)) ∙ ap (λ v. Some v) (sym same)),
          )
      | inr other ↦ absurd (let eq : None ≡ Some k = sym is ∙ (sym (noted_others (get_or items i 0) place old new within noted y other) ∙ e) in cc)
    ]

-- a chain of finders ends with what is at its position
pub ends_with : {found finder : List ℕ} {k : ℕ} {chain : List ℕ} → IsFinderChain found finder k chain
    → (front : List ℕ) × (x : ℕ) × (slice_get found k ≡ Some x) × (chain ≡ front ++ x ∷ [])
ends_with (at_root k x is own) = ([], x, is, refl)
ends_with (at_named k j x chain is by other c) = (chain, x, is, refl)

no_two : {A : Type 0} (front : List A) (z x : A) → [] ≡ front ++ z ∷ x ∷ [] → ⊥
no_two [] z x e = cc
no_two (a ∷ front) z x e = cc

not_one : {A : Type 0} (r : A) (front : List A) (z x : A) → r ∷ [] ≡ front ++ z ∷ x ∷ [] → ⊥
not_one r [] z x e = let eq : [] ≡ x ∷ [] = cc in cc
not_one r (a ∷ front) z x e = no_two front z x (let eq : [] ≡ front ++ z ∷ x ∷ [] = cc in eq)

-- the last but one of a path names the last
last_step : {X : Type 0} (names : X → List X) (r : X) (path : List X) (y : X) → IsPath names r path y → (front : List X) (z x : X) → r ∷ path ≡ front ++ z ∷ x ∷ []
    → Contains (names z) x
last_step names r [] y p front z x e = absurd (not_one r front z x e)
last_step names r (a ∷ path) y (c, p) [] z x e =
    let first : r ≡ z = cc in
    let second : a ≡ x = cc in
    subst (λ v. Contains (names z) v) second (subst (λ v. Contains (names v) a) first c)
last_step names r (a ∷ path) y (c, p) (b ∷ front) z x e = last_step names a path y p front z x (let eq : a ∷ path ≡ front ++ z ∷ x ∷ [] = cc in eq)

pub chain_step : {X : Type 0} (names : X → List X) (roots : List X) (t z x : X) (front chain : List X) → IsShortestChain names roots t chain
    → chain ≡ (front ++ z ∷ []) ++ x ∷ [] → Contains (names z) x
chain_step names roots t z x front chain s is = last_step names s.root s.path t s.leads front z x (sym s.is ∙ (is ∙ append_assoc front (z ∷ []) (x ∷ [])))

reach_on : {X : Type 0} (names : X → List X) (x : X) (path : List X) (y z : X) → IsPath names x path y → Contains (names y) z → IsPath names x (path ++ z ∷ []) z
reach_on names x [] y z e c = (subst (λ v. Contains (names v) z) (sym e) c, refl)
reach_on names x (a ∷ path) y z (d, p) c = (d, reach_on names a path y z p c)

pub reached_on : {X : Type 0} (names : X → List X) (roots : List X) (y z : X) → IsReachedFrom names roots y → Contains (names y) z → IsReachedFrom names roots z
reached_on names roots y z (r, from, path, p) c = (r, from, path ++ z ∷ [], reach_on names r path y z p c)

pub first_reached : {X : Type 0} (names : X → List X) (lists : List (List X)) (x : X) (list : ℕ) (path : List X) (w : IsFirstPath names lists x list path) → IsReachedFrom names w.roots x
first_reached names lists x list path w = (w.shortest.root, w.shortest.from, w.shortest.path, w.shortest.leads)

module _ (parts : List PartView) (n : Numbers) (links : List (Option Linked)) (numbered : AreNumbers parts n) (below : AreBelow parts) (linked : AreLinked parts n links) where
  shortest_there : (roots : List ℕ) → All (λ x. x < total n) roots → (t : ℕ) (chain : List ℕ) → IsShortestChain (names_by parts n links) roots t chain
      → IsShortestChain (names_in parts) (map (place_of n) roots) (place_of n t) (map (place_of n) chain)
  shortest_there roots rooted t chain s =
      shortest_to (place_of n) (λ x. x < total n) (names_by parts n links) (names_in parts) (named_below parts n links numbered below linked)
      (named_same parts n links numbered below linked) (places_apart parts n links numbered below linked) roots rooted t chain s

  pub back_there : (roots : List ℕ) → All (λ x. x < total n) roots → (y : ℕ) → y < total n → IsReachedFrom (names_in parts) (map (place_of n) roots) (place_of n y)
      → IsReachedFrom (names_by parts n links) roots y
  back_there roots rooted y lt r =
      reached_back (place_of n) (λ x. x < total n) (names_by parts n links) (names_in parts) (named_below parts n links numbered below linked)
      (named_same parts n links numbered below linked) (places_apart parts n links numbered below linked) roots rooted y lt r

  pub any_there : (roots : List ℕ) → All (λ x. x < total n) roots → (y : ℕ × ℕ) → IsReachedFrom (names_in parts) (map (place_of n) roots) y
      → (x : ℕ) × (x < total n) × (place_of n x ≡ y)
  any_there roots rooted y r =
      let (x, e, h) =
      reached_any (place_of n) (λ x. x < total n) (names_by parts n links) (names_in parts) (named_below parts n links numbered below linked)
      (named_same parts n links numbered below linked) (places_apart parts n links numbered below linked) roots rooted y r in
      let lt =
      reached_inside (place_of n) (λ x. x < total n) (names_by parts n links) (names_in parts) (named_below parts n links numbered below linked)
      (named_same parts n links numbered below linked) (places_apart parts n links numbered below linked) roots rooted x h in
      (x, lt, sym e)

  pub step_there : (z x : ℕ) → z < total n → Contains (names_by parts n links z) x → Contains (names_in parts (place_of n z)) (place_of n x)
  step_there z x lt c =
      subst (λ l. Contains l (place_of n x)) (sym (named_same parts n links numbered below linked z lt))
      (contains_mapped (place_of n) (names_by parts n links z) x c)

-- after one more list the first lists are the same
old_list : (lists : List (List (ℕ × ℕ))) (more : List (ℕ × ℕ)) (i : ℕ) (others : List (ℕ × ℕ)) → i < length lists → slice_get (lists ++ more ∷ []) i ≡ Some others
    → slice_get lists i ≡ Some others
old_list lists more i others lt at = elim (push_cases lists more i others at) [
  | inl before ↦ before
  | inr last ↦ let e = last.0 in absurd (omega (arith, e, lt))
]

first_kept : (parts : List PartView) (lists : List (List (ℕ × ℕ))) (more : List (ℕ × ℕ)) (y : ℕ × ℕ) (list : ℕ) (path : List (ℕ × ℕ))
    → IsFirstPath (names_in parts) lists y list path → IsFirstPath (names_in parts) (lists ++ more ∷ []) y list path
first_kept parts lists more y list path w = record {
  roots = w.roots;
  of_list = get_front lists (more ∷ []) list w.roots w.of_list;
  shortest = w.shortest;
  none_before = λ j others lt at.
      let within = slice_get_within lists list w.roots w.of_list in
      w.none_before j others lt (old_list lists more j others (omega (arith, lt, within)) at);
}

-- a list without roots reaches nothing
not_from_none : {X : Type 0} (names : X → List X) (x : X) → ¬ (IsReachedFrom names [] x)
not_from_none names x (r, (k, lt, e), path, p) = absurd (omega (arith, lt))

pub found_none : (parts : List PartView) (n : Numbers) (lists : List (List (ℕ × ℕ))) (order finder : List ℕ) (places : List (Option ℕ))
    → IsFoundOf parts n lists order finder places → (roots : List ℕ) → true ≡ (length roots == 0)
    → IsFoundOf parts n (lists ++ map (place_of n) roots ∷ []) order finder places
found_none parts n lists order finder places s (r ∷ roots) none = absurd (let h : length (r ∷ roots) ≡ 0 = eqb-true (length (r ∷ roots)) 0 (sym none) in omega (arith, h))
found_none parts n lists order finder places s [] none = record {
  sized = s.sized;
  each = s.each;
  earlier = s.earlier;
  inside = s.inside;
  missing = λ x lt e j others at. elim (push_cases lists [] j others at) [
    | inl before ↦ s.missing x lt e j others before
    | inr last ↦ λ r. not_from_none (names_in parts) (place_of n x) (subst (λ l. IsReachedFrom (names_in parts) l (place_of n x)) last.1 r)
  ];
  placed = λ x k e.
      let w = s.placed x k e in
      record {
        there = w.there;
        chain = w.chain;
        has = w.has;
        list = w.list;
        leads = first_kept parts lists [] (place_of n x) w.list (map (place_of n) w.chain) w.leads;
        finder_placed = w.finder_placed;
      };
  reached_there = λ j others at y r. elim (push_cases lists [] j others at) [
    | inl before ↦ s.reached_there j others before y r
    | inr last ↦ absurd (not_from_none (names_in parts) y (subst (λ l. IsReachedFrom (names_in parts) l y) last.1 r))
  ];
}

module _ (parts : List PartView) (n : Numbers) (links : List (Option Linked)) (numbered : AreNumbers parts n) (below : AreBelow parts) (linked : AreLinked parts n links)
    (lists : List (List (ℕ × ℕ))) (order finder : List ℕ) (places : List (Option ℕ)) (s : IsFoundOf parts n lists order finder places) (roots : List ℕ)
    (rooted : All (λ x. x < total n) roots) (t : Tree) (is : IsTreeOf (names_by parts n links) roots t) (inside : All (λ x. x < total n) t.order.items)
    (order' finder' : List ℕ) (places' : List (Option ℕ)) (orders : order' ≡ order ++ t.order.items) (finders : finder' ≡ finder ++ map (λ k. length order + k) t.finder.items)
    (noted : AreNoted (length order) t.order.items places places') where
  abbrev lists' : List (List (ℕ × ℕ))
  lists' = lists ++ map (place_of n) roots ∷ []

  front_finder : (k j : ℕ) → k < length finder → slice_get finder' k ≡ Some j → slice_get finder k ≡ Some j
  front_finder k j lt e =
      let here = slice_get-get_or finder k 0 lt in
      here ∙ (sym (get_front finder (map (λ i. length order + i) t.finder.items) k (get_or finder k 0) here) ∙ (sym (ap (λ l. slice_get l k) finders) ∙ e))

  -- chains of what was found before
  front_chain : {k : ℕ} {chain : List ℕ} → IsFinderChain order finder k chain → IsFinderChain order' finder' k chain
  front_chain (at_root k x at own) =
      at_root k x (ap (λ l. slice_get l k) orders ∙ get_front order t.order.items k x at)
      (ap (λ l. slice_get l k) finders ∙ get_front finder (map (λ i. length order + i) t.finder.items) k k own)
  front_chain (at_named k j x chain at by other c) =
      at_named k j x chain (ap (λ l. slice_get l k) orders ∙ get_front order t.order.items k x at)
      (ap (λ l. slice_get l k) finders ∙ get_front finder (map (λ i. length order + i) t.finder.items) k j by) other (front_chain c)

  -- and of what is found now
  back_order : (k x : ℕ) → slice_get t.order.items k ≡ Some x → slice_get order' (length order + k) ≡ Some x
  back_order k x at = ap (λ l. slice_get l (length order + k)) orders ∙ (back_at order t.order.items k ∙ at)

  finder_at : (k : ℕ) → slice_get finder' (length order + k) ≡ option_map (λ i. length order + i) (slice_get t.finder.items k)
  finder_at k =
      ap (λ l. slice_get l (length order + k)) finders
      ∙ (subst (λ m. slice_get (finder ++ map (λ i. length order + i) t.finder.items) (m + k) ≡ slice_get (map (λ i. length order + i) t.finder.items) k) s.sized
      (back_at finder (map (λ i. length order + i) t.finder.items) k)
      ∙ slice_get-map (λ i. length order + i) t.finder.items k)

  back_finder : (k j : ℕ) → slice_get t.finder.items k ≡ Some j → slice_get finder' (length order + k) ≡ Some (length order + j)
  back_finder k j at = finder_at k ∙ ap (option_map (λ i. length order + i)) at

  back_chain : {k : ℕ} {chain : List ℕ} → IsFinderChain t.order.items t.finder.items k chain → IsFinderChain order' finder' (length order + k) chain
  back_chain (at_root k x at own) = at_root (length order + k) x (back_order k x at) (back_finder k k own)
  back_chain (at_named k j x chain at by other c) =
      at_named (length order + k) (length order + j) x chain (back_order k x at) (back_finder k j by) (λ e. other (omega (arith, e))) (back_chain c)

  -- what was found before
  kept_place : (x k : ℕ) → IsPlaced parts n lists order finder places x k → IsPlaced parts n lists' order' finder' places' x k
  kept_place x k w = record {
    there = ap (λ l. slice_get l k) orders ∙ get_front order t.order.items k x w.there;
    chain = w.chain;
    has = front_chain w.has;
    list = w.list;
    leads = first_kept parts lists (map (place_of n) roots) (place_of n x) w.list (map (place_of n) w.chain) w.leads;
    finder_placed = λ j e.
        let within : k < length finder = let l = slice_get_within order k x w.there in let z = s.sized in omega (arith, l, z) in
        let (z, at) = w.finder_placed j (front_finder k j within e) in
        (z, noted.kept z j at);
  }

  -- what no list reached before, and what names it was not reached either
  not_before : (x z : ℕ) → x < total n → z < total n → place_at places x ≡ None → Contains (names_by parts n links z) x → (q : ℕ) → place_at places z ≡ Some q → ⊥
  not_before x z lx lz none c q e =
      let w = (s.placed z q e).leads in
      s.missing x lx none (s.placed z q e).list w.roots w.of_list
      (reached_on (names_in parts) w.roots (place_of n z) (place_of n x)
      (first_reached (names_in parts) lists (place_of n z) (s.placed z q e).list (map (place_of n) (s.placed z q e).chain) w)
      (step_there parts n links numbered below linked z x lz c))

  order_below : (i z : ℕ) → slice_get t.order.items i ≡ Some z → z < total n
  order_below i z at =
      subst (λ v. v < total n) (get_or_from_slice_get t.order.items i z z at) (inside i z (slice_get_within t.order.items i z at))

  contains_at : (i z : ℕ) → slice_get t.order.items i ≡ Some z → Contains t.order.items z
  contains_at i z at = (i, slice_get_within t.order.items i z at, get_or_from_slice_get t.order.items i z z at)

  -- what is new has its new position
  new_place : (i z : ℕ) → slice_get t.order.items i ≡ Some z → ((q : ℕ) → place_at places z ≡ Some q → ⊥) → place_at places' z ≡ Some (length order + i)
  new_place i z at out = by (place_at places' z) refl
    where
      by : (o : Option ℕ) → place_at places' z ≡ o → o ≡ Some (length order + i)
      by None e = absurd ((noted.none z e).1 (contains_at i z at))
      by (Some q) e = elim (noted.some z q e) [
        | inl old ↦ absurd (out q old)
        | inr new ↦
            let (gone, m, same, here) = new in
            let one : m ≡ i = once_at t.order.items is.once m i z here at in
            ap (λ v. Some v) (omega (arith, same, one))
      ]

  finder_of : (x j i : ℕ) → x < total n → place_at places x ≡ None → slice_get t.order.items j ≡ Some x → slice_get t.finder.items j ≡ Some i
      → {chain : List ℕ} → IsFinderChain t.order.items t.finder.items j chain → IsShortestChain (names_by parts n links) roots x chain
      → (z : ℕ) × (place_at places' z ≡ Some (length order + i))
  finder_of x j i lt none at by (at_root k y here own) w =
      let same : j ≡ i = same_Some j i (sym own ∙ by) in
      (x, subst (λ m. place_at places' x ≡ Some (length order + m)) same (new_place j x at (λ q e. let eq : None ≡ Some q = sym none ∙ e in cc)))
  finder_of x j i lt none at by (at_named k m y chain here named other c) w =
      let same : m ≡ i = same_Some m i (sym named ∙ by) in
      let (front, z, is_z, shape) = ends_with c in
      let is_x : y ≡ x = same_Some y x (sym here ∙ at) in
      let c' = chain_step (names_by parts n links) roots x z x front (chain ++ y ∷ []) w (ap (λ l. l ++ y ∷ []) shape ∙ ap (λ v. (front ++ z ∷ []) ++ v ∷ []) is_x) in
      (z, subst (λ v. place_at places' z ≡ Some (length order + v)) same (new_place m z is_z (not_before x z lt (order_below m z is_z) none c')))

  new_placed : (x j : ℕ) → place_at places x ≡ None → slice_get t.order.items j ≡ Some x → IsPlaced parts n lists' order' finder' places' x (length order + j)
  new_placed x j none at =
      let lt = order_below j x at in
      let c = chain_to t.order.items t.finder.items [] t.finders (suc j) j (omega arith) (slice_get_within t.order.items j x at) in
      let w = is.chains j x c.0 at c.1 in
      record {
        there = back_order j x at;
        chain = c.0;
        has = back_chain c.1;
        list = length lists;
        leads = record {
          roots = map (place_of n) roots;
          of_list = get_last lists (map (place_of n) roots);
          shortest = shortest_there parts n links numbered below linked roots rooted x c.0 w;
          none_before = λ i others less e. s.missing x lt none i others (old_list lists (map (place_of n) roots) i others less e);
        };
        finder_placed = λ m e. by x j m none at lt c.1 w (slice_get t.finder.items j) refl e;
      }
    where
      by : (x j m : ℕ) → place_at places x ≡ None → slice_get t.order.items j ≡ Some x → x < total n → {chain : List ℕ} → IsFinderChain t.order.items t.finder.items j chain
          → IsShortestChain (names_by parts n links) roots x chain → (o : Option ℕ) → slice_get t.finder.items j ≡ o → slice_get finder' (length order + j) ≡ Some m
          → (z : ℕ) × (place_at places' z ≡ Some m)
      by x j m none at lt c w None f e = absurd (let eq : None ≡ Some m = sym (finder_at j ∙ ap (option_map (λ i. length order + i)) f) ∙ e in cc)
      by x j m none at lt c w (Some i) f e =
          let same : length order + i ≡ m = same_Some (length order + i) m (sym (back_finder j i f) ∙ e) in
          let (z, here) = finder_of x j i lt none at f c w in
          (z, here ∙ ap (λ v. Some v) same)

  sizes : length finder' ≡ length order'
  sizes =
      let a = ap length finders in
      let b = length-append finder (map (λ k. length order + k) t.finder.items) in
      let c = length-map t.finder.items (λ k. length order + k) in
      let d = ap length orders in
      let e = length-append order t.order.items in
      let f = t.finders.sized in
      let g = s.sized in omega (arith, a, b, c, d, e, f, g)

  early : (k : ℕ) → k < length finder' → get_or finder' k 0 ≤ k
  early k lt = elim (cases_lt k (length finder)) [
    | inl less ↦
        let same : get_or finder' k 0 ≡ get_or finder k 0 = ap (λ l. get_or l k 0) finders ∙ get_or_append_left finder (map (λ i. length order + i) t.finder.items) 0 k less in
        let le = s.earlier k less in omega (arith, same, le)
    | inr past ↦
        let more = map (λ i. length order + i) t.finder.items in
        let len : length finder' ≡ length finder + length more = ap length finders ∙ length-append finder more in
        let mapped : length more ≡ length t.finder.items = length-map t.finder.items (λ i. length order + i) in
        let within : k - length finder < length t.finder.items = omega (arith, lt, len, mapped, past) in
        let right : get_or finder' k 0 ≡ get_or more (k - length finder) 0 = ap (λ l. get_or l k 0) finders ∙ get_or-append_right finder more k 0 past in
        let at = get_or-map (λ i. length order + i) t.finder.items (k - length finder) 0 0 within in
        let f = t.finders.sized in
        let le = t.finders.earlier (k - length finder) (omega (arith, within, f)) in
        let g = s.sized in omega (arith, right, at, le, g, past)
  ]

  pub found_more : IsFoundOf parts n lists' order' finder' places'
  found_more = record {
    sized = sizes;
    each = noted.sized ∙ s.each;
    earlier = early;
    inside = subst (All (λ x. x < total n)) (sym orders) (All-append (λ x. x < total n) order t.order.items s.inside inside);
    missing = λ x lt e j others at.
        let (none, out) = noted.none x e in
        elim (push_cases lists (map (place_of n) roots) j others at) [
          | inl before ↦ s.missing x lt none j others before
          | inr last ↦ λ r. out ((is.reached x).1 (back_there parts n links numbered below linked roots rooted x lt (subst (λ l. IsReachedFrom (names_in parts) l (place_of n x)) last.1 r)))
        ];
    placed = λ x k e. elim (noted.some x k e) [
      | inl old ↦ kept_place x k (s.placed x k old)
      | inr new ↦ let (none, j, same, at) = new in subst (IsPlaced parts n lists' order' finder' places' x) (sym same) (new_placed x j none at)
    ];
    reached_there = λ j others at y r. elim (push_cases lists (map (place_of n) roots) j others at) [
      | inl before ↦ s.reached_there j others before y r
      | inr last ↦ any_there parts n links numbered below linked roots rooted y (subst (λ l. IsReachedFrom (names_in parts) l y) last.1 r)
    ];
  }
