-- The tree of what was found has exactly the paths to targets.
use Rattle.std.proofs.Common.{◌≡◌, ◌≢◌, ℕ, ◌<◌, List, [], ◌∷◌, ◌++◌, length, map, take, get_or, true, Option, Some, None, refl, sym, ◌∙◌, ap, subst, inl, inr, arith}
use Rattle.std.specs.Prelude.{All, AllPairs, Contains, ◌↔◌}
use Rattle.std.specs.List.{slice_get}
use Rattle.std.specs.Option.{option_and_then, option_map}
use Rattle.std.proofs.lemmas.Bool.{cases_eq, cases_lt}
use Rattle.std.proofs.lemmas.List.{length-map, map-append, take-map}
use Rattle.std.proofs.lemmas.List.Elements.{All-contains, All-contains_itself, All-map, All-weaker, Contains-append_left, Contains-push}
use Rattle.std.proofs.lemmas.Option.{get_or_from_slice_get, same_Some, slice_get-get_or, slice_get-map, slice_get_within}
use Rattle.wc_graph.specs.ChainMarks.{IsOnChain, before, here}
use Rattle.wc_graph.specs.ChainTree.{HasFroms, IsChainTree, IsEnd, IsFromOf, IsInside, given}
use Rattle.wc_graph.specs.Private.Places.{place_at}
use Rattle.wc_graph.specs.Reached.{IsReachedFrom}
use Rattle.wc_graph.specs.ShortestChains.{AreFinders, IsFinderChain, IsShortestChain, at_named, at_root}
use Rattle.wc_graph.specs.declared.chain_tree.ChainTree.{ChainTree}
use Rattle.wc_graph.proofs.ChainFrontLemmas.{IsThingOn, chain_on, on_front}
use Rattle.wc_graph.proofs.ChainTreeLemmas.{from_earlier}
use Rattle.wc_graph.proofs.ListLemmas.{contains_mapped, contains_unmapped}
use Rattle.wc_graph.proofs.OnChainLemmas.{mapped_from, mapped_to}
use Rattle.wc_graph.proofs.OneChainLemmas.{one_chain}
use Rattle.wc_why.specs.Component.{target_item}
use Rattle.wc_why.specs.Graph.{has_item, names_in}
use Rattle.wc_why.specs.Part.{PartView}
use Rattle.wc_why.specs.Paths.{ArePaths, IsEndOf, IsFirstPath, IsOnPathTo, IsReadBack, IsUnreached, begins, goes_on}
use Rattle.wc_why.specs.Private.Found.{IsFoundOf}
use Rattle.wc_why.specs.Private.Numbers.{AreNumbers, number_of, place_of, total}
use Rattle.wc_why.specs.Private.PathTree.{item_in, position_of}
use Rattle.wc_why.specs.declared.component.Target.{Target}
use Rattle.wc_why.specs.declared.numbers.Numbers.{Numbers}
use Rattle.wc_why.proofs.FoundLemmas.{chain_step, ends_with, first_reached}
use Rattle.wc_why.proofs.NumberLemmas.{item_there, number_back, number_is, one_number}

-- there is one chain to a position
same_chain : {found finder : List ℕ} {k : ℕ} {a : List ℕ} → IsFinderChain found finder k a → (l : ℕ) (b : List ℕ) → l ≡ k → IsFinderChain found finder l b → a ≡ b
same_chain {found} (at_root k x at own) l b e (at_root m y beside other) =
    let same : x ≡ y = same_Some x y (sym at ∙ (ap (slice_get found) (sym e) ∙ beside)) in
    ap (λ v. v ∷ []) same
same_chain {found} {finder} (at_root k x at own) l b e (at_named m j y front beside by other c) =
    absurd (other (same_Some j k (sym by ∙ (ap (slice_get finder) e ∙ own)) ∙ sym e))
same_chain {found} {finder} (at_named k j x chain at by other c) l b e (at_root m y beside own) =
    absurd (other (same_Some j l (sym by ∙ (ap (slice_get finder) (sym e) ∙ own)) ∙ e))
same_chain {found} {finder} (at_named k j x chain at by other c) l b e (at_named m i y front beside named apart d) =
    let same : x ≡ y = same_Some x y (sym at ∙ (ap (slice_get found) (sym e) ∙ beside)) in
    let one : i ≡ j = same_Some i j (sym named ∙ (ap (slice_get finder) e ∙ by)) in
    ap (λ l. l ++ x ∷ []) (same_chain c i front one d) ∙ ap (λ v. front ++ v ∷ []) same

-- there is one path to an item
one_first : {X : Type 0} (names : X → List X) (lists : List (List X)) (x : X) (l m : ℕ) (a b : List X) → IsFirstPath names lists x l a → IsFirstPath names lists x m b → a ≡ b
one_first names lists x l m a b v w = elim (cases_lt l m) [
  | inl lt ↦ absurd (w.none_before l v.roots lt v.of_list (first_reached names lists x l a v))
  | inr past ↦ elim (cases_eq l m) [
    | inl same ↦
        let one : v.roots ≡ w.roots = same_Some v.roots w.roots (sym v.of_list ∙ (ap (slice_get lists) same ∙ w.of_list)) in
        one_chain names w.roots x a b (subst (λ r. IsShortestChain names r x a) one v.shortest) w.shortest
    | inr apart ↦ absurd (v.none_before m w.roots (omega (arith, past, apart)) w.of_list (first_reached names lists x m b w))
  ]
]

module _ (parts : List PartView) (n : Numbers) (numbered : AreNumbers parts n) (lists : List (List (ℕ × ℕ))) (order finder : List ℕ) (places : List (Option ℕ))
    (s : IsFoundOf parts n lists order finder places) where
  finders : AreFinders order finder
  finders = record { sized = s.sized; earlier = λ k lt. s.earlier k (let z = s.sized in omega (arith, z, lt)) }

  -- the position of a target is that of its number
  abbrev IsNumbered : Target → ℕ → Type 0
  IsNumbered t k = (x : ℕ) × (x < total n) × (place_of n x ≡ target_item t) × (place_at places x ≡ Some k)

  from_position : (t : Target) (k : ℕ) → position_of n places t ≡ Some k → IsNumbered t k
  from_position t k e = by (number_of n (target_item t)) refl e
    where
      by : (o : Option ℕ) → number_of n (target_item t) ≡ o → option_and_then (place_at places) o ≡ Some k → IsNumbered t k
      by None is e = absurd (let eq : None ≡ Some k = e in cc)
      by (Some x) is e = let (lt, same) = number_is parts n.starts.items n.owners.items numbered (target_item t) x is in (x, lt, same, e)

  -- a target that has none is not reached
  unplaced : (t : Target) → position_of n places t ≡ None → IsUnreached (names_in parts) lists (target_item t)
  unplaced t none = by (number_of n (target_item t)) refl none
    where
      by : (o : Option ℕ) → number_of n (target_item t) ≡ o → option_and_then (place_at places) o ≡ None → IsUnreached (names_in parts) lists (target_item t)
      by None is e = λ j roots at r.
          let (x, lt, same) = s.reached_there j roots at (target_item t) r in
          let number = number_back parts n.starts.items n.owners.items numbered x lt in
          let eq : None ≡ Some x = sym is ∙ (ap (number_of n) (sym same) ∙ number) in cc
      by (Some x) is e =
          let (lt, same) = number_is parts n.starts.items n.owners.items numbered (target_item t) x is in
          subst (IsUnreached (names_in parts) lists) same (s.missing x lt e)

  -- what is before an item that has a position
  at_position : (k m : ℕ) → slice_get order k ≡ Some m → item_in n order k ≡ place_of n m
  at_position k m at = ap (place_of n) (get_or_from_slice_get order k m 0 at)

  module _ (ts : List Target) where
    abbrev pub positions : List ℕ
    positions = given (map (position_of n places) ts)

    -- a position that is asked for is that of a target
    abbrev IsAskedAt : ℕ → Type 0
    IsAskedAt k = (t : Target) × Contains ts t × IsNumbered t k

    asked_at : (k : ℕ) → Contains positions k → IsAskedAt k
    asked_at k c =
        let (o, at, is) = mapped_from (λ (o : Option ℕ). o) (map (position_of n places) ts) k c in
        let (t, there, e) = contains_unmapped (position_of n places) ts o at in
        (t, there, from_position t k (e ∙ is))

    inside_at : (k : ℕ) → Contains positions k → k < length order
    inside_at k c =
        let (t, there, (x, lt, same, at)) = asked_at k c in
        slice_get_within order k x (s.placed x k at).there

    inside : All (λ k. k < length order) positions
    inside = All-weaker (Contains positions) (λ k. k < length order) inside_at positions (All-contains_itself positions)

    placed_of : (k : ℕ) → IsOnChain finder positions k → (z : ℕ) × (place_at places z ≡ Some k)
    placed_of k (here c) = let (t, there, (x, lt, same, at)) = asked_at k c in (x, at)
    placed_of k (before next on e) = let (z, at) = placed_of next on in (s.placed z next at).finder_placed k e

    -- the item of such a position is on the path to a target
    use_shown : (k : ℕ) → IsOnChain finder positions k → IsOnPathTo (names_in parts) lists (map target_item ts) (item_in n order k)
    use_shown k on =
        let f = on_front order finder positions finders inside k on in
        let (t, there, (x, lt, same, at)) = asked_at f.target f.there in
        let p = s.placed x f.target at in
        let one : p.chain ≡ f.chain = same_chain p.has f.target f.chain refl f.leads in
        let (front, m, at_k, shape) = ends_with f.has in
        let in_front : Contains f.front m = subst (λ l. Contains l m) (sym shape) (Contains-push front m) in
        let in_chain : Contains p.chain m =
        subst (λ l. Contains l m) (sym one) (subst (λ l. Contains l m) (sym f.is) (Contains-append_left f.front f.rest m in_front)) in
        record {
          target = target_item t;
          asked = contains_mapped target_item ts t there;
          list = p.list;
          path = map (place_of n) p.chain;
          is = subst (λ y. IsFirstPath (names_in parts) lists y p.list (map (place_of n) p.chain)) same p.leads;
          on = subst (Contains (map (place_of n) p.chain)) (sym (at_position k m at_k)) (contains_mapped (place_of n) p.chain m in_chain);
        }

    -- an item on such a path has such a position
    use_to : (y : ℕ × ℕ) → IsOnPathTo (names_in parts) lists (map target_item ts) y → (k : ℕ) × IsOnChain finder positions k × (item_in n order k ≡ y)
    use_to y o =
        let (t, there, e) = contains_unmapped target_item ts o.target o.asked in
        by t there e (position_of n places t) refl
      where
        by : (t : Target) → Contains ts t → target_item t ≡ o.target → (q : Option ℕ) → position_of n places t ≡ q
            → (k : ℕ) × IsOnChain finder positions k × (item_in n order k ≡ y)
        by t there e None is =
            absurd (unplaced t is o.list o.is.roots o.is.of_list
            (subst (IsReachedFrom (names_in parts) o.is.roots) (sym e) (first_reached (names_in parts) lists o.target o.list o.path o.is)))
        by t there e (Some q) is =
            let (x, lt, same, at) = from_position t q is in
            let p = s.placed x q at in
            let leads : IsFirstPath (names_in parts) lists o.target p.list (map (place_of n) p.chain) =
            subst (λ z. IsFirstPath (names_in parts) lists z p.list (map (place_of n) p.chain)) (same ∙ e) p.leads in
            let one : o.path ≡ map (place_of n) p.chain = one_first (names_in parts) lists o.target o.list p.list o.path (map (place_of n) p.chain) o.is leads in
            let (m, on, made) = contains_unmapped (place_of n) p.chain y (subst (λ l. Contains l y) one o.on) in
            let asked : Contains (map (position_of n places) ts) (Some q) =
            subst (Contains (map (position_of n places) ts)) is (contains_mapped (position_of n places) ts t there) in
            let target : Contains positions q = mapped_to (λ (o : Option ℕ). o) (map (position_of n places) ts) q (Some q, asked, refl) in
            let (j, here_m, used) = All-contains (IsThingOn order finder positions) p.chain m (chain_on order finder positions q p.chain p.has (here target)) on in
            (j, used, at_position j m here_m ∙ made)

  -- the chain of a position is read back from a tree
  module _ (t_order : List ℕ) (from : List (Option ℕ)) (has : HasFroms finder t_order from) where
    abbrev shown : List (ℕ × ℕ)
    shown = map (item_in n order) t_order

    item_at : (place k m : ℕ) → slice_get t_order place ≡ Some k → slice_get order k ≡ Some m → slice_get shown place ≡ Some (place_of n m)
    item_at place k m at is = slice_get-map (item_in n order) t_order place ∙ (ap (option_map (item_in n order)) at ∙ ap (λ y. Some y) (at_position k m is))

    read : {k : ℕ} {chain : List ℕ} → IsFinderChain order finder k chain → (place : ℕ) → slice_get t_order place ≡ Some k
        → IsReadBack shown from place (map (place_of n) chain)
    read (at_root k x is own) place at = root_by (has place k at)
      where
        root_by : (o : Option ℕ) × (slice_get from place ≡ Some o) × IsFromOf finder t_order place k o → IsReadBack shown from place (place_of n x ∷ [])
        root_by (None, none, f) = begins place (place_of n x) (item_at place k x at is) none
        root_by (Some earlier, some, f) = absurd (f.2 (sym (same_Some k f.0 (sym own ∙ f.1))))
    read (at_named k j x chain is by other c) place at = named_by (has place k at) (λ earlier there. read c earlier there)
      where
        named_by : (o : Option ℕ) × (slice_get from place ≡ Some o) × IsFromOf finder t_order place k o
            → ((earlier : ℕ) → slice_get t_order earlier ≡ Some j → IsReadBack shown from earlier (map (place_of n) chain))
            → IsReadBack shown from place (map (place_of n) (chain ++ x ∷ []))
        named_by (None, none, f) back = absurd (other (same_Some j k (sym by ∙ f)))
        named_by (Some earlier, some, f) back =
            let (i, found_by, apart, lt, there) = f in
            let same : i ≡ j = same_Some i j (sym found_by ∙ by) in
            subst (IsReadBack shown from place) (sym (map-append (place_of n) chain (x ∷ [])))
            (goes_on place earlier (place_of n x) (map (place_of n) chain) (item_at place k x at is) some
            (back earlier (subst (λ v. slice_get t_order earlier ≡ Some v) same there)))

  -- a chain's last item is named by the one before it
  before_names : {k : ℕ} {chain : List ℕ} → IsFinderChain order finder k chain → (list : ℕ) (y : ℕ × ℕ) → IsFirstPath (names_in parts) lists y list (map (place_of n) chain)
      → (i : ℕ) → slice_get finder k ≡ Some i → i ≢ k → (z m : ℕ) → slice_get order i ≡ Some z → slice_get order k ≡ Some m
      → Contains (names_in parts (place_of n z)) (place_of n m)
  before_names (at_root k x is own) list y w i by other z m iz km = absurd (other (same_Some i k (sym by ∙ own)))
  before_names (at_named k j x chain is named apart c) list y w i by other z m iz km =
      let same : j ≡ i = same_Some j i (sym named ∙ by) in
      let (front, v, at, shape) = ends_with c in
      let is_z : v ≡ z = same_Some v z (sym at ∙ (ap (slice_get order) same ∙ iz)) in
      let is_m : x ≡ m = same_Some x m (sym is ∙ km) in
      let f = place_of n in
      let made : map f (chain ++ x ∷ []) ≡ (map f front ++ f v ∷ []) ++ f x ∷ [] =
      ap (λ l. map f (l ++ x ∷ [])) shape ∙ (map-append f (front ++ v ∷ []) (x ∷ []) ∙ ap (λ l. l ++ f x ∷ []) (map-append f front (v ∷ []))) in
      let c = chain_step (names_in parts) w.roots y (f v) (f x) (map f front) (map f (chain ++ x ∷ [])) w.shortest made in
      subst (λ b. Contains (names_in parts (f z)) (f b)) is_m (subst (λ a. Contains (names_in parts (f a)) (f x)) is_z c)

  module _ (ts : List Target) (t : ChainTree) (is : IsChainTree finder (map (position_of n places) ts) t) where
    abbrev items : List (ℕ × ℕ)
    items = map (item_in n order) t.order.items

    -- the position at a place
    record IsAt (place : ℕ) : Type 0 where
      k : ℕ
      at : slice_get t.order.items place ≡ Some k
      on : IsOnChain finder (positions ts) k
      m : ℕ
      is_m : slice_get order k ≡ Some m
      placed : place_at places m ≡ Some k
      lt : m < total n

    at_place : (place : ℕ) → place < length t.order.items → IsAt place
    at_place place lt =
        let k = get_or t.order.items place 0 in
        let on = is.used place 0 lt in
        let (z, e) = placed_of ts k on in
        let there = (s.placed z k e).there in
        record {
          k = k;
          at = slice_get-get_or t.order.items place 0 lt;
          on = on;
          m = z;
          is_m = there;
          placed = e;
          lt = subst (λ v. v < total n) (get_or_from_slice_get order k z z there) (s.inside k z (slice_get_within order k z there));
        }

    item_of : (place : ℕ) (a : IsAt place) → slice_get items place ≡ Some (place_of n a.m)
    item_of place a = item_at t.order.items t.from.items is.froms place a.k a.m a.at a.is_m

    sizes : length items ≡ length t.order.items
    sizes = length-map t.order.items (item_in n order)

    items_once : AllPairs (λ x y. x ≢ y) items
    items_once i j d less lt e =
        let jl : j < length t.order.items = let z = sizes in omega (arith, lt, z) in
        let il : i < length t.order.items = omega (arith, jl, less) in
        let a = at_place i il in
        let b = at_place j jl in
        let one : place_of n a.m ≡ place_of n b.m =
        sym (get_or_from_slice_get items i (place_of n a.m) d (item_of i a)) ∙ (e ∙ get_or_from_slice_get items j (place_of n b.m) d (item_of j b)) in
        let m : a.m ≡ b.m = one_number parts n.starts.items n.owners.items numbered a.m b.m a.lt b.lt one in
        let same : a.k ≡ b.k = same_Some a.k b.k (sym a.placed ∙ (ap (place_at places) m ∙ b.placed)) in
        is.once i j 0 less jl
        (get_or_from_slice_get t.order.items i a.k 0 a.at ∙ (same ∙ sym (get_or_from_slice_get t.order.items j b.k 0 b.at)))

    in_order : (size : ℕ) → (count : ℕ) × ((y : ℕ × ℕ) → Contains (take count items) y ↔ IsOnPathTo (names_in parts) lists (take size (map target_item ts)) y)
    in_order size =
        let (count, are) = is.in_order size in (
          count,
          λ y. (
            (λ c.
                let (k, at, made) = contains_unmapped (item_in n order) (take count t.order.items) y (subst (λ l. Contains l y) (take-map (item_in n order) count t.order.items) c) in
                let on : IsOnChain finder (positions (take size ts)) k =
                subst (λ l. IsOnChain finder (given l) k) (take-map (position_of n places) size ts) ((are k).0 at) in
                subst (λ l. IsOnPathTo (names_in parts) lists l y) (sym (take-map target_item size ts))
                (subst (IsOnPathTo (names_in parts) lists (map target_item (take size ts))) made (use_shown (take size ts) k on))),
            (λ o.
                let (k, on, made) = use_to (take size ts) y (subst (λ l. IsOnPathTo (names_in parts) lists l y) (take-map target_item size ts) o) in
                let there = (are k).1 (subst (λ l. IsOnChain finder (given l) k) (sym (take-map (position_of n places) size ts)) on) in
                subst (λ l. Contains l y) (sym (take-map (item_in n order) count t.order.items))
                (subst (Contains (map (item_in n order) (take count t.order.items))) made (contains_mapped (item_in n order) (take count t.order.items) k there))),
          ),
        )

    names_it : (k j : ℕ) (x y : ℕ × ℕ) → slice_get t.from.items k ≡ Some (Some j) → slice_get items k ≡ Some x → slice_get items j ≡ Some y
        → Contains (names_in parts y) x
    names_it k j x y from at_k at_j =
        let lt : k < length t.order.items = let w = slice_get_within items k x at_k in let z = sizes in omega (arith, w, z) in
        let a = at_place k lt in
        by a (is.froms k a.k a.at)
      where
        by : (a : IsAt k) → (o : Option ℕ) × (slice_get t.from.items k ≡ Some o) × IsFromOf finder t.order.items k a.k o → Contains (names_in parts y) x
        by a (None, none, f) = absurd (let eq : None ≡ Some j = same_Some None (Some j) (sym none ∙ from) in cc)
        by a (Some i, some, f) =
            let (q, finds, apart, less, there) = f in
            let same : i ≡ j = same_Some i j (same_Some (Some i) (Some j) (sym some ∙ from)) in
            let b = at_place j (let w = slice_get_within items j y at_j in let z = sizes in omega (arith, w, z)) in
            let is_q : b.k ≡ q = same_Some b.k q (sym b.at ∙ (ap (slice_get t.order.items) (sym same) ∙ there)) in
            let p = s.placed a.m a.k a.placed in
            let c = before_names p.has p.list (place_of n a.m) p.leads q finds apart b.m a.m (subst (λ v. slice_get order v ≡ Some b.m) is_q b.is_m) a.is_m in
            let is_x : place_of n a.m ≡ x = same_Some (place_of n a.m) x (sym (item_of k a) ∙ at_k) in
            let is_y : place_of n b.m ≡ y = same_Some (place_of n b.m) y (sym (item_of j b) ∙ at_j) in
            subst (λ v. Contains (names_in parts y) v) is_x (subst (λ v. Contains (names_in parts v) (place_of n a.m)) is_y c)

    end_is : (target : Target) (end : Option ℕ) → IsEnd t.order.items (position_of n places target) end → IsEndOf (names_in parts) lists items t.from.items (target_item target) end
    end_is target end ended = by (position_of n places target) refl ended
      where
        by : (q : Option ℕ) → position_of n places target ≡ q → IsEnd t.order.items q end → IsEndOf (names_in parts) lists items t.from.items (target_item target) end
        by None is_none e = subst (IsEndOf (names_in parts) lists items t.from.items (target_item target)) (sym e) (unplaced target is_none)
        by (Some q) is_q (place, e, at) =
            let (x, lt, same, here_q) = from_position target q is_q in
            let p = s.placed x q here_q in
            subst (IsEndOf (names_in parts) lists items t.from.items (target_item target)) (sym e) (
              p.list,
              map (place_of n) p.chain,
              subst (λ y. IsFirstPath (names_in parts) lists y p.list (map (place_of n) p.chain)) same p.leads,
              read t.order.items t.from.items is.froms p.has place at,
            )

    pub are_paths : ArePaths (names_in parts) lists (map target_item ts) items t.from.items t.ends.items
    are_paths = record {
      even = is.even ∙ sym sizes;
      each = is.each ∙ (length-map ts (position_of n places) ∙ sym (length-map ts target_item));
      once = items_once;
      used = All-map (IsOnPathTo (names_in parts) lists (map target_item ts)) (item_in n order) t.order.items (λ i d lt. use_shown ts (get_or t.order.items i d) (is.used i d lt));
      in_order = in_order;
      earlier = λ k j at. from_earlier finder (map (position_of n places) ts) t is k j at;
      named = names_it;
      paths = λ k y at. by k y at (slice_get ts k) refl;
    }
      where
        by : (k : ℕ) (y : ℕ × ℕ) → slice_get (map target_item ts) k ≡ Some y → (o : Option Target) → slice_get ts k ≡ o
            → (end : Option ℕ) × (slice_get t.ends.items k ≡ Some end) × IsEndOf (names_in parts) lists items t.from.items y end
        by k y at None none =
            absurd (let eq : None ≡ Some y = sym (slice_get-map target_item ts k ∙ ap (option_map target_item) none) ∙ at in cc)
        by k y at (Some target) e =
            let place = slice_get-map (position_of n places) ts k ∙ ap (option_map (position_of n places)) e in
            let (end, found, ended) = is.ends k (position_of n places target) place in
            let same : target_item target ≡ y = same_Some (target_item target) y (sym (slice_get-map target_item ts k ∙ ap (option_map target_item) e) ∙ at) in
            (end, found, subst (λ v. IsEndOf (names_in parts) lists items t.from.items v end) same (end_is target end ended))

    -- all items are there
    pub items_there : All (λ y. has_item parts y ≡ true) items
    items_there = λ i d lt.
        let a = at_place i (let z = sizes in omega (arith, lt, z)) in
        subst (λ y. has_item parts y ≡ true) (sym (get_or_from_slice_get items i (place_of n a.m) d (item_of i a))) (item_there parts n.starts.items n.owners.items numbered a.m a.lt)

    -- positions that are asked for are inside
    pub order_inside : All (λ k. k < length order) t.order.items
    order_inside = λ i d lt. let (z, e) = placed_of ts (get_or t.order.items i d) (is.used i d lt) in slice_get_within order (get_or t.order.items i d) z (s.placed z (get_or t.order.items i d) e).there

  -- for the call of the tree
  pub targets_inside : (ts : List Target) → All (IsInside finder) (map (position_of n places) ts)
  targets_inside ts = All-map (IsInside finder) (position_of n places) ts (λ i d lt. by (get_or ts i d) (position_of n places (get_or ts i d)) refl)
    where
      by : (t : Target) (o : Option ℕ) → position_of n places t ≡ o → IsInside finder o
      by t None e = tt
      by t (Some k) e =
          let (x, lt, same, at) = from_position t k e in
          let w = slice_get_within order k x (s.placed x k at).there in
          let z = s.sized in omega (arith, w, z)
