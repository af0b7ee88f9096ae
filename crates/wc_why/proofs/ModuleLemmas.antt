-- The items of a tree by modules: what is said of each.
use Rattle.std.proofs.Common.{◌≡◌, ◌≢◌, ℕ, zero, suc, ◌+◌, ◌<◌, List, [], ◌∷◌, ◌++◌, length, map, take, get_or, Bool, true, false, cond, nat_lt, Option, Some, None, refl, sym, ◌∙◌, ap, subst, inl, inr, arith, ltb-true}
use Rattle.std.specs.Prelude.{All, Contains, filter}
use Rattle.std.specs.List.{range_with_len, slice_get}
use Rattle.std.specs.Option.{option_and_then, option_map, option_map_or, option_to_list}
use Rattle.std.proofs.lemmas.Bool.{eqb-true}
use Rattle.std.proofs.lemmas.List.{length-map, length_push, map-append, take_more}
use Rattle.std.proofs.lemmas.List.Elements.{All-contains_itself, All-weaker, Contains-append_cases}
use Rattle.std.proofs.lemmas.Option.{get_or_from_slice_get, same_Some, slice_get-get_or, slice_get_within}
use Rattle.wc_graph.proofs.ChainTreeLemmas.{push_cases}
use Rattle.wc_graph.proofs.ListLemmas.{contains_unmapped, from_filter, get_some}
use Rattle.wc_why.specs.Component.{AreShown, IsAfter, IsModuleAt, IsShownAt, ShownView, is_in, is_position_in, position_in, positions_in}
use Rattle.wc_why.specs.Graph.{has_item, link_at, linked_item, names_in, part_names}
use Rattle.wc_paths.specs.Numbers.{item_at}
use Rattle.wc_paths.specs.declared.items.PathItem.{PathItem}
use Rattle.wc_why.specs.Lists.{IsRootOf}
use Rattle.wc_why.specs.Part.{BeginView, LinkView, PartView, part_view}
use Rattle.wc_why.specs.Tree.{TreeModuleView, TreeRootView, exported, tree_module_view}
use Rattle.wc_why.specs.declared.tree.TreeModule.{TreeModule}
use Rattle.wc_why.specs.Private.Layout.{IsModuleOf}
use Rattle.wc_why.specs.Private.Marks.{mark_of}
use Rattle.wc_why.specs.Private.Graph.{AreLinked, IsLinkedTo}
use Rattle.wc_why.specs.Private.Modules.{AreShownBy, IsAfterBy, IsShown, IsShownBy, linked_root, root_by, root_in, shown_view}
use Rattle.wc_why.specs.Private.Numbers.{AreNumbers, number_of, place_of, total}
use Rattle.wc_why.specs.Private.Roots.{AreFirsts, IsFirstOf}
use Rattle.wc_why.specs.declared.links.Linked.{Linked}
use Rattle.wc_why.specs.declared.numbers.Numbers.{Numbers}
use Rattle.wc_why.proofs.NumberLemmas.{none_there, number_is}
use Rattle.std.specs.declared.alloc.Global.{Global}
use Rattle.std.specs.declared.vec.Vec.{Vec}
use Rattle.wc_why.specs.Texts.{text_of}
use Rattle.wc_why.specs.declared.part.Part.{Part}
use Rattle.wc_why.proofs.PositionLemmas.{group_was}
use Rattle.wc_why.proofs.ViewLemmas.{view_at}
use Rattle.wc_why.specs.Private.Positions.{ArePositionsTo, items_of}
use Rattle.wc_why.specs.declared.layout.ShownItem.{ShownItem}
use Rattle.wc_why.specs.declared.shown.Shown.{Shown}

below_range : (a n k : ℕ) → Contains (range_with_len a n) k → k < a + n
below_range a zero k (i, lt, e) = absurd (omega (arith, lt))
below_range a (suc n) k (zero, lt, e) = let same : a ≡ k = e in omega (arith, same)
below_range a (suc n) k (suc i, lt, e) = let le = below_range (a + 1) n k (i, omega (arith, lt), e) in omega (arith, le)

passes : {A : Type 0} (p : A → Bool) (xs : List A) (x : A) → Contains (filter p xs) x → p x ≡ true
passes p [] x (i, lt, e) = absurd (omega (arith, lt))
passes {A} p (y ∷ xs) x c = by (p y) refl c (passes p xs x)
  where
    by : (b : Bool) → p y ≡ b → Contains (cond b (y ∷ filter p xs) (filter p xs)) x → (Contains (filter p xs) x → p x ≡ true) → p x ≡ true
    by true is (zero, lt, e) rest = subst (λ v. p v ≡ true) e is
    by true is (suc i, lt, e) rest = rest (i, omega (arith, lt), e)
    by false is d rest = rest d

-- a position of a module
pub position_there : (items : List (ℕ × ℕ)) (p n k : ℕ) → Contains (positions_in items p n) k → (k < n) × (y : ℕ × ℕ) × (slice_get items k ≡ Some y) × (y.0 ≡ p)
position_there items p n k c =
    let lt = below_range 0 n k (from_filter (is_position_in items p) (range_with_len 0 n) k c) in
    let (y, at, of) = by (slice_get items k) refl (passes (is_position_in items p) (range_with_len 0 n) k c) in (omega (arith, lt), y, at, of)
  where
    by : (o : Option (ℕ × ℕ)) → slice_get items k ≡ o → option_map_or (is_in p) o false ≡ true → (y : ℕ × ℕ) × (slice_get items k ≡ Some y) × (y.0 ≡ p)
    by None e h = absurd (let eq : false ≡ true = h in cc)
    by (Some y) e h = (y, e, eqb-true y.0 p h)

pub positions_below : (items : List (ℕ × ℕ)) (p : ℕ) (ks : List ℕ) → ks ≡ positions_in items p (length items) → All (λ k. k < length items) ks
positions_below items p ks is =
    subst (All (λ k. k < length items)) (sym is)
    (All-weaker (Contains (positions_in items p (length items))) (λ k. k < length items) (λ k c. (position_there items p (length items) k c).0)
    (positions_in items p (length items)) (All-contains_itself (positions_in items p (length items))))

-- the modules of the first so many parts
pub record AreModulesTo (parts : List PartView) (items : List (ℕ × ℕ)) (from : List (Option ℕ)) (M : ℕ × ℕ → Option Bool → Type 0) (count : ℕ) (ms : List TreeModuleView) : Type 0 where
  pub each : length ms ≡ count
  pub at : (p : ℕ) (part : PartView) (m : TreeModuleView) → slice_get parts p ≡ Some part → slice_get ms p ≡ Some m → IsModuleAt parts items from M p part m

pub modules_more : (parts : List PartView) (items : List (ℕ × ℕ)) (from : List (Option ℕ)) (M : ℕ × ℕ → Option Bool → Type 0) (p : ℕ) (part : PartView) (ms : List TreeModuleView)
    (m : TreeModuleView) → AreModulesTo parts items from M p ms → slice_get parts p ≡ Some part → IsModuleAt parts items from M p part m
    → AreModulesTo parts items from M (p + 1) (ms ++ m ∷ [])
modules_more parts items from M p part ms m a at w = record {
  each = length_push ms m ∙ ap (λ k. k + 1) a.each;
  at = λ q v x is here. elim (push_cases ms m q x here) [
    | inl before ↦ a.at q v x is before
    | inr last ↦
        let same : q ≡ p = last.0 ∙ a.each in
        let one : part ≡ v = same_Some part v (sym at ∙ (ap (slice_get parts) (sym same) ∙ is)) in
        subst (IsModuleAt parts items from M q v) (sym last.1) (subst (λ k. IsModuleAt parts items from M k v m) (sym same) (subst (λ u. IsModuleAt parts items from M p u m) one w))
  ];
}

-- what an item of another part is named by: a link
pub by_link : (parts : List PartView) (z y : ℕ × ℕ) → Contains (names_in parts z) y → z.0 ≢ y.0 → (l : LinkView) × (link_at parts z ≡ Some l) × (linked_item l ≡ y)
by_link parts z y c other = elim (Contains-append_cases (map (λ n. (z.0, n)) (part_names parts z)) (option_to_list (option_map linked_item (link_at parts z))) y c) [
  | inl own ↦ let (n, there, e) = contains_unmapped (λ (n : ℕ). (z.0, n)) (part_names parts z) y own in absurd (other (ap (λ (v : ℕ × ℕ). v.0) e))
  | inr linked ↦ by (link_at parts z) refl linked
]
  where
    by : (o : Option LinkView) → link_at parts z ≡ o → Contains (option_to_list (option_map linked_item o)) y → (l : LinkView) × (link_at parts z ≡ Some l) × (linked_item l ≡ y)
    by None e (i, lt, is) = absurd (omega (arith, lt))
    by (Some l) e (zero, lt, is) = (l, e, is)
    by (Some l) e (suc i, lt, is) = absurd (omega (arith, lt))

-- the items of a module, one after another
pub shown_more : (s : Shown) (ks : List ℕ) (k : ℕ) (views : List ShownView) (v : ShownView) → AreShownBy s ks views → IsShownBy s k v → AreShownBy s (ks ++ k ∷ []) (views ++ v ∷ [])
shown_more s ks k views v a w = record {
  each = length_push views v ∙ (ap (λ n. n + 1) a.each ∙ sym (length_push ks k));
  at = λ i j view e f. elim (push_cases ks k i j e) [
    | inl early ↦ elim (push_cases views v i view f) [
      | inl both ↦ a.at i j view early both
      | inr late ↦ (let lt = slice_get_within ks i j early in let q = late.0 in let z = a.each in absurd (omega (arith, lt, q, z)))
    ]
    | inr last ↦ elim (push_cases views v i view f) [
      | inl early ↦ (let lt = slice_get_within views i view early in let q = last.0 in let z = a.each in absurd (omega (arith, lt, q, z)))
      | inr late ↦ subst (λ n. IsShownBy s n view) (sym last.1) (subst (IsShownBy s k) (sym late.1) w)
    ]
  ];
}

pub shown_are : (s : Shown) (p : ℕ) (part : PartView) → slice_get (map part_view s.graph.parts.now) p ≡ Some part → (ks : List ℕ)
    → ks ≡ positions_in s.tree.now.items.items p (length s.tree.now.items.items) → (views : List ShownView) → AreShownBy s ks views
    → AreShown (map part_view s.graph.parts.now) p part s.tree.now.items.items s.tree.now.from.items (λ y only. only ≡ mark_of s.graph.numbers.now s.marks.now y) views
shown_are s p part at ks is views a = record {
  each = a.each ∙ ap length is;
  at = λ i k view e f.
      let here : slice_get ks i ≡ Some k = ap (λ l. slice_get l i) is ∙ e in
      let items = s.tree.now.items.items in
      let c : Contains (positions_in items p (length items)) k =
      (i, slice_get_within (positions_in items p (length items)) i k e, get_or_from_slice_get (positions_in items p (length items)) i k k e) in
      let (lt, y, is_y, of) = position_there items p (length items) k c in
      a.at i k view here f p part y.1 (is_y ∙ ap (λ (q : ℕ). Some (q, y.1)) of) at;
}

-- what is said of an item after another one of its module, and by a link
module _ (parts : List PartView) (items : List (ℕ × ℕ)) (modules : ℕ) (groups : List (List ℕ)) (own : List ℕ) (a : ArePositionsTo items modules (length items) groups own)
    (j : ℕ) (z y : ℕ × ℕ) (at : slice_get items j ≡ Some z) (part : PartView) (view : ShownView) where
  own_is : get_or own j 0 ≡ position_in items z j
  own_is = get_or_from_slice_get own j (position_in items z j) 0 (a.own_at j z (slice_get_within items j z at) at)

  pub after_link : z.0 ≢ y.0 → Contains (names_in parts z) y → view.from ≡ None → view.called ≡ [] → view.root ≡ option_map (linked_root (get_or own j 0)) (link_at parts z)
      → IsAfter parts part items j z y view
  after_link other c from called root = (
    (λ same. absurd (other same)),
    (λ e.
        let (l, is, leads) = by_link parts z y c other in
        record {
          link = l;
          is = is;
          leads = leads;
          root = root ∙ (ap (option_map (linked_root (get_or own j 0))) is ∙ ap (λ k. Some (linked_root k l)) own_is);
          from = from;
          called = called;
        }),
  )

-- the item at a position
module _ (parts : List PartView) (items : List (ℕ × ℕ)) (from : List (Option ℕ)) (M : ℕ × ℕ → Option Bool → Type 0) (k : ℕ) (y : ℕ × ℕ) (at : slice_get items k ≡ Some y)
    (view : ShownView) (is_item : (v : PartView) → slice_get parts y.0 ≡ Some v → view.item ≡ item_at v.counts y.1) (marked : M y view.only) where
  is_part : (p : ℕ) (part : PartView) (n : ℕ) → slice_get items k ≡ Some (p, n) → slice_get parts p ≡ Some part → slice_get parts y.0 ≡ Some part
  is_part p part n is here =
      let same : y ≡ (p, n) = same_Some y (p, n) (sym at ∙ is) in
      ap (λ (z : ℕ × ℕ). slice_get parts z.0) same ∙ here

  pub shown_none : slice_get from k ≡ Some None → view.from ≡ None → view.called ≡ [] → ((v : PartView) → slice_get parts y.0 ≡ Some v → IsRootOf v.begins y.1 view.root)
      → (p : ℕ) (part : PartView) (n : ℕ) → slice_get items k ≡ Some (p, n) → slice_get parts p ≡ Some part → IsShownAt parts part items from M k view
  shown_none none no_from no_called root p part n is here =
      let there = is_part p part n is here in
      record {
        y = y;
        before = None;
        is = at;
        is_before = none;
        item = is_item part there;
        only = marked;
        from_it = (no_from, no_called, root part there);
      }

  pub shown_some : (j : ℕ) → slice_get from k ≡ Some (Some j) → (z : ℕ × ℕ) → slice_get items j ≡ Some z → ((v : PartView) → slice_get parts y.0 ≡ Some v → IsAfter parts v items j z y view)
      → (p : ℕ) (part : PartView) (n : ℕ) → slice_get items k ≡ Some (p, n) → slice_get parts p ≡ Some part → IsShownAt parts part items from M k view
  shown_some j some z at_z after p part n is here =
      let there = is_part p part n is here in
      record {
        y = y;
        before = Some j;
        is = at;
        is_before = some;
        item = is_item part there;
        only = marked;
        from_it = (z, at_z, after part there);
      }

-- where paths begin with an item, and go on by a link
module _ (parts : List PartView) (n : Numbers) (numbered : AreNumbers parts n) (y : ℕ × ℕ) (x : ℕ) (is : number_of n y ≡ Some x) where
  number_at : (x < total n) × (place_of n x ≡ y)
  number_at = number_is parts n.starts.items n.owners.items numbered y x is

  pub first_is : (firsts : List (Option ℕ)) → AreFirsts parts n firsts → (v : PartView) → slice_get parts y.0 ≡ Some v → IsFirstOf v.begins y.1 (get_or firsts x None)
  first_is firsts a v at =
      let place = number_at.1 in
      let here : slice_get firsts x ≡ Some (get_or firsts x None) = slice_get-get_or firsts x None (let e = a.each in let lt = number_at.0 in omega (arith, e, lt)) in
      let there : slice_get parts (place_of n x).0 ≡ Some v = ap (λ (z : ℕ × ℕ). slice_get parts z.0) place ∙ at in
      subst (λ (z : ℕ × ℕ). IsFirstOf v.begins z.1 (get_or firsts x None)) place
      (a.at x (get_or firsts x None) v (slice_get_within parts (place_of n x).0 v there) there here)

  pub root_found : (firsts : List (Option ℕ)) → AreFirsts parts n firsts → (k : ℕ) → get_or firsts x None ≡ Some k → (v : PartView) → slice_get parts y.0 ≡ Some v
      → (root : Option TreeRootView) → root ≡ root_in v.begins k → IsRootOf v.begins y.1 root
  root_found firsts a k e v at root made =
      let (b, r) = subst (IsFirstOf v.begins y.1) e (first_is firsts a v at) in
      inl (k, b, r, made ∙ ap (option_and_then (λ (c : BeginView). c.root)) r.there)

  pub no_root_found : (firsts : List (Option ℕ)) → AreFirsts parts n firsts → get_or firsts x None ≡ None → (v : PartView) → slice_get parts y.0 ≡ Some v → IsRootOf v.begins y.1 None
  no_root_found firsts a e v at = inr (subst (IsFirstOf v.begins y.1) e (first_is firsts a v at), refl)

  pub link_is : (links : List (Option Linked)) → AreLinked parts n links → (k : ℕ) → option_map (root_by k) (get_or links x None) ≡ option_map (linked_root k) (link_at parts y)
  link_is links a k =
      subst (λ z. option_map (root_by k) (get_or links x None) ≡ option_map (linked_root k) (link_at parts z)) number_at.1
      (by (get_or links x None) (link_at parts (place_of n x))
      (a x number_at.0))
    where
      by : (o : Option Linked) (l : Option LinkView) → IsLinkedTo n l o → option_map (root_by k) o ≡ option_map (linked_root k) l
      by None l e = ap (option_map (linked_root k)) (sym e)
      by (Some o) l (v, e, named, less, same) = ap (λ t. Some (exported t (Some k))) named ∙ ap (option_map (linked_root k)) (sym e)

pub has_number : (parts : List PartView) (n : Numbers) → AreNumbers parts n → (y : ℕ × ℕ) → has_item parts y ≡ true → number_of n y ≡ None → ⊥
has_number parts n numbered y there none =
    let gone = none_there parts n.starts.items n.owners.items numbered y none in
    let eq : true ≡ false = sym there ∙ gone in cc

pub shown_step : (s : Shown) (ks : List ℕ) (i d : ℕ) (old new : List ShownItem) (item : ShownItem) → i < length ks → AreShownBy s (take i ks) (map shown_view old)
    → IsShownBy s (get_or ks i d) (shown_view item) → new ≡ old ++ item ∷ [] → AreShownBy s (take (i + 1) ks) (map shown_view new)
shown_step s ks i d old new item lt a w e =
    subst (λ l. AreShownBy s l (map shown_view new)) (sym (take_more ks i d lt))
    (subst (AreShownBy s (take i ks ++ get_or ks i d ∷ [])) (sym (ap (map shown_view) e ∙ map-append shown_view old (item ∷ [])))
    (shown_more s (take i ks) (get_or ks i d) (map shown_view old) (shown_view item) a w))

-- what the code says after an item that a link leads from
pub after_by_link : (parts : List PartView) (items : List (ℕ × ℕ)) (modules : ℕ) (groups : List (List ℕ)) (own : List ℕ) → ArePositionsTo items modules (length items) groups own
    → (j : ℕ) (x : ℕ × ℕ) → x ≡ get_or items j x → (pos : ℕ) → pos ≡ get_or own j pos → (p : ℕ) (item : PathItem) (only : Option Bool) → (x.0 ≡ p → ⊥) → (root : Option TreeRootView)
    → root ≡ option_map (linked_root pos) (link_at parts x)
    → IsAfterBy parts items j p item only (record { item = item; root = root; from = None; called = []; only = only })
after_by_link parts items modules groups own a j x is_x pos is_pos p item only other root is = λ z y part at of here made named.
    let same : x ≡ z = is_x ∙ get_or_from_slice_get items j z x at in
    let owned = a.own_at j z (slice_get_within items j z at) at in
    let same_pos : pos ≡ get_or own j 0 =
    is_pos ∙ (get_or_from_slice_get own j (position_in items z j) pos owned ∙ sym (get_or_from_slice_get own j (position_in items z j) 0 owned)) in (
      refl,
      refl,
      after_link parts items modules groups own a j z y at part (record { item = item; root = root; from = None; called = []; only = only })
          (λ e. other (ap (λ (v : ℕ × ℕ). v.0) same ∙ (e ∙ of))) named refl refl
          (is ∙ (ap (λ v. option_map (linked_root pos) (link_at parts v)) same ∙ ap (λ k. option_map (linked_root k) (link_at parts z)) same_pos)),
    )

-- the item at a position, with the one before it
pub item_shown : (s : Shown) → IsShown s → (k j : ℕ) (y : ℕ × ℕ) → y ≡ get_or s.tree.now.items.items k y → (e : Option ℕ) → e ≡ get_or s.tree.now.from.items k e
    → k < length s.tree.now.items.items → e ≡ Some j → (view : ShownView) (item : PathItem) (only : Option Bool)
    → ((v : PartView) → slice_get (map part_view s.graph.parts.now) y.0 ≡ Some v → item ≡ item_at v.counts y.1) → only ≡ mark_of s.graph.numbers.now s.marks.now y
    → IsAfterBy (map part_view s.graph.parts.now) s.tree.now.items.items j y.0 item only view → IsShownBy s k view
item_shown s sh k j y is_y e is_e lt some view item only is_item is_only after =
    let parts = map part_view s.graph.parts.now in
    let items = s.tree.now.items.items in
    let from = s.tree.now.from.items in
    let at : slice_get items k ≡ Some y = slice_get-get_or items k y lt ∙ ap (λ v. Some v) (sym is_y) in
    let at_from : slice_get from k ≡ Some (Some j) =
    slice_get-get_or from k e (let q = sh.tree_in.even in omega (arith, q, lt)) ∙ (ap (λ o. Some o) (sym is_e) ∙ ap (λ o. Some o) some) in
    let (z, at_z) = get_some items j (sh.tree_in.before_there k j at_from) in
    let named = sh.tree_in.named k j y z at_from at at_z in
    let (v, here, less) = there_of' parts y (subst (λ w. has_item parts w ≡ true) (sym is_y) (sh.tree_in.there k y lt)) in
    let known = λ (w : PartView) (q : slice_get parts y.0 ≡ Some w). after z y w at_z refl q (is_item w q) named in
    shown_some parts items from (λ y only. only ≡ mark_of s.graph.numbers.now s.marks.now y) k y at view (λ w q. (known w q).0 ∙ is_item w q) ((known v here).1 ∙ is_only)
    j at_from z at_z (λ w q. (known w q).2)
  where
    there_of' : (parts : List PartView) (y : ℕ × ℕ) → has_item parts y ≡ true → (v : PartView) × (slice_get parts y.0 ≡ Some v) × (y.1 < v.size)
    there_of' parts y h = by (slice_get parts y.0) refl h
      where
        by : (o : Option PartView) → slice_get parts y.0 ≡ o → option_map_or (λ (part : PartView). nat_lt y.1 part.size) o false ≡ true
            → (v : PartView) × (slice_get parts y.0 ≡ Some v) × (y.1 < v.size)
        by None e h = absurd (let eq : false ≡ true = h in cc)
        by (Some v) e h = (v, e, ltb-true y.1 v.size h)

pub first_shown : (s : Shown) → IsShown s → (k : ℕ) (y : ℕ × ℕ) → y ≡ get_or s.tree.now.items.items k y → (e : Option ℕ) → e ≡ get_or s.tree.now.from.items k e
    → k < length s.tree.now.items.items → e ≡ None → (item : PathItem) (root : Option TreeRootView) (only : Option Bool)
    → ((v : PartView) → slice_get (map part_view s.graph.parts.now) y.0 ≡ Some v → item ≡ item_at v.counts y.1)
    → ((v : PartView) → slice_get (map part_view s.graph.parts.now) y.0 ≡ Some v → IsRootOf v.begins y.1 root) → only ≡ mark_of s.graph.numbers.now s.marks.now y
    → IsShownBy s k (record { item = item; root = root; from = None; called = []; only = only })
first_shown s sh k y is_y e is_e lt none item root only is_item is_root is_only =
    let parts = map part_view s.graph.parts.now in
    let items = s.tree.now.items.items in
    let from = s.tree.now.from.items in
    let at : slice_get items k ≡ Some y = slice_get-get_or items k y lt ∙ ap (λ v. Some v) (sym is_y) in
    let at_from : slice_get from k ≡ Some None =
    slice_get-get_or from k e (let q = sh.tree_in.even in omega (arith, q, lt)) ∙ (ap (λ o. Some o) (sym is_e) ∙ ap (λ o. Some o) none) in
    shown_none parts items from (λ y only. only ≡ mark_of s.graph.numbers.now s.marks.now y) k y at
    (record { item = item; root = root; from = None; called = []; only = only }) is_item is_only at_from refl refl is_root

-- the positions of a module's items
pub group_is : (s : Shown) → IsShown s → (i : ℕ) (g : Vec ℕ Global) → i < length s.graph.parts.now → (ks : List ℕ) → ks ≡ (get_or s.positions.now.groups.items i g).items
    → ks ≡ positions_in s.tree.now.items.items i (length s.tree.now.items.items)
group_is s sh i g lt ks are =
    let groups = s.positions.now.groups.items in
    let within : i < length groups = let e = sh.placed.modules_are in let len = length-map groups items_of in omega (arith, e, len, lt) in
    are ∙ sh.placed.grouped i (get_or groups i g).items (group_was groups i g within)

-- a module of the tree
pub module_step : (s : Shown) → IsShown s → (i : ℕ) (d : Part) (g : Vec ℕ Global) → i < length s.graph.parts.now → (ks : List ℕ) → ks ≡ (get_or s.positions.now.groups.items i g).items
    → (views : List ShownView) → AreShownBy s ks views → (m : TreeModuleView)
    → IsModuleOf (get_or s.graph.parts.now i d).bytes.now (option_map text_of (get_or s.graph.parts.now i d).name) views m → (ms : List TreeModuleView)
    → AreModulesTo (map part_view s.graph.parts.now) s.tree.now.items.items s.tree.now.from.items (λ y only. only ≡ mark_of s.graph.numbers.now s.marks.now y) i ms
    → AreModulesTo (map part_view s.graph.parts.now) s.tree.now.items.items s.tree.now.from.items (λ y only. only ≡ mark_of s.graph.numbers.now s.marks.now y) (i + 1) (ms ++ m ∷ [])
module_step s sh i d g lt ks are views shown m (names, named, laid) ms before =
    let parts = map part_view s.graph.parts.now in
    let items = s.tree.now.items.items in
    let at = view_at part_view s.graph.parts.now i d lt in
    modules_more parts items s.tree.now.from.items (λ y only. only ≡ mark_of s.graph.numbers.now s.marks.now y) i (part_view (get_or s.graph.parts.now i d)) ms m before at
    (record {
      shown = views;
      are_shown = shown_are s i (part_view (get_or s.graph.parts.now i d)) at ks (group_is s sh i g lt ks are) views shown;
      names = names;
      are_names = named;
      laid = laid;
    })

pub module_put : (s : Shown) → IsShown s → (i : ℕ) (d : Part) (g : Vec ℕ Global) → i < length s.graph.parts.now → (ks : List ℕ) → ks ≡ (get_or s.positions.now.groups.items i g).items
    → (made items : List ShownItem) → items ≡ made → AreShownBy s ks (map shown_view made) → (m : TreeModule)
    → IsModuleOf (get_or s.graph.parts.now i d).bytes.now (option_map text_of (get_or s.graph.parts.now i d).name) (map shown_view items) (tree_module_view m)
    → (old new : List TreeModule) → new ≡ old ++ m ∷ []
    → AreModulesTo (map part_view s.graph.parts.now) s.tree.now.items.items s.tree.now.from.items (λ y only. only ≡ mark_of s.graph.numbers.now s.marks.now y) i (map tree_module_view old)
    → AreModulesTo (map part_view s.graph.parts.now) s.tree.now.items.items s.tree.now.from.items (λ y only. only ≡ mark_of s.graph.numbers.now s.marks.now y) (i + 1) (map tree_module_view new)
module_put s sh i d g lt ks are made items same shown m w old new e before =
    subst (AreModulesTo (map part_view s.graph.parts.now) s.tree.now.items.items s.tree.now.from.items (λ y only. only ≡ mark_of s.graph.numbers.now s.marks.now y) (i + 1))
    (sym (ap (map tree_module_view) e ∙ map-append tree_module_view old (m ∷ [])))
    (module_step s sh i d g lt ks are (map shown_view items) (subst (λ l. AreShownBy s ks (map shown_view l)) (sym same) shown) (tree_module_view m) w (map tree_module_view old) before)
