-- The items that required exports name, in the order of their names, and the first name of each.
use Rattle.std.proofs.Common.{◌≡◌, ◌≢◌, ℕ, zero, suc, ◌+◌, ◌<◌, List, [], ◌∷◌, ◌++◌, length, map, refl, sym, ◌∙◌, ap, subst, Bool, true, false, cond, ◌⊎◌, inl, inr, arith, ◌||◌}
use Rattle.std.proofs.Common.{Option, Some, None, append-nil, length-append}
use Rattle.std.specs.Prelude.{AllPairs, Contains, MatchOption}
use Rattle.std.specs.Borrow.{Bor}
use Rattle.std.specs.List.{AllByRecursion, find, flat_map, list_any, slice_get}
use Rattle.std.specs.Map.{lookup}
use Rattle.std.specs.Option.{option_map, option_to_list}
use Rattle.std.specs.Str.{bytes_eq}
use Rattle.std.proofs.lemmas.Bool.{both_ways, cases_lt, true≢false}
use Rattle.std.proofs.lemmas.Grind.{flat_map-append}
use Rattle.std.proofs.lemmas.List.Elements.{Contains-append_left, Contains-append_right, Contains-append_cases, recursion_from_All}
use Rattle.std.proofs.lemmas.Option.{get_or_from_slice_get, same_Some, slice_get_within}
use Rattle.std.proofs.lemmas.Slice.Eq.{bytes_eq-Decides}
use Rattle.wc_read.specs.Exports.{ExportValue, export_value}
use Rattle.wc_read.specs.declared.exports.Export.{Export}
use Rattle.wc_read.specs.Modules.{IsModule, ModuleValue}
use Rattle.wc_gc.specs.Bits.{bit_of}
use Rattle.wc_gc.specs.Chains.{IsRequiredExport}
use Rattle.wc_read.specs.Decoded.{ItemIndex, exported_item}
use Rattle.wc_gc.specs.Exports.{AreNamed, export_entries, kept_exports}
use Rattle.wc_gc.specs.LiveChains.{IsFirstName, item_named, items_named}
use Rattle.wc_gc.specs.Private.TrimPlace.{HasFound}
use Rattle.wc_gc.specs.Private.Roots.{AreNamedRoots, FindsRoot}
use Rattle.wc_gc.specs.Private.Search.{finds}
use Rattle.wc_gc.specs.declared.finders.Roots.{Roots}
use Rattle.wc_gc.specs.declared.live.BitVec.{BitVec}
use Rattle.wc_graph.proofs.ListLemmas.{contains_unmapped}
use Rattle.wc_gc.proofs.ChainLemmas.{exports_required, same_names}
use Rattle.wc_gc.proofs.KeptExportLemmas.{pairs_named}
use Rattle.wc_graph.proofs.ListLemmas.{contains_mapped}
use Rattle.wc_graph.proofs.GrowthLemmas.{grown_more}
use Rattle.wc_graph.proofs.ListLemmas.{get_last as last_of}

-- lists

head_of : {A : Type 0} (x : A) (xs : List A) → Contains (x ∷ xs) x
head_of x xs = (0, omega arith, refl)

later : {A : Type 0} (x y : A) (xs : List A) → Contains xs y → Contains (x ∷ xs) y
later x y xs c = (suc c.0, (let h = c.1 in omega (arith, h)), c.2)

split : {A : Type 0} (x y : A) (xs : List A) → Contains (x ∷ xs) y → (x ≡ y) ⊎ Contains xs y
split x y xs (zero, h, e) = inl e
split x y xs (suc k, h, e) = inr (k, omega (arith, h), e)

pub in_option : {A : Type 0} (o : Option A) (x : A) → Contains (option_to_list o) x → o ≡ Some x
in_option None x c = absurd (let h = c.1 in omega (arith, h))
in_option (Some y) x c = elim (split y x [] c) [ inl e ↦ ap Some e | inr r ↦ absurd (let h = r.1 in omega (arith, h)) ]

in_flat : {A B : Type 0} (f : A → Option B) (xs : List A) (y : B) → Contains (flat_map (λ x. option_to_list (f x)) xs) y → (x : A) × Contains xs x × (f x ≡ Some y)
in_flat f [] y c = absurd (let h = c.1 in omega (arith, h))
in_flat f (x ∷ xs) y c = elim (Contains-append_cases (option_to_list (f x)) (flat_map (λ z. option_to_list (f z)) xs) y c) [
  | inl l ↦ (x, head_of x xs, in_option (f x) y l)
  | inr r ↦ let t = in_flat f xs y r in (t.0, later x t.0 xs t.1, t.2)
]

flat_has : {A B : Type 0} (f : A → Option B) (xs : List A) (x : A) (y : B) → Contains xs x → f x ≡ Some y → Contains (flat_map (λ z. option_to_list (f z)) xs) y
flat_has f [] x y c e = absurd (let h = c.1 in omega (arith, h))
flat_has f (z ∷ xs) x y c e = elim (split z x xs c) [
  | inl same ↦ Contains-append_left (option_to_list (f z)) (flat_map (λ v. option_to_list (f v)) xs) y
      (subst (λ o. Contains (option_to_list o) y) (sym (ap f same ∙ e)) (head_of y []))
  | inr r ↦ Contains-append_right (option_to_list (f z)) (flat_map (λ v. option_to_list (f v)) xs) y (flat_has f xs x y r e)
]

any_in : (name : List ℕ) (names : List (List ℕ)) → list_any (bytes_eq name) names ≡ true → Contains names name
any_in name [] e = absurd cc
any_in name (x ∷ names) e = by (bytes_eq name x) refl (any_in name names) e
  where
    by : (b : Bool) → bytes_eq name x ≡ b → (list_any (bytes_eq name) names ≡ true → Contains names name) → (b || list_any (bytes_eq name) names) ≡ true
        → Contains (x ∷ names) name
    by true q rest h = (0, omega arith, sym (same_names name x q))
    by false q rest h = later x name names (rest h)

in_any : (name : List ℕ) (names : List (List ℕ)) → Contains names name → list_any (bytes_eq name) names ≡ true
in_any name [] c = absurd (let h = c.1 in omega (arith, h))
in_any name (x ∷ names) c = by (bytes_eq name x) refl (in_any name names)
  where
    by : (b : Bool) → bytes_eq name x ≡ b → (Contains names name → list_any (bytes_eq name) names ≡ true) → list_any (bytes_eq name) (x ∷ names) ≡ true
    by true q rest = ap (λ (b : Bool). b || list_any (bytes_eq name) names) q
    by false q rest = ap (λ (b : Bool). b || list_any (bytes_eq name) names) q ∙ rest (elim (split x name names c) [
      | inl same ↦ absurd (true≢false (sym ((bytes_eq-Decides name x).1 (sym same)) ∙ q))
      | inr r ↦ r
    ])

-- the export of a name

found_export : (es : List ExportValue) (name : List ℕ) (e : ExportValue) → find (λ x. bytes_eq name x.name) es ≡ Some e → Contains es e × (name ≡ e.name)
found_export [] name e h = absurd cc
found_export (x ∷ es) name e h = by (bytes_eq name x.name) refl (found_export es name e) h
  where
    by : (b : Bool) → bytes_eq name x.name ≡ b → (find (λ z. bytes_eq name z.name) es ≡ Some e → Contains es e × (name ≡ e.name))
        → cond b (Some x) (find (λ z. bytes_eq name z.name) es) ≡ Some e → Contains (x ∷ es) e × (name ≡ e.name)
    by true q rest k = let s = same_Some x e k in ((0, omega arith, s), same_names name x.name q ∙ ap (λ (z : ExportValue). z.name) s)
    by false q rest k = let r = rest k in (later x e es r.0, r.1)

abbrev Differ : ExportValue → ExportValue → Type 0
Differ x y = x.name ≢ y.name

export_found : (es : List ExportValue) → AllPairs Differ es → (e : ExportValue) → Contains es e → find (λ x. bytes_eq e.name x.name) es ≡ Some e
export_found [] pairs e c = absurd (let h = c.1 in omega (arith, h))
export_found (x ∷ es) pairs e c = by (bytes_eq e.name x.name) refl (export_found es (λ i j d h l. pairs (suc i) (suc j) d (omega (arith, h)) (omega (arith, l))) e)
  where
    differs : Contains es e → e.name ≡ x.name → ⊥
    differs r q = let h = r.1 in pairs 0 (suc r.0) e (omega arith) (omega (arith, h)) (sym (ap (λ (z : ExportValue). z.name) r.2 ∙ q))

    by : (b : Bool) → bytes_eq e.name x.name ≡ b → (Contains es e → find (λ z. bytes_eq e.name z.name) es ≡ Some e)
        → find (λ z. bytes_eq e.name z.name) (x ∷ es) ≡ Some e
    by true q rest = ap (λ (b : Bool). cond b (Some x) (find (λ z. bytes_eq e.name z.name) es)) q ∙ elim (split x e es c) [
      | inl same ↦ ap Some same
      | inr r ↦ absurd (differs r (same_names e.name x.name q))
    ]
    by false q rest = ap (λ (b : Bool). cond b (Some x) (find (λ z. bytes_eq e.name z.name) es)) q ∙ rest (elim (split x e es c) [
      | inl same ↦ absurd (true≢false (sym ((bytes_eq-Decides e.name x.name).1 (sym (ap (λ (z : ExportValue). z.name) same))) ∙ q))
      | inr r ↦ r
    ])

named_item : (es : List ExportValue) (name : List ℕ) (x : ItemIndex) → item_named es name ≡ Some x → (e : ExportValue) × Contains es e × (name ≡ e.name) × (exported_item e ≡ x)
named_item es name x h = by (find (λ z. bytes_eq name z.name) es) refl h
  where
    by : (o : Option ExportValue) → find (λ z. bytes_eq name z.name) es ≡ o → option_map exported_item o ≡ Some x
        → (e : ExportValue) × Contains es e × (name ≡ e.name) × (exported_item e ≡ x)
    by None q k = absurd cc
    by (Some e) q k = let r = found_export es name e q in (e, r.0, r.1, same_Some (exported_item e) x k)

-- the items of required exports are those of the exports that are kept

module _ (required : List (List ℕ)) (m : ModuleValue) (v : IsModule m) (x : ItemIndex) where
  pub named_kept : Contains (items_named m.exports required) x → Contains (map exported_item (kept_exports required m.exports)) x
  named_kept c =
      let n = in_flat (item_named m.exports) required x c in
      let e = named_item m.exports n.0 x n.2 in
      let r : IsRequiredExport required m e.0 = record { there = e.1; named = in_any e.0.name required (subst (Contains required) e.2 n.1) } in
      subst (Contains (map exported_item (kept_exports required m.exports))) e.3
      (contains_mapped exported_item (kept_exports required m.exports) e.0 ((exports_required required m e.0 v).1 r))

  pub kept_named : Contains (map exported_item (kept_exports required m.exports)) x → Contains (items_named m.exports required) x
  kept_named c =
      let e = contains_unmapped exported_item (kept_exports required m.exports) x c in
      let r = (exports_required required m e.0 v).0 e.1 in
      flat_has (item_named m.exports) required e.0.name x (any_in e.0.name required r.named)
      (ap (option_map exported_item) (export_found m.exports (pairs_named (λ (z : ExportValue). z.name) m.exports v.distinct) e.0 r.there) ∙ ap Some e.2)

-- names, one after another

abbrev pub has_bits : BitVec → ℕ → Bool
has_bits b = bit_of b.words.items

-- so many names were gone through
pub record AreBegun (exports : List ExportValue) (done : List (List ℕ)) (r : Roots) : Type 0 where
  pub found : HasFound (items_named exports done) r.search
  pub named : AreNamedRoots done exports r

pub old_of : {A : Type 0} (xs ys : List A) (k : ℕ) → k < length xs → slice_get (xs ++ ys) k ≡ slice_get xs k
old_of [] ys k l = absurd (omega (arith, l))
old_of (z ∷ xs) ys zero l = refl
old_of (z ∷ xs) ys (suc k) l = old_of xs ys k (omega (arith, l))

weaker : (exports : List ExportValue) (done : List (List ℕ)) (name : List ℕ) (x : ItemIndex) (n : List ℕ) → IsFirstName done exports x n → IsFirstName (done ++ name ∷ []) exports x n
weaker exports done name x n f =
    let within = slice_get_within done f.index n f.is in
    record {
      index = f.index;
      is = old_of done (name ∷ []) f.index within ∙ f.is;
      names = f.names;
      first = λ j other l e. f.first j other l (sym (old_of done (name ∷ []) j (omega (arith, l, within))) ∙ e);
    }

pub begun : (exports : List ExportValue) (r : Roots) → r.search.order.items ≡ [] → r.exports.items ≡ []
    → HasFound [] r.search → AreBegun exports [] r
begun exports r e n f = record {
  found = f;
  named = record {
    sized = ap length n ∙ sym (ap length e);
    each = λ k x name a b. absurd (let h = slice_get_within r.search.order.items k x a in let z = ap length e in omega (arith, h, z));
  };
}

-- a name that no export has
pub name_passed : (exports : List ExportValue) (done : List (List ℕ)) (name : List ℕ) (r : Roots) → item_named exports name ≡ None → AreBegun exports done r
    → AreBegun exports (done ++ name ∷ []) r
name_passed exports done name r none b = record {
  found = subst (λ z. HasFound z r.search) (sym (same)) b.found;
  named = record {
    sized = b.named.sized;
    each = λ k x n e f. weaker exports done name x n.now (b.named.each k x n e f);
  };
}
  where
    same : items_named exports (done ++ name ∷ []) ≡ items_named exports done
    same = flat_map-append (λ z. option_to_list (item_named exports z)) done (name ∷ [])
        ∙ (ap (λ o. items_named exports done ++ (option_to_list o ++ [])) none ∙ append-nil (items_named exports done))

-- a name of an item
module _ (exports : List ExportValue) (done : List (List ℕ)) (name : Bor (List ℕ)) (old new : Roots) (x : ItemIndex) (is : item_named exports name.now ≡ Some x) where
  items_more : items_named exports (done ++ name.now ∷ []) ≡ items_named exports done ++ x ∷ []
  items_more = flat_map-append (λ z. option_to_list (item_named exports z)) done (name.now ∷ []) ∙ ap (λ o. items_named exports done ++ (option_to_list o ++ [])) is

  names_same : new.search.order.items ≡ old.search.order.items → new.exports.items ≡ old.exports.items → AreNamedRoots done exports old → AreNamedRoots (done ++ name.now ∷ []) exports new
  names_same e f n = record {
    sized = ap length f ∙ (n.sized ∙ sym (ap length e));
    each = λ k y z a b. weaker exports done name.now y z.now (n.each k y z (ap (λ v. slice_get v k) (sym e) ∙ a) (ap (λ v. slice_get v k) (sym f) ∙ b));
  }

  -- the item was not found, so none of the names before is its name
  is_first : HasFound (items_named exports done) old.search → finds has_bits old.search x ≡ false → IsFirstName (done ++ name.now ∷ []) exports x name.now
  is_first g none = record {
    index = length done;
    is = last_of done name.now;
    names = is;
    first = λ j other l e q.
        let there : Contains done other = named_there done j other (sym (old_of done (name.now ∷ []) j l) ∙ e) in
        both_ways (finds has_bits old.search x) none (g.tied.is_in_set x (g.all x (flat_has (item_named exports) done other x there q)));
  }
    where
      named_there : (xs : List (List ℕ)) (j : ℕ) (y : List ℕ) → slice_get xs j ≡ Some y → Contains xs y
      named_there xs j y e = (j, slice_get_within xs j y e, get_or_from_slice_get xs j y y e)

  names_more : HasFound (items_named exports done) old.search → finds has_bits old.search x ≡ false → new.search.order.items ≡ old.search.order.items ++ x ∷ []
      → new.exports.items ≡ old.exports.items ++ name ∷ [] → AreNamedRoots done exports old → AreNamedRoots (done ++ name.now ∷ []) exports new
  names_more g none e f n = record {
    sized = ap length f ∙ (length-append old.exports.items (name ∷ []) ∙ (ap (λ z. z + 1) n.sized ∙ (sym (length-append old.search.order.items (x ∷ [])) ∙ sym (ap length e))));
    each = λ k y z a b. elim (cases_lt k (length old.search.order.items)) [
      | inl less ↦
          weaker exports done name.now y z.now (n.each k y z (sym (old_of old.search.order.items (x ∷ []) k less) ∙ (ap (λ v. slice_get v k) (sym e) ∙ a))
          (sym (old_of old.exports.items (name ∷ []) k (let s = n.sized in omega (arith, s, less))) ∙ (ap (λ v. slice_get v k) (sym f) ∙ b)))
      | inr more ↦
          let within = slice_get_within new.search.order.items k y a in
          let long = ap length e ∙ length-append old.search.order.items (x ∷ []) in
          let last : k ≡ length old.search.order.items = omega (arith, within, long, more) in
          let same : x ≡ y = same_Some x y (sym (last_of old.search.order.items x) ∙ (ap (λ v. slice_get v (length old.search.order.items)) (sym e) ∙ (ap (slice_get new.search.order.items) (sym last) ∙ a))) in
          let named : name ≡ z = same_Some name z (sym (last_of old.exports.items name) ∙ (ap (λ v. slice_get v (length old.exports.items)) (sym f)
          ∙ (ap (slice_get new.exports.items) (n.sized ∙ sym last) ∙ b))) in
          subst (λ v. IsFirstName (done ++ name.now ∷ []) exports v z.now) same (subst (λ v. IsFirstName (done ++ name.now ∷ []) exports x v.now) named (is_first g none))
    ];
  }

  pub name_found : FindsRoot old new x name → AreBegun exports done old → AreBegun exports (done ++ name.now ∷ []) new
  name_found h b = record {
    found = subst (λ z. HasFound z new.search) (sym items_more)
        (grown_more [] (finds has_bits old.search) old.search.order.items (finds has_bits new.search) new.search.order.items (items_named exports done) (x ∷ []) b.found (h.found b.found.tied));
    named = elim h.added [ inl a ↦ names_same a.1 a.2 b.named | inr a ↦ names_more b.found a.0 a.1 a.2 b.named ];
  }

-- whether a name is that of an item or of none
pub name_done : (exports : List ExportValue) (done : List (List ℕ)) (name : Bor (List ℕ)) (old new : Roots)
    → MatchOption (item_named exports name.now) (new ≡ old) (λ x. FindsRoot old new x name) → AreBegun exports done old → AreBegun exports (done ++ name.now ∷ []) new
name_done exports done name old new h b = by (item_named exports name.now) refl h
  where
    by : (o : Option ItemIndex) → item_named exports name.now ≡ o → MatchOption o (new ≡ old) (λ x. FindsRoot old new x name) → AreBegun exports (done ++ name.now ∷ []) new
    by None e k = subst (AreBegun exports (done ++ name.now ∷ [])) (sym k) (name_passed exports done name.now old e b)
    by (Some x) e k = name_found exports done name old new x e k b

-- the item of a name, by a look-up

abbrev Pair : Type 0
Pair = Bor (List ℕ) × Export

found_view : (test : Bor (List ℕ) → Bool) (name : List ℕ) (es : List Pair) → ((k : Bor (List ℕ)) → test k ≡ bytes_eq name k.now)
    → AllByRecursion (λ (e : Pair). e.0.now ≡ e.1.name.now) es → option_map export_value (lookup test es) ≡ find (λ (e : ExportValue). bytes_eq name e.name) (export_entries es)
found_view test name [] h n = refl
found_view test name (e ∷ es) h n =
    step (test e.0) (lookup test es)
    ∙ (ap (λ (b : Bool). cond b (Some (export_value e.1)) (option_map export_value (lookup test es))) (h e.0 ∙ ap (bytes_eq name) n.0)
    ∙ ap (λ o. cond (bytes_eq name e.1.name.now) (Some (export_value e.1)) o) (found_view test name es h n.1))
  where
    step : (b : Bool) (o : Option Export) → option_map export_value (cond b (Some e.1) o) ≡ cond b (Some (export_value e.1)) (option_map export_value o)
    step true o = refl
    step false o = refl

pub item_looked_up : (test : Bor (List ℕ) → Bool) (name : List ℕ) (es : List Pair) → ((k : Bor (List ℕ)) → test k ≡ bytes_eq name k.now) → AreNamed es
    → (o : Option Export) → o ≡ lookup test es → option_map (λ (e : Export). exported_item (export_value e)) o ≡ item_named (export_entries es) name
item_looked_up test name es h named o e =
    ap (option_map (λ (x : Export). exported_item (export_value x))) e
    ∙ (twice (lookup test es) ∙ ap (option_map exported_item) (found_view test name es h (recursion_from_All (λ (e : Pair). e.0.now ≡ e.1.name.now) es named)))
  where
    twice : (o : Option Export) → option_map (λ (x : Export). exported_item (export_value x)) o ≡ option_map exported_item (option_map export_value o)
    twice None = refl
    twice (Some x) = refl
