-- Imports of a list of kept items, and where each of them is from.
use Rattle.std.proofs.Common.{◌≡◌, ℕ, zero, suc, ◌+◌, ◌<◌, ◌≤◌, List, [], ◌∷◌, ◌++◌, refl, sym, ◌∙◌, ap, subst, Bool, true, false, ◌&&◌, cond, Option, Some, None, arith}
use Rattle.std.specs.Prelude.{All, AllPairs, Contains, is_some}
use Rattle.std.specs.List.{AllByRecursion, AllZip, cons_option, filter_map, slice_get}
use Rattle.std.specs.Option.{option_map}
use Rattle.std.proofs.lemmas.Bool.{false≢true}
use Rattle.std.proofs.lemmas.List.Elements.{All-append, All-cons, All-head, All-tail, All-nil, Contains-append_left, Contains-append_right}
use Rattle.std.proofs.lemmas.List.Kept.{AllPairs-cons}
use Rattle.wc_read.specs.Imports.{ImportValue}
use Rattle.wc_read.specs.Items.{ItemValue, imported}
use Rattle.wc_read.specs.Spaces.{imported_items}
use Rattle.wc_read.specs.declared.operators.Space.{Space}
use Rattle.wc_read.specs.declared.types.ImportType.{ImportType}
use Rattle.wc_write.specs.BuiltValues.{is_import, is_imported}
use Rattle.wc_read.specs.ImportItems.{is_in_space, positions_from}
use Rattle.wc_gc.proofs.BuiltPartLemmas.{all_at}
use Rattle.wc_gc.proofs.KeptItemLemmas.{kept_from}
use Rattle.wc_graph.proofs.ListLemmas.{get_front}

-- two lists, item by item

pub zip_joined : {A B : Type 0} (R : A → B → Type 0) (xs vs : List A) (ys ws : List B) → AllZip R xs ys → AllZip R vs ws → AllZip R (xs ++ vs) (ys ++ ws)
zip_joined R [] vs [] ws a b = b
zip_joined R [] vs (y ∷ ys) ws a b = absurd a
zip_joined R (x ∷ xs) vs [] ws a b = absurd a
zip_joined R (x ∷ xs) vs (y ∷ ys) ws a b = (a.0, zip_joined R xs vs ys ws a.1 b)

pub zip_weaker : {A B : Type 0} (R S : A → B → Type 0) → ((x : A) (y : B) → R x y → S x y) → (xs : List A) (ys : List B) → AllZip R xs ys → AllZip S xs ys
zip_weaker R S f [] [] a = tt
zip_weaker R S f [] (y ∷ ys) a = absurd a
zip_weaker R S f (x ∷ xs) [] a = absurd a
zip_weaker R S f (x ∷ xs) (y ∷ ys) a = (f x y a.0, zip_weaker R S f xs ys a.1)

pub zip_first : {A B : Type 0} (R : A → B → Type 0) (P : A → Type 0) → ((x : A) (y : B) → R x y → P x) → (xs : List A) (ys : List B) → AllZip R xs ys → All P xs
zip_first R P f [] [] a = All-nil P
zip_first R P f [] (y ∷ ys) a = absurd a
zip_first R P f (x ∷ xs) [] a = absurd a
zip_first R P f (x ∷ xs) (y ∷ ys) a = All-cons P x xs (f x y a.0) (zip_first R P f xs ys a.1)

-- pairs of two lists

no_pairs : {A : Type 0} (R : A → A → Type 0) → AllPairs R []
no_pairs R i j d l h = absurd (omega arith)

pub pairs_joined : {A : Type 0} (R : A → A → Type 0) (xs ys : List A) → AllPairs R xs → AllPairs R ys → All (λ x. All (R x) ys) xs → AllPairs R (xs ++ ys)
pairs_joined R [] ys a b c = b
pairs_joined R (x ∷ xs) ys a b c =
    AllPairs-cons R x (xs ++ ys)
    (All-append (R x) xs ys (λ k d l. a 0 (suc k) d (omega arith) (omega arith)) (All-head (λ x. All (R x) ys) x xs c))
    (pairs_joined R xs ys (λ i j d l h. a (suc i) (suc j) d (omega arith) (omega arith)) b (All-tail (λ x. All (R x) ys) x xs c))

-- the origins of the items that pass a test, the first item having an index

abbrev pub origins_from : {A : Type 0} → (ℕ → A → Bool) → (ℕ → Option ℕ) → ℕ → List A → List (Option ℕ)
origins_from test origin a [] = []
origins_from test origin a (x ∷ xs) = cond (test a x) (origin a ∷ origins_from test origin (a + 1) xs) (origins_from test origin (a + 1) xs)

-- what holds of each item and its index
abbrev Each : {A : Type 0} → (ℕ → A → Type 0) → ℕ → List A → Type 0
Each {A} Q a xs = (i : ℕ) (x : A) → slice_get xs i ≡ Some x → Q (a + i) x

each_tail : {A : Type 0} (Q : ℕ → A → Type 0) (a : ℕ) (x : A) (xs : List A) → Each Q a (x ∷ xs) → Each Q (a + 1) xs
each_tail Q a x xs each i y at = subst (λ k. Q k y) (let e : a + suc i ≡ a + 1 + i = omega arith in e) (each (suc i) y at)

each_head : {A : Type 0} (Q : ℕ → A → Type 0) (a : ℕ) (x : A) (xs : List A) → Each Q a (x ∷ xs) → Q a x
each_head Q a x xs each = subst (λ k. Q k x) (let e : a + 0 ≡ a = omega arith in e) (each 0 x refl)

module _ {A : Type 0} (read : A → Option ImportValue) (origin : ℕ → Option ℕ) (has : ℕ → Bool) where
  -- whether an item is kept and imported
  abbrev pub is_kept_one : ℕ → A → Bool
  is_kept_one a x = has a && is_some (read x)

  abbrev pub origins_of : ℕ → List A → List (Option ℕ)
  origins_of a xs = origins_from is_kept_one origin a xs

  -- each import of a kept item has its origin

  abbrev pub HasRelated : (Option ℕ → ImportValue → Type 0) → ℕ → A → Type 0
  HasRelated R a x = has a ≡ true → (i : ImportValue) → read x ≡ Some i → R (origin a) i

  zip_more : (R : Option ℕ → ImportValue → Type 0) (a : ℕ) (x : A) (os : List (Option ℕ)) (ks : List A) → HasRelated R a x → AllZip R os (filter_map read ks)
      → (b : Bool) → has a ≡ b → AllZip R (cond (b && is_some (read x)) (origin a ∷ os) os) (filter_map read (cond b (x ∷ ks) ks))
  zip_more R a x os ks one rest true h = by (read x) refl
    where
      by : (o : Option ImportValue) → read x ≡ o → AllZip R (cond (is_some o) (origin a ∷ os) os) (cons_option o (filter_map read ks))
      by None e = rest
      by (Some i) e = (one h i e, rest)
  zip_more R a x os ks one rest false h = rest

  pub kept_zip : (R : Option ℕ → ImportValue → Type 0) (xs : List A) (a : ℕ) → Each (HasRelated R) a xs → AllZip R (origins_of a xs) (filter_map read (kept_from has a xs))
  kept_zip R [] a each = tt
  kept_zip R (x ∷ xs) a each =
      zip_more R a x (origins_of (a + 1) xs) (kept_from has (a + 1) xs) (each_head (HasRelated R) a x xs each) (kept_zip R xs (a + 1) (each_tail (HasRelated R) a x xs each)) (has a) refl

  -- origins of different items are related

  one_later : (P : Option ℕ → Type 0) (a : ℕ) (os : List (Option ℕ)) → P (origin a) → All P os → (b : Bool) → All P (cond b (origin a ∷ os) os)
  one_later P a os h all true = All-cons P (origin a) os h all
  one_later P a os h all false = all

  all_later : (P : Option ℕ → Type 0) (xs : List A) (a : ℕ) → ((k : ℕ) → a ≤ k → P (origin k)) → All P (origins_of a xs)
  all_later P [] a h = All-nil P
  all_later P (x ∷ xs) a h = one_later P a (origins_of (a + 1) xs) (h a (omega arith)) (all_later P xs (a + 1) (λ k l. h k (omega arith))) (is_kept_one a x)

  one_pair : (R : Option ℕ → Option ℕ → Type 0) (a : ℕ) (os : List (Option ℕ)) → All (R (origin a)) os → AllPairs R os → (b : Bool) → AllPairs R (cond b (origin a ∷ os) os)
  one_pair R a os h pairs true = AllPairs-cons R (origin a) os h pairs
  one_pair R a os h pairs false = pairs

  pub kept_pairs : (R : Option ℕ → Option ℕ → Type 0) → ((i k : ℕ) → i < k → R (origin i) (origin k)) → (xs : List A) (a : ℕ) → AllPairs R (origins_of a xs)
  kept_pairs R h [] a = no_pairs R
  kept_pairs R h (x ∷ xs) a = one_pair R a (origins_of (a + 1) xs) (all_later (R (origin a)) xs (a + 1) (λ k l. h a k (omega arith))) (kept_pairs R h xs (a + 1)) (is_kept_one a x)

  -- the origin of a kept import is there

  more_there : (o p : Option ℕ) (os : List (Option ℕ)) → Contains os p → (b : Bool) → Contains (cond b (o ∷ os) os) p
  more_there o p os c true = Contains-append_right (o ∷ []) os p c
  more_there o p os c false = c

  pub kept_there : (xs : List A) (a n : ℕ) (x : A) (i : ImportValue) → slice_get xs n ≡ Some x → has (a + n) ≡ true → read x ≡ Some i → Contains (origins_of a xs) (origin (a + n))
  kept_there [] a n x i at h e = absurd cc
  kept_there (y ∷ xs) a zero x i at h e =
      let here : a + 0 ≡ a = omega arith in
      let same : y ≡ x = cc at in
      let os = origins_of (a + 1) xs in
      let yes : is_kept_one a y ≡ true = ap (λ b. b && is_some (read y)) (ap has (sym here) ∙ h) ∙ (ap (λ z. is_some (read z)) same ∙ ap is_some e) in
      subst (λ k. Contains (cond (is_kept_one a y) (origin a ∷ os) os) (origin k)) (sym here)
      (subst (λ b. Contains (cond b (origin a ∷ os) os) (origin a)) (sym yes) (Contains-append_left (origin a ∷ []) os (origin a) (0, omega arith, refl)))
  kept_there (y ∷ xs) a (suc n) x i at h e =
      let next : a + 1 + n ≡ a + suc n = omega arith in
      more_there (origin a) (origin (a + suc n)) (origins_of (a + 1) xs)
      (subst (λ k. Contains (origins_of (a + 1) xs) (origin k)) next (kept_there xs (a + 1) n x i at (ap has next ∙ h) e)) (is_kept_one a y)

-- the positions of the imports of a space rise

module _ (space : Space) where
  abbrev positions : ℕ → List ImportValue → List ℕ
  positions a is = positions_from space a is

  lower_more : (a : ℕ) (ps : List ℕ) (p : ℕ) → ((k : ℕ) → slice_get ps k ≡ Some p → a + 1 ≤ p) → (b : Bool) (n : ℕ) → slice_get (cond b (a ∷ ps) ps) n ≡ Some p → a ≤ p
  lower_more a ps p h true zero e = let same : a ≡ p = cc e in omega arith
  lower_more a ps p h true (suc n) e = let l = h n e in omega (arith, l)
  lower_more a ps p h false n e = let l = h n e in omega (arith, l)

  no_lower : (is : List ImportValue) (a n p : ℕ) → slice_get (positions a is) n ≡ Some p → a ≤ p
  no_lower [] a n p e = absurd cc
  no_lower (i ∷ is) a n p e = lower_more a (positions (a + 1) is) p (λ k f. no_lower is (a + 1) k p f) (is_in_space space i.ty) n e

  rising_more : (a : ℕ) (ps : List ℕ) (p q : ℕ) → ((n k : ℕ) → n < k → slice_get ps n ≡ Some p → slice_get ps k ≡ Some q → p < q) → ((k : ℕ) → slice_get ps k ≡ Some q → a + 1 ≤ q)
      → (b : Bool) (n k : ℕ) → n < k → slice_get (cond b (a ∷ ps) ps) n ≡ Some p → slice_get (cond b (a ∷ ps) ps) k ≡ Some q → p < q
  rising_more a ps p q rest low true zero zero l e f = absurd (omega arith)
  rising_more a ps p q rest low true zero (suc k) l e f = let same : a ≡ p = cc e in let above = low k f in omega (arith, above)
  rising_more a ps p q rest low true (suc n) zero l e f = absurd (omega arith)
  rising_more a ps p q rest low true (suc n) (suc k) l e f = rest n k (omega arith) e f
  rising_more a ps p q rest low false n k l e f = rest n k l e f

  pub rising : (is : List ImportValue) (a n k p q : ℕ) → n < k → slice_get (positions a is) n ≡ Some p → slice_get (positions a is) k ≡ Some q → p < q
  rising [] a n k p q l e f = absurd cc
  rising (i ∷ is) a n k p q l e f =
      rising_more a (positions (a + 1) is) p q (λ m j. rising is (a + 1) m j p q) (λ j. no_lower is (a + 1) j q) (is_in_space space i.ty) n k l e f

-- an index space: imported items, and then others

pub record HasSpace {T C : Type 0} (of : ImportType → Option T) (is : List ImportValue) (xs : List (ItemValue T C)) : Type 0 where
  pub others : List (ItemValue T C)
  pub cut : xs ≡ imported_items of is ++ others
  pub defined : AllByRecursion (λ x. is_imported x ≡ false) others

among_imports : {T C : Type 0} (xs ys : List (ItemValue T C)) (n : ℕ) (x : ItemValue T C) → slice_get (xs ++ ys) n ≡ Some x → is_imported x ≡ true → AllByRecursion (λ y. is_imported y ≡ false) ys → slice_get xs n ≡ Some x
among_imports {T} {C} [] ys n x e h all = absurd (false≢true (sym (all_at (λ (y : ItemValue T C). is_imported y ≡ false) ys n x all e) ∙ h))
among_imports (y ∷ xs) ys zero x e h all = e
among_imports (y ∷ xs) ys (suc n) x e h all = among_imports xs ys n x e h all

module _ {T : Type 0} (C : Type 0) (of : ImportType → Option T) (space : Space) (same : (t : ImportType) → is_in_space space t ≡ is_some (of t)) where
  -- the import that an item is
  pub record IsImportAt (is : List ImportValue) (a n : ℕ) (x : ItemValue T C) : Type 0 where
    pub index : ℕ
    pub position : slice_get (positions_from space a is) n ≡ Some (a + index)
    pub value : ImportValue
    pub at : slice_get is index ≡ Some value
    pub ty : of value.ty ≡ Some x.ty
    pub def : x.def ≡ imported value.module_name value.name

  abbrev items : List ImportValue → List (ItemValue T C)
  items is = imported_items of is

  abbrev item : ImportValue → T → ItemValue T C
  item i t = record { ty = t; def = imported i.module_name i.name }

  later : (i : ImportValue) (is : List ImportValue) (a n k : ℕ) (x : ItemValue T C) → slice_get (positions_from space a (i ∷ is)) k ≡ slice_get (positions_from space (a + 1) is) n → IsImportAt is (a + 1) n x → IsImportAt (i ∷ is) a k x
  later i is a n k x e r = record {
    index = suc r.index;
    position = e ∙ (r.position ∙ ap Some (let f : a + 1 + r.index ≡ a + suc r.index = omega arith in f));
    value = r.value;
    at = r.at;
    ty = r.ty;
    def = r.def;
  }

  import_more : (i : ImportValue) (is : List ImportValue) (a : ℕ) (x : ItemValue T C) → ((k : ℕ) → slice_get (items is) k ≡ Some x → IsImportAt is (a + 1) k x)
      → (o : Option T) → of i.ty ≡ o → (n : ℕ) → slice_get (cons_option (option_map (item i) o) (items is)) n ≡ Some x → IsImportAt (i ∷ is) a n x
  import_more i is a x rest None e n h =
      let ps = positions_from space (a + 1) is in
      later i is a n n x (ap (λ b. slice_get (cond b (a ∷ ps) ps) n) (same i.ty ∙ ap is_some e)) (rest n h)
  import_more i is a x rest (Some t) e zero h =
      let ps = positions_from space (a + 1) is in
      let made : item i t ≡ x = cc h in
      record {
        index = 0;
        position = ap (λ b. slice_get (cond b (a ∷ ps) ps) 0) (same i.ty ∙ ap is_some e) ∙ ap Some (let f : a ≡ a + 0 = omega arith in f);
        value = i;
        at = refl;
        ty = e ∙ ap (λ (z : ItemValue T C). Some z.ty) made;
        def = sym (ap (λ (z : ItemValue T C). z.def) made);
      }
  import_more i is a x rest (Some t) e (suc n) h =
      let ps = positions_from space (a + 1) is in
      later i is a n (suc n) x (ap (λ b. slice_get (cond b (a ∷ ps) ps) (suc n)) (same i.ty ∙ ap is_some e)) (rest n h)

  import_at : (is : List ImportValue) (a n : ℕ) (x : ItemValue T C) → slice_get (items is) n ≡ Some x → IsImportAt is a n x
  import_at [] a n x h = absurd cc
  import_at (i ∷ is) a n x h = import_more i is a x (λ k f. import_at is (a + 1) k x f) (of i.ty) refl n h

  item_more : (i : ImportValue) (is : List ImportValue) (a p : ℕ) (ps : List ℕ) → ((k : ℕ) → slice_get ps k ≡ Some p → (x : ItemValue T C) × (slice_get (items is) k ≡ Some x))
      → (o : Option T) (n : ℕ) → slice_get (cond (is_some o) (a ∷ ps) ps) n ≡ Some p → (x : ItemValue T C) × (slice_get (cons_option (option_map (item i) o) (items is)) n ≡ Some x)
  item_more i is a p ps rest None n e = rest n e
  item_more i is a p ps rest (Some t) zero e = (item i t, refl)
  item_more i is a p ps rest (Some t) (suc n) e = rest n e

  item_at : (is : List ImportValue) (a n p : ℕ) → slice_get (positions_from space a is) n ≡ Some p → (x : ItemValue T C) × (slice_get (items is) n ≡ Some x)
  item_at [] a n p e = absurd cc
  item_at (i ∷ is) a n p e =
      let ps = positions_from space (a + 1) is in
      item_more i is a p ps (λ k f. item_at is (a + 1) k p f) (of i.ty) n (subst (λ b. slice_get (cond b (a ∷ ps) ps) n ≡ Some p) (same i.ty) e)

  -- the import that an imported item of a space is
  pub record IsFrom (is : List ImportValue) (n : ℕ) (x : ItemValue T C) : Type 0 where
    pub position : ℕ
    pub is_position : slice_get (positions_from space 0 is) n ≡ Some position
    pub value : ImportValue
    pub at : slice_get is position ≡ Some value
    pub ty : of value.ty ≡ Some x.ty
    pub def : x.def ≡ imported value.module_name value.name

  from_start : (is : List ImportValue) (n : ℕ) (x : ItemValue T C) → IsImportAt is 0 n x → IsFrom is n x
  from_start is n x r = record {
    position = r.index;
    is_position = r.position ∙ ap Some (let e : 0 + r.index ≡ r.index = omega arith in e);
    value = r.value;
    at = r.at;
    ty = r.ty;
    def = r.def;
  }

  module _ (is : List ImportValue) (xs : List (ItemValue T C)) (h : HasSpace of is xs) where
    pub from_at : (n : ℕ) (x : ItemValue T C) → slice_get xs n ≡ Some x → is_imported x ≡ true → IsFrom is n x
    from_at n x e i = from_start is n x (import_at is 0 n x (among_imports (items is) h.others n x (ap (λ ys. slice_get ys n) (sym h.cut) ∙ e) i h.defined))

    -- and the item that an import is
    pub imported_item_at : (n p : ℕ) → slice_get (positions_from space 0 is) n ≡ Some p → (x : ItemValue T C) × (slice_get xs n ≡ Some x) × (is_imported x ≡ true)
    imported_item_at n p e =
        let x = item_at is 0 n p e in
        let r = import_at is 0 n x.0 x.1 in
        (x.0, ap (λ ys. slice_get ys n) h.cut ∙ get_front (items is) h.others n x.0 x.1, ap is_import r.def)
