-- The first of things that are passed, by their keys.
use Rattle.std.proofs.Common.{◌≡◌, ℕ, ◌+◌, ◌<◌, Bool, true, false, cond, ◌&&◌, List, [], ◌∷◌, ◌++◌, Option, Some, None, map, length, take, get_or, option_map, is_some, refl, sym, ap, ◌∙◌, subst}
use Rattle.std.specs.Borrow.{Bor}
use Rattle.std.specs.List.{find, range_with_len, slice_get}
use Rattle.std.specs.Map.{lookup}
use Rattle.std.specs.Option.{option_and_then, option_map_or, option_or}
use Rattle.std.specs.Str.{bytes_eq}
use Rattle.std.proofs.lemmas.Bool.{and_parts}
use Rattle.std.proofs.lemmas.List.Folds.{find-append}
use Rattle.std.proofs.lemmas.Slice.Eq.{bytes_eq-Decides}
use Rattle.wc_read.specs.Exports.{ExportValue, export_value}
use Rattle.wc_read.specs.Imports.{ImportValue}
use Rattle.wc_read.specs.declared.exports.Export.{Export}
use Rattle.wc_paths.specs.Roots.{import_item}
use Rattle.wc_paths.specs.declared.items.PathItem.{PathItem}
use Rattle.wc_import_paths.proofs.PickedLemmas.{taken_more}
use Rattle.wc_ways.specs.Parts.{first_named, is_named, is_named_at, item_at_import}
use Rattle.wc_ways.specs.Private.Modules.{AreByName, AreFirstPlaces, ArePlaces, ByName, Key, Places, is_key, is_name}
use Rattle.wc_ways.proofs.LoopLemmas.{next_range}

-- what the first that passes a test gives, when one more thing is passed

module _ {X Y : Type 0} (t : X → Bool) (g : X → Option Y) (xs : List X) (x : X) where
  more : find t (xs ++ x ∷ []) ≡ option_or (find t xs) (cond (t x) (Some x) None)
  more = find-append t xs (x ∷ [])

  -- the key was there: nothing changes
  kept_by : (b : Bool) (f : Option X) (l : Option Y) → l ≡ option_and_then g f → (b ≡ true → l ≡ None → ⊥) → l ≡ option_and_then g (option_or f (cond b (Some x) None))
  kept_by b (Some y) l h there = h
  kept_by false None l h there = h
  kept_by true None l h there = let bad : ⊥ = there refl h in absurd bad

  pub first_kept : (l : Option Y) → l ≡ option_and_then g (find t xs) → (t x ≡ true → l ≡ None → ⊥) → l ≡ option_and_then g (find t (xs ++ x ∷ []))
  first_kept l h there = kept_by (t x) (find t xs) l h there ∙ ap (option_and_then g) (sym more)

  -- it was not: this is what it gives
  put_by : (b : Bool) (f : Option X) (l m : Option Y) → l ≡ option_and_then g f → ((y : X) → f ≡ Some y → g y ≡ None → ⊥) → (b ≡ true → l ≡ None)
      → m ≡ cond b (g x) l → m ≡ option_and_then g (option_or f (cond b (Some x) None))
  put_by false (Some y) l m h total none put = put ∙ h
  put_by false None l m h total none put = put ∙ h
  put_by true None l m h total none put = put
  put_by true (Some y) l m h total none put = let bad : ⊥ = total y refl (sym h ∙ none refl) in absurd bad

  pub first_put : (l m : Option Y) → l ≡ option_and_then g (find t xs) → ((y : X) → find t xs ≡ Some y → g y ≡ None → ⊥) → (t x ≡ true → l ≡ None)
      → m ≡ cond (t x) (g x) l → m ≡ option_and_then g (find t (xs ++ x ∷ []))
  first_put l m h total none put = put_by (t x) (find t xs) l m h total none put ∙ ap (option_and_then g) (sym more)

-- what is found passes the test
pub found_passes : {X : Type 0} (t : X → Bool) (xs : List X) (y : X) → find t xs ≡ Some y → t y ≡ true
found_passes t [] y e = absurd (let bad : None ≡ Some y = e in cc)
found_passes t (x ∷ xs) y e = by (found_passes t xs y) (t x) refl e
  where
    by : (find t xs ≡ Some y → t y ≡ true) → (b : Bool) → t x ≡ b → cond b (Some x) (find t xs) ≡ Some y → t y ≡ true
    by rest true on e = let same : x ≡ y = (let f : Some x ≡ Some y = e in cc) in subst (λ z. t z ≡ true) same on
    by rest false off e = rest e

-- ---- exports by their names

abbrev given : ExportValue → Option ExportValue
given e = Some e

given_is : (o : Option ExportValue) → option_and_then given o ≡ o
given_is None = refl
given_is (Some e) = refl

never : (e : ExportValue) → given e ≡ None → ⊥
never e bad = absurd (let f : Some e ≡ None = bad in cc)

same_lookup : {V : Type 0} (entries : List (Bor (List ℕ) × V)) (q k : Bor (List ℕ)) → bytes_eq q.now k.now ≡ true → lookup (is_name q) entries ≡ lookup (is_name k) entries
same_lookup entries q k same = ap (λ (z : List ℕ). lookup (λ (j : Bor (List ℕ)). bytes_eq z j.now) entries) ((bytes_eq-Decides q.now k.now).0 same)

no_value : {X Y : Type 0} (f : X → Y) (o : Option X) → is_some o ≡ true → option_map f o ≡ None → ⊥
no_value f (Some x) has none = absurd (let bad : Some (f x) ≡ None = none in cc)
no_value f None has none = absurd (let bad : false ≡ true = has in cc)

none_of : {X Y : Type 0} (f : X → Y) (o : Option X) → is_some o ≡ false → option_map f o ≡ None
none_of f (Some x) has = absurd (let bad : true ≡ false = has in cc)
none_of f None has = refl

put_value : {X Y : Type 0} (f : X → Y) (b : Bool) (x : X) (o : Option X) → option_map f (cond b (Some x) o) ≡ cond b (Some (f x)) (option_map f o)
put_value f true x o = refl
put_value f false x o = refl

swapped : (a b : List ℕ) → bytes_eq a b ≡ bytes_eq b a
swapped a b = by (bytes_eq a b) (bytes_eq b a) refl refl
  where
    by : (x y : Bool) → bytes_eq a b ≡ x → bytes_eq b a ≡ y → x ≡ y
    by true true e f = refl
    by false false e f = refl
    by true false e f =
        let here : bytes_eq b a ≡ true = (bytes_eq-Decides b a).1 (sym ((bytes_eq-Decides a b).0 e)) in
        let bad : true ≡ false = sym here ∙ f in
        absurd (let no : ⊥ = cc bad in no)
    by false true e f =
        let here : bytes_eq a b ≡ true = (bytes_eq-Decides a b).1 (sym ((bytes_eq-Decides b a).0 f)) in
        let bad : true ≡ false = sym here ∙ e in
        absurd (let no : ⊥ = cc bad in no)

module _ (front : List ExportValue) (x : Export) where
  pub named_kept : (entries : ByName) → AreByName front entries → is_some (lookup (is_name x.name) entries) ≡ true → AreByName (front ++ export_value x ∷ []) entries
  named_kept entries h there q =
      let test : ExportValue → Bool = λ (e : ExportValue). bytes_eq q.now e.name in
      first_kept test given front (export_value x) (option_map export_value (lookup (is_name q) entries)) (h q ∙ sym (given_is (find test front)))
      (λ same none. no_value export_value (lookup (is_name x.name) entries) there (ap (option_map export_value) (sym (same_lookup entries q x.name same)) ∙ none))
      ∙ given_is (find test (front ++ export_value x ∷ []))

  pub named_put : (old new : ByName) → AreByName front old → is_some (lookup (is_name x.name) old) ≡ false
      → ((q : Bor (List ℕ)) → lookup (is_name q) new ≡ cond (bytes_eq x.name.now q.now) (Some x) (lookup (is_name q) old)) → AreByName (front ++ export_value x ∷ []) new
  named_put old new h none put q =
      let test : ExportValue → Bool = λ (e : ExportValue). bytes_eq q.now e.name in
      let was = option_map export_value (lookup (is_name q) old) in
      first_put test given front (export_value x) was (option_map export_value (lookup (is_name q) new)) (h q ∙ sym (given_is (find test front))) (λ e f. never e)
      (λ same. ap (option_map export_value) (same_lookup old q x.name same) ∙ none_of export_value (lookup (is_name x.name) old) none)
      (ap (option_map export_value) (put q) ∙ (put_value export_value (bytes_eq x.name.now q.now) x (lookup (is_name q) old)
      ∙ ap (λ b. cond b (Some (export_value x)) was) (swapped x.name.now q.now)))
      ∙ given_is (find test (front ++ export_value x ∷ []))

-- one more was passed
pub named_next : (xs : List Export) (k : ℕ) (d : Export) (entries : ByName) → k < length xs
    → AreByName (map export_value (take k xs) ++ export_value (get_or xs k d) ∷ []) entries → AreByName (map export_value (take (k + 1) xs)) entries
named_next xs k d entries lt h = subst (λ (z : List ExportValue). AreByName z entries) (sym (taken_more export_value xs k d lt)) h

-- ---- items by the modules and names of imports

same_key : (entries : Places) (q k : Key) → is_key q k ≡ true → lookup (is_key q) entries ≡ lookup (is_key k) entries
same_key entries q k same =
    let parts = and_parts (bytes_eq q.0.now k.0.now) (bytes_eq q.1.now k.1.now) same in
    ap (λ (z : List ℕ). lookup (λ (j : Key). bytes_eq z j.0.now && bytes_eq q.1.now j.1.now) entries) ((bytes_eq-Decides q.0.now k.0.now).0 parts.0)
    ∙ ap (λ (z : List ℕ). lookup (λ (j : Key). bytes_eq k.0.now j.0.now && bytes_eq z j.1.now) entries) ((bytes_eq-Decides q.1.now k.1.now).0 parts.1)

some_none : {X : Type 0} (o : Option X) → is_some o ≡ true → o ≡ None → ⊥
some_none (Some x) has none = absurd (let bad : Some x ≡ None = none in cc)
some_none None has none = absurd (let bad : false ≡ true = has in cc)

not_some : {X : Type 0} (o : Option X) → is_some o ≡ false → o ≡ None
not_some (Some x) has = absurd (let bad : true ≡ false = has in cc)
not_some None has = refl

pub places_start : (imports : List ImportValue) (entries : Places) → entries ≡ [] → AreFirstPlaces imports 0 entries
places_start imports entries none q = ap (lookup (is_key q)) none

pub places_all : (imports : List ImportValue) (n : ℕ) (entries : Places) → n ≡ length imports → AreFirstPlaces imports n entries → ArePlaces imports entries
places_all imports n entries all h q = h q ∙ ap (first_named imports q.0.now q.1.now) all

module _ (imports : List ImportValue) (n : ℕ) (i : ImportValue) (at : slice_get imports n ≡ Some i) (key : Key) (from : key.0.now ≡ i.module_name) (name : key.1.now ≡ i.name) where
  is_this : (q : Key) → is_named_at imports q.0.now q.1.now n ≡ is_key q key
  is_this q =
      ap (λ o. option_map_or (is_named q.0.now q.1.now) o false) at
      ∙ (λ j. bytes_eq q.0.now (sym from j) && bytes_eq q.1.now (sym name j))

  pub place_kept : (entries : Places) → AreFirstPlaces imports n entries → is_some (lookup (is_key key) entries) ≡ true → AreFirstPlaces imports (n + 1) entries
  place_kept entries h there q =
      let test = is_named_at imports q.0.now q.1.now in
      first_kept test (item_at_import imports) (range_with_len 0 n) n (lookup (is_key q) entries) (h q)
      (λ same none. some_none (lookup (is_key key) entries) there (sym (same_key entries q key (sym (is_this q) ∙ same)) ∙ none))
      ∙ ap (λ z. option_and_then (item_at_import imports) (find test z)) (sym (next_range n))

  pub place_put : (old new : Places) (item : PathItem) → AreFirstPlaces imports n old → is_some (lookup (is_key key) old) ≡ false → item_at_import imports n ≡ Some item
      → ((q : Key) → lookup (is_key q) new ≡ cond (is_key key q) (Some item) (lookup (is_key q) old)) → AreFirstPlaces imports (n + 1) new
  place_put old new item h none is put q =
      let test = is_named_at imports q.0.now q.1.now in
      let turn : is_key key q ≡ is_key q key = (λ j. swapped key.0.now q.0.now j && swapped key.1.now q.1.now j) in
      first_put test (item_at_import imports) (range_with_len 0 n) n (lookup (is_key q) old) (lookup (is_key q) new) (h q)
      (λ y found lost. let on = found_passes test (range_with_len 0 n) y found in no_item y on lost)
      (λ same. same_key old q key (sym (is_this q) ∙ same) ∙ not_some (lookup (is_key key) old) none)
      (put q ∙ (λ j. cond ((turn ∙ sym (is_this q)) j) (sym is j) (lookup (is_key q) old)))
      ∙ ap (λ z. option_and_then (item_at_import imports) (find test z)) (sym (next_range n))
    where
      no_item : (y : ℕ) → is_named_at imports q.0.now q.1.now y ≡ true → item_at_import imports y ≡ None → ⊥
      no_item y on lost = by (slice_get imports y) refl
        where
          by : (o : Option ImportValue) → slice_get imports y ≡ o → ⊥
          by None e = let bad : true ≡ false = sym on ∙ ap (λ z. option_map_or (is_named q.0.now q.1.now) z false) e in absurd (let no : ⊥ = cc bad in no)
          by (Some i) e =
              some_none (item_at_import imports y) (ap is_some (ap (λ z. item_of y z) e)) lost
            where
              item_of : ℕ → Option ImportValue → Option PathItem
              item_of y o = option_map (import_item imports y) o
