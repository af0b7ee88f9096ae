-- Positions of the first imports of functions of adapters, and the functions at them.
use Rattle.std.proofs.Common.{◌≡◌, ℕ, suc, ◌+◌, Bool, true, false, not, cond, List, [], ◌∷◌, ◌++◌, map, length, Option, Some, None, String, string_bytes, string_eq, slice_get, refl, sym, ap, subst, ◌∙◌, append-nil, append_assoc, length-append, arith}
use Rattle.std.specs.List.{AllByRecursion, IsDistinct, cons_option, filter, filter_map}
use Rattle.std.specs.Map.{keys_of, lookup}
use Rattle.std.specs.Option.{option_and_then, option_map, option_map_or}
use Rattle.std.specs.Str.{bytes_eq}
use Rattle.std.specs.declared.alloc.Global.{Global}
use Rattle.std.proofs.lemmas.List.{length-map, map-append}
use Rattle.indexmap.specs.IndexMap.{insert_entry}
use Rattle.wc_read.specs.Types.{FuncTypeValue}
use Rattle.wc_names.specs.declared.imports.Import.{Import}
use Rattle.wc_names.specs.Views.{ImportView, import_view}
use Rattle.wc_validate.specs.declared.imports.first_functions.FirstFunctions.{FirstFunctions}
use Rattle.wc_validate.specs.declared.imports.instances.ImportInstance.{ImportInstance}
use Rattle.wc_validate.specs.Imports.AdapterTypes.{first_some}
use Rattle.wc_validate.specs.Imports.Entries.{InstanceRecord, names_of}
use Rattle.wc_validate.specs.Imports.FirstFunctions.{HasFirstFunctions, first_functions, function_at, positioned_function, positioned_functions, positions_under}
use Rattle.wc_texts.specs.Names.{named_view}
use Rattle.wc_validate.specs.Imports.Map.{first_of_names, function_of}
use Rattle.wc_validate.specs.Imports.Instances.{import_entry, instance_entry, instance_view}
use Rattle.wc_validate.specs.Private.Imports.AdapterFunctions.{HasFirsts}
use Rattle.wc_validate.proofs.FirstPositionLemmas.{image_at}
use Rattle.wc_validate.proofs.IndexLemmas.{first_some_none, lookup_push}
use Rattle.wc_names.proofs.ExportIndexLemmas.{is_called}
use Rattle.wc_validate.proofs.PutLemmas.{record_found, record_none}
use Rattle.wc_validate.proofs.InstanceLemmas.{other, same}
use Rattle.wc_validate.proofs.AdapterFunctionLemmas.{others}

module _ {E : Type 0} (p q : E → Bool) where
  swap_at : (x : E) (xs : List E) (a b : Bool) → p x ≡ a → q x ≡ b → filter p (filter q xs) ≡ filter q (filter p xs)
      → filter p (cond b (x ∷ filter q xs) (filter q xs)) ≡ filter q (cond a (x ∷ filter p xs) (filter p xs))
  swap_at x xs true true pa qb rest =
      ap (λ z. cond z (x ∷ filter p (filter q xs)) (filter p (filter q xs))) pa
      ∙ (ap (λ z. x ∷ z) rest ∙ sym (ap (λ z. cond z (x ∷ filter q (filter p xs)) (filter q (filter p xs))) qb))
  swap_at x xs true false pa qb rest = rest ∙ sym (ap (λ z. cond z (x ∷ filter q (filter p xs)) (filter q (filter p xs))) qb)
  swap_at x xs false true pa qb rest = ap (λ z. cond z (x ∷ filter p (filter q xs)) (filter p (filter q xs))) pa ∙ rest
  swap_at x xs false false pa qb rest = rest

  filters_swap : (xs : List E) → filter p (filter q xs) ≡ filter q (filter p xs)
  filters_swap [] = refl
  filters_swap (x ∷ xs) = swap_at x xs (p x) (q x) refl refl (filters_swap xs)

module _ {E : Type 0} (p : E → Bool) where
  twice_at : (x : E) (xs : List E) (a : Bool) → p x ≡ a → filter p (filter p xs) ≡ filter p xs
      → filter p (cond a (x ∷ filter p xs) (filter p xs)) ≡ cond a (x ∷ filter p xs) (filter p xs)
  twice_at x xs true is rest = ap (λ z. cond z (x ∷ filter p (filter p xs)) (filter p (filter p xs))) is ∙ ap (λ z. x ∷ z) rest
  twice_at x xs false is rest = rest

  filter_twice : (xs : List E) → filter p (filter p xs) ≡ filter p xs
  filter_twice [] = refl
  filter_twice (x ∷ xs) = twice_at x xs (p x) refl (filter_twice xs)

-- the first of each name, of those that are the first already
module _ {X : Type 0} where
  abbrev is_other : List ℕ → List ℕ × X → Bool
  is_other m y = not (bytes_eq m y.0)

  others_at : (m : List ℕ) (y : List ℕ × X) (ys : List (List ℕ × X)) (b : Bool) → bytes_eq m y.0 ≡ b
      → first_of_names (others m ys) ≡ others m (first_of_names ys)
      → first_of_names (cond (not b) (y ∷ others m ys) (others m ys)) ≡ cond (not b) (y ∷ others m (others y.0 (first_of_names ys)))
      (others m (others y.0 (first_of_names ys)))
  others_at m y ys true is rest =
      rest ∙ (sym (filter_twice (is_other m) (first_of_names ys)) ∙ ap (λ k. others m (others k (first_of_names ys))) (same m y.0 is))
  others_at m y ys false is rest = ap (λ z. y ∷ z) (ap (others y.0) rest ∙ filters_swap (is_other y.0) (is_other m) (first_of_names ys))

  firsts_of_others : (m : List ℕ) (ys : List (List ℕ × X)) → first_of_names (others m ys) ≡ others m (first_of_names ys)
  firsts_of_others m [] = refl
  firsts_of_others m (y ∷ ys) = others_at m y ys (bytes_eq m y.0) refl (firsts_of_others m ys)

  firsts_twice : (xs : List (List ℕ × X)) → first_of_names (first_of_names xs) ≡ first_of_names xs
  firsts_twice [] = refl
  firsts_twice (x ∷ xs) =
      ap (λ z. x ∷ z) (ap (others x.0) (firsts_of_others x.0 (first_of_names xs))
      ∙ (filter_twice (is_other x.0) (first_of_names (first_of_names xs)) ∙ ap (others x.0) (firsts_twice xs)))

-- images under the same names
module _ {X Y : Type 0} (g : X → Y) where
  abbrev on_value : List ℕ × X → List ℕ × Y
  on_value x = (x.0, g x.1)

  others_image_at : (y : List ℕ × X) (ys : List (List ℕ × X)) (rest : List (List ℕ × Y)) (b : Bool) → map on_value ys ≡ rest
      → map on_value (cond b (y ∷ ys) ys) ≡ cond b (on_value y ∷ rest) rest
  others_image_at y ys rest true h = ap (λ z. on_value y ∷ z) h
  others_image_at y ys rest false h = h

  others_image : (m : List ℕ) (ys : List (List ℕ × X)) → map on_value (others m ys) ≡ others m (map on_value ys)
  others_image m [] = refl
  others_image m (y ∷ ys) = others_image_at y (others m ys) (others m (map on_value ys)) (not (bytes_eq m y.0)) (others_image m ys)

  firsts_image : (xs : List (List ℕ × X)) → map on_value (first_of_names xs) ≡ first_of_names (map on_value xs)
  firsts_image [] = refl
  firsts_image (x ∷ xs) = ap (λ z. on_value x ∷ z) (others_image x.0 (first_of_names xs) ∙ ap (others x.0) (firsts_image xs))

abbrev Names : Type 0
Names = List (List ℕ × ImportView)

-- functions with the positions and the types of their imports
abbrev Described : Type 0
Described = List (List ℕ × (ℕ × FuncTypeValue))

abbrev described : ℕ → Names → Described
described n [] = []
described n (x ∷ xs) = cons_option (option_map (λ (f : List ℕ × FuncTypeValue). (f.0, (n, f.1))) (function_of x)) (described (suc n) xs)

abbrev position_of : ℕ × FuncTypeValue → ℕ
position_of v = v.0

abbrev type_of : ℕ × FuncTypeValue → FuncTypeValue
type_of v = v.1

positioned_at : (n : ℕ) (o : Option (List ℕ × FuncTypeValue)) (ds : Described) (ps : List (List ℕ × ℕ)) → map (on_value position_of) ds ≡ ps
    → map (on_value position_of) (cons_option (option_map (λ (f : List ℕ × FuncTypeValue). (f.0, (n, f.1))) o) ds) ≡ cons_option
    (option_map (λ (f : List ℕ × FuncTypeValue). (f.0, n)) o) ps
positioned_at n None ds ps h = h
positioned_at n (Some f) ds ps h = ap (λ z. (f.0, n) ∷ z) h

positioned_is : (n : ℕ) (xs : Names) → map (on_value position_of) (described n xs) ≡ positioned_functions n xs
positioned_is n [] = refl
positioned_is n (x ∷ xs) = positioned_at n (function_of x) (described (suc n) xs) (positioned_functions (suc n) xs) (positioned_is (suc n) xs)

typed_at : (n : ℕ) (o : Option (List ℕ × FuncTypeValue)) (ds : Described) (fs : List (List ℕ × FuncTypeValue)) → map (on_value type_of) ds ≡ fs
    → map (on_value type_of) (cons_option (option_map (λ (f : List ℕ × FuncTypeValue). (f.0, (n, f.1))) o) ds) ≡ cons_option o fs
typed_at n None ds fs h = h
typed_at n (Some f) ds fs h = ap (λ z. f ∷ z) h

typed_is : (n : ℕ) (xs : Names) → map (on_value type_of) (described n xs) ≡ filter_map function_of xs
typed_is n [] = refl
typed_is n (x ∷ xs) = typed_at n (function_of x) (described (suc n) xs) (filter_map function_of xs) (typed_is (suc n) xs)

-- each function is imported at its position, with its type
abbrev AreAt : Names → Described → Type 0
AreAt names [] = Unit {0}
AreAt names (d ∷ ds) = (function_at names d.1.0 ≡ Some (d.0, d.1.1)) × AreAt names ds

at_length : (front : Names) (x : List ℕ × ImportView) (xs : Names) → slice_get (front ++ x ∷ xs) (length front) ≡ Some x
at_length [] x xs = refl
at_length (y ∷ front) x xs = at_length front x xs

described_step : (front : Names) (x : List ℕ × ImportView) (xs : Names) (o : Option (List ℕ × FuncTypeValue)) → function_of x ≡ o
    → AreAt ((front ++ x ∷ []) ++ xs) (described (length (front ++ x ∷ [])) xs)
    → AreAt (front ++ x ∷ xs) (cons_option (option_map (λ (f : List ℕ × FuncTypeValue). (f.0, (length front, f.1))) o) (described (suc (length front)) xs))
described_step front x xs o is rest =
    at o is (subst (λ z. AreAt z (described (suc (length front)) xs)) (append_assoc front (x ∷ []) xs)
    (subst (λ n. AreAt ((front ++ x ∷ []) ++ xs) (described n xs)) long rest)) where
      long : length (front ++ x ∷ []) ≡ suc (length front)
      long = length-append front (x ∷ []) ∙ (let e : length front + 1 ≡ suc (length front) = omega arith in e)

      at : (o : Option (List ℕ × FuncTypeValue)) → function_of x ≡ o → AreAt (front ++ x ∷ xs) (described (suc (length front)) xs)
          → AreAt (front ++ x ∷ xs)
          (cons_option (option_map (λ (f : List ℕ × FuncTypeValue). (f.0, (length front, f.1))) o) (described (suc (length front)) xs))
      at None is rest = rest
      at (Some f) is rest = (ap (option_and_then function_of) (at_length front x xs) ∙ is, rest)

described_at : (front xs : Names) → AreAt (front ++ xs) (described (length front) xs)
described_at front [] = tt
described_at front (x ∷ xs) = described_step front x xs (function_of x) refl (described_at (front ++ x ∷ []) xs)

at_others : (names : Names) (d : List ℕ × (ℕ × FuncTypeValue)) (ds : Described) (b : Bool) → function_at names d.1.0 ≡ Some (d.0, d.1.1) → AreAt names ds
    → AreAt names (cond b (d ∷ ds) ds)
at_others names d ds true is rest = (is, rest)
at_others names d ds false is rest = rest

others_are_at : (names : Names) (m : List ℕ) (ds : Described) → AreAt names ds → AreAt names (others m ds)
others_are_at names m [] h = tt
others_are_at names m (d ∷ ds) h = at_others names d (others m ds) (not (bytes_eq m d.0)) h.0 (others_are_at names m ds h.1)

firsts_are_at : (names : Names) (ds : Described) → AreAt names ds → AreAt names (first_of_names ds)
firsts_are_at names [] h = tt
firsts_are_at names (d ∷ ds) h = (h.0, others_are_at names d.0 (first_of_names ds) (firsts_are_at names ds h.1))

abbrev pub function_by : Names → List ℕ × ℕ → Option (List ℕ × FuncTypeValue)
function_by names p = function_at names p.1

functions_there : (names : Names) (ds : Described) → AreAt names ds → filter_map (function_by names) (map (on_value position_of) ds) ≡ map (on_value type_of) ds
functions_there names [] h = refl
functions_there names (d ∷ ds) h =
    ap (λ o. cons_option o (filter_map (function_by names) (map (on_value position_of) ds))) h.0 ∙ ap (λ z. (d.0, d.1.1) ∷ z) (functions_there names ds h.1)

-- the functions at the positions of the first imports are the first of all
pub required_there : (names : Names) → first_of_names (filter_map (function_by names) (first_of_names (positioned_functions 0 names))) ≡ first_of_names
    (filter_map function_of names)
required_there names =
    ap (λ z. first_of_names (filter_map (function_by names) (first_of_names z))) (sym (positioned_is 0 names))
    ∙ (ap (λ z. first_of_names (filter_map (function_by names) z)) (sym (firsts_image position_of (described 0 names)))
    ∙ (ap first_of_names (functions_there names (first_of_names (described 0 names)) (firsts_are_at names (described 0 names) (described_at [] names)))
    ∙ (sym (firsts_image type_of (first_of_names (described 0 names)))
    ∙ (ap (map (on_value type_of)) (firsts_twice (described 0 names)) ∙ (firsts_image type_of (described 0 names) ∙ ap first_of_names (typed_is 0 names))))))

by_entries : (names : Names) (es : List (String Global × ℕ))
    → filter_map (λ (e : String Global × ℕ). function_at names e.1) es ≡ filter_map (function_by names) (map named_view es)
by_entries names [] = refl
by_entries names (e ∷ es) = ap (λ z. cons_option (function_at names e.1) z) (by_entries names es)

-- what the positions of a module are
module _ (first : FirstFunctions) (es : List (String Global × ImportInstance)) (adapter : List ℕ) (instance : ImportInstance) (names : Names)
    (h : HasFirstFunctions first (map instance_entry es))
    (found : Some instance ≡ lookup (is_called adapter) es) (view : instance_view instance ≡ names_of names) where
  under : positions_under first adapter ≡ first_of_names (positioned_functions 0 names)
  under = h adapter ∙ (ap (λ o. option_map_or first_functions o []) (record_found es adapter instance (sym found)) ∙ ap first_functions view)

  pub required_kept : (positions : List (String Global × ℕ)) → positions_under first adapter ≡ map named_view positions
      → first_of_names (filter_map (λ (e : String Global × ℕ). function_at names e.1) positions) ≡ first_of_names (filter_map function_of names)
  required_kept positions kept =
      ap first_of_names (by_entries names positions) ∙ (ap (λ z. first_of_names (filter_map (function_by names) z)) (sym kept ∙ under) ∙ required_there names)

  pub none_required : positions_under first adapter ≡ [] → [] ≡ first_of_names (filter_map function_of names)
  none_required kept = ap (λ z. first_of_names (filter_map (function_by names) z)) (sym kept ∙ under) ∙ required_there names

-- the import at a position
pub function_there : (es : List (String Global × Import)) (n : ℕ) (e : String Global × Import) → Some e ≡ slice_get es n
    → function_at (map import_entry es) n ≡ function_of ([], import_view e.1)
function_there es n e is = ap (option_and_then function_of) (sym (image_at import_entry es (Some n)) ∙ sym (ap (option_map import_entry) is))

pub no_function_there : (es : List (String Global × Import)) (n : ℕ) → None ≡ slice_get es n → function_at (map import_entry es) n ≡ None
no_function_there es n is = ap (option_and_then function_of) (sym (image_at import_entry es (Some n)) ∙ sym (ap (option_map import_entry) is))

-- imports of a module that are gone through
positioned_pushed : (n : ℕ) (xs : Names) (x : List ℕ × ImportView)
    → positioned_functions n (xs ++ x ∷ []) ≡ positioned_functions n xs ++ cons_option (positioned_function (n + length xs) x) []
positioned_pushed n [] x = let e : n ≡ n + 0 = omega arith in ap (λ k. cons_option (positioned_function k x) []) e
positioned_pushed n (y ∷ xs) x = at (positioned_function n y) (positioned_pushed (suc n) xs x) where
  at : (o : Option (List ℕ × ℕ)) → positioned_functions (suc n) (xs ++ x ∷ []) ≡ positioned_functions (suc n) xs ++ cons_option (positioned_function (suc n + length xs) x)
      []
      → cons_option o (positioned_functions (suc n) (xs ++ x ∷ [])) ≡ cons_option o (positioned_functions (suc n) xs) ++ cons_option
      (positioned_function (n + suc (length xs)) x) []
  at None h =
      h ∙ (let e : suc n + length xs ≡ n + suc (length xs) = omega arith in ap (λ k. positioned_functions (suc n) xs ++ cons_option (positioned_function k x) []) e)
  at (Some p) h =
      ap (λ z. p ∷ z) (h ∙ (let e : suc n + length xs ≡ n + suc (length xs) = omega arith in
      ap (λ k. positioned_functions (suc n) xs ++ cons_option (positioned_function k x) []) e))

abbrev pub HasPositions : List (String Global × Import) → List (String Global × ℕ) → Type 0
HasPositions passed positions = HasFirsts (map named_view positions) (positioned_functions 0 (map import_entry passed))

pub positions_none : (positions : List (String Global × ℕ)) → positions ≡ [] → HasPositions [] positions
positions_none positions none = (ap (map named_view) none, λ name. ap (λ z. lookup (bytes_eq name) (map named_view z)) none)

pub positions_more : (passed : List (String Global × Import)) (e : String Global × Import) (old new : List (String Global × ℕ)) (position : ℕ)
    → ((before : List (List ℕ × ℕ)) → HasFirsts (map named_view old) before → HasFirsts (map named_view new)
    (before ++ cons_option (positioned_function position (import_entry e)) []))
    → HasPositions passed old → position ≡ length passed → HasPositions (passed ++ e ∷ []) new
positions_more passed e old new position more h at =
    let at_position : position ≡ 0 + length (map import_entry passed) = at
    ∙ (sym (length-map passed import_entry) ∙ (let z : length (map import_entry passed) ≡ 0 + length (map import_entry passed) = omega arith in z)) in
    subst (λ z. HasFirsts (map named_view new) z)
    (ap (λ n. positioned_functions 0 (map import_entry passed) ++ cons_option (positioned_function n (import_entry e)) []) at_position
    ∙ (sym (positioned_pushed 0 (map import_entry passed) (import_entry e)) ∙ ap (positioned_functions 0) (sym (map-append import_entry passed (e ∷ [])))))
    (more (positioned_functions 0 (map import_entry passed)) h)

-- a module's positions
module _ {X : Type 0} where
  put_at : (e : String Global × X) (es : List (String Global × X)) (k : String Global) (m : List ℕ) (w : X) (b c d : Bool)
      → bytes_eq (string_bytes k) (string_bytes e.0) ≡ b → bytes_eq m (string_bytes e.0) ≡ c → bytes_eq m (string_bytes k) ≡ d
      → lookup (is_called m) (insert_entry string_eq es k w) ≡ cond d (Some w) (lookup (is_called m) es)
      → lookup (is_called m) (cond b ((e.0, w) ∷ es) (e ∷ insert_entry string_eq es k w)) ≡ cond d (Some w) (cond c (Some e.1) (lookup (is_called m) es))
  put_at e es k m w true true true one two three rest = ap (λ z. cond z (Some w) (lookup (is_called m) es)) two
  put_at e es k m w true false false one two three rest = ap (λ z. cond z (Some w) (lookup (is_called m) es)) two
  put_at e es k m w true true false one two three rest =
      absurd (let here : bytes_eq m (string_bytes k) ≡ true = subst (λ z. bytes_eq m z ≡ true) (sym (same (string_bytes k) (string_bytes e.0) one)) two in
      let both : true ≡ false = sym here ∙ three in let bad : ⊥ = cc both in bad)
  put_at e es k m w true false true one two three rest =
      absurd (let here : bytes_eq m (string_bytes e.0) ≡ true = subst (λ z. bytes_eq m z ≡ true) (same (string_bytes k) (string_bytes e.0) one) three in
      let both : true ≡ false = sym here ∙ two in let bad : ⊥ = cc both in bad)
  put_at e es k m w false true true one two three rest =
      absurd (let here : bytes_eq (string_bytes k) (string_bytes e.0) ≡ true = subst (λ z. bytes_eq z (string_bytes e.0) ≡ true) (same m (string_bytes k) three)
      two in let both : true ≡ false = sym here ∙ one in let bad : ⊥ = cc both in bad)
  put_at e es k m w false true false one two three rest = ap (λ z. cond z (Some e.1) (lookup (is_called m) (insert_entry string_eq es k w))) two
  put_at e es k m w false false d one two three rest = ap (λ z. cond z (Some e.1) (lookup (is_called m) (insert_entry string_eq es k w))) two ∙ rest

  lookup_put : (es : List (String Global × X)) (k : String Global) (m : List ℕ) (w : X)
      → lookup (is_called m) (insert_entry string_eq es k w) ≡ cond (bytes_eq m (string_bytes k)) (Some w) (lookup (is_called m) es)
  lookup_put [] k m w = refl
  lookup_put (e ∷ es) k m w = put_at e es k m w (string_eq k e.0) (is_called m e.0) (bytes_eq m (string_bytes k)) refl refl refl (lookup_put es k m w)

  cond_or : {Y : Type 0} (f : X → Y) (none : Y) (b : Bool) (w : X) (o : Option X)
      → option_map_or f (cond b (Some w) o) none ≡ cond b (f w) (option_map_or f o none)
  cond_or f none true w o = refl
  cond_or f none false w o = refl

  -- after an insertion
  pub value_put : {Y : Type 0} (f : X → Y) (none : Y) (es new : List (String Global × X)) (k : String Global) (name m : List ℕ) (w : X) (y : Y)
      → new ≡ insert_entry string_eq es k w → string_bytes k ≡ name → f w ≡ y
      → option_map_or f (lookup (is_called m) new) none ≡ cond (bytes_eq m name) y (option_map_or f (lookup (is_called m) es) none)
  value_put f none es new k name m w y put key is =
      ap (λ z. option_map_or f (lookup (is_called m) z) none) put
      ∙ (ap (λ o. option_map_or f o none) (lookup_put es k m w)
      ∙ (cond_or f none (bytes_eq m (string_bytes k)) w (lookup (is_called m) es)
      ∙ (ap (λ z. cond (bytes_eq m z) (f w) (option_map_or f (lookup (is_called m) es) none)) key
      ∙ ap (λ z. cond (bytes_eq m name) z (option_map_or f (lookup (is_called m) es) none)) is)))

-- a module without functions of adapters
pub none_added : (under : List ℕ → List (List ℕ × ℕ)) (name m : List ℕ) (positions : List (List ℕ × ℕ)) → under name ≡ [] → positions ≡ []
    → under m ≡ cond (bytes_eq m name) positions (under m)
none_added under name m positions empty none = at (bytes_eq m name) refl where
  at : (b : Bool) → bytes_eq m name ≡ b → under m ≡ cond b positions (under m)
  at true is = ap under (same m name is) ∙ (empty ∙ sym none)
  at false is = refl

-- modules that are gone through
unseen_at : {X : Type 0} (name : List ℕ) (p : String Global × X) (ps : List (String Global × X)) → bytes_eq name (string_bytes p.0) ≡ false
    → lookup (is_called name) ps ≡ None → lookup (is_called name) (p ∷ ps) ≡ None
unseen_at name p ps is none = ap (λ z. cond z (Some p.1) (lookup (is_called name) ps)) is ∙ none

last_of : {X : Type 0} (P : String Global → Type 0) (ps : List (String Global × X)) (e : String Global × X) (rest : List (String Global × X))
    → AllByRecursion P (keys_of (ps ++ e ∷ rest)) → P e.0
last_of P [] e rest h = h.0
last_of P (p ∷ ps) e rest h = last_of P ps e rest h.1

unseen : {X : Type 0} (ps : List (String Global × X)) (e : String Global × X) (rest : List (String Global × X))
    → IsDistinct string_eq (keys_of (ps ++ e ∷ rest)) → lookup (is_called (string_bytes e.0)) ps ≡ None
unfolding IsDistinct
unseen [] e rest h = refl
unseen (p ∷ ps) e rest h =
    unseen_at (string_bytes e.0) p ps (other (string_bytes p.0) (string_bytes e.0) (last_of (λ y. string_eq p.0 y ≡ false) ps e rest h.0))
    (unseen ps e rest h.1)

pub record Covered (all rest : List (String Global × ImportInstance)) (first : FirstFunctions) : Type 0 where
  pub passed : List (String Global × ImportInstance)
  pub split : passed ++ rest ≡ all
  pub distinct : IsDistinct string_eq (keys_of all)
  pub holds : HasFirstFunctions first (map instance_entry passed)

pub covered_start : (all items rest : List (String Global × ImportInstance)) (first : FirstFunctions) → rest ≡ items → items ≡ all
    → IsDistinct string_eq (keys_of all) → HasFirstFunctions first [] → Covered all rest first
covered_start all items rest first rests is distinct h = record { passed = []; split = rests ∙ is; distinct = distinct; holds = h }

module_at : (b : Bool) (r : InstanceRecord) (o : Option InstanceRecord) (new old : List (List ℕ × ℕ)) → new ≡ cond b (first_functions r) old
    → old ≡ option_map_or first_functions o [] → (b ≡ true → o ≡ None)
    → new ≡ option_map_or first_functions (first_some o (cond b (Some r) None)) []
module_at true r o new old put was none = put ∙ sym (ap (λ z. option_map_or first_functions (first_some z (Some r)) []) (none refl))
module_at false r o new old put was none = put ∙ (was ∙ sym (ap (λ z. option_map_or first_functions z []) (first_some_none o)))

pub covered_next : (all left rest : List (String Global × ImportInstance)) (e : String Global × ImportInstance) (old new : FirstFunctions)
    → Covered all left old → left ≡ e ∷ rest
    → ((m : List ℕ) → positions_under old (string_bytes e.0) ≡ [] → positions_under new m ≡ cond (bytes_eq m (string_bytes e.0))
    (first_functions (instance_view e.1)) (positions_under old m)) → Covered all rest new
covered_next all left rest e old new c is added = record {
  passed = c.passed ++ e ∷ [];
  split = append_assoc c.passed (e ∷ []) rest ∙ (ap (λ z. c.passed ++ z) (sym is) ∙ c.split);
  distinct = c.distinct;
  holds = λ m.
      module_at (bytes_eq m (string_bytes e.0)) (instance_view e.1) (lookup (bytes_eq m) (map instance_entry c.passed)) (positions_under new m)
      (positions_under old m)
      (added m (c.holds (string_bytes e.0) ∙ ap (λ o. option_map_or first_functions o []) gone)) (c.holds m)
      (λ here. subst (λ z. lookup (bytes_eq z) (map instance_entry c.passed) ≡ None) (sym (same m (string_bytes e.0) here)) gone)
      ∙ sym (ap (λ z. option_map_or first_functions (lookup (bytes_eq m) z) []) (map-append instance_entry c.passed (e ∷ []))
      ∙ ap (λ o. option_map_or first_functions o []) (lookup_push (bytes_eq m) (map instance_entry c.passed) (string_bytes e.0) (instance_view e.1)));
} where
  gone : lookup (bytes_eq (string_bytes e.0)) (map instance_entry c.passed) ≡ None
  gone =
      record_none c.passed (string_bytes e.0) (unseen c.passed e rest
      (subst (λ z. IsDistinct string_eq (keys_of z)) (sym (ap (λ z. c.passed ++ z) (sym is) ∙ c.split)) c.distinct))

pub covered_end : (all left : List (String Global × ImportInstance)) (first : FirstFunctions) → Covered all left first → left ≡ []
    → HasFirstFunctions first (map instance_entry all)
covered_end all left first c none =
    subst (λ z. HasFirstFunctions first (map instance_entry z)) (sym (append-nil c.passed) ∙ (ap (λ z. c.passed ++ z) (sym none) ∙ c.split)) c.holds
