-- Functions of adapters, the first of each name.
use Rattle.std.proofs.Common.{◌≡◌, ℕ, Bool, true, false, not, cond, is_some, List, [], ◌∷◌, ◌++◌, map, Option, Some, None, OnOk, Result, Ok, Err, String, string_bytes, refl, sym, ap, subst, ◌∙◌, append-nil}
use Rattle.std.specs.List.{filter, filter_map, cons_option}
use Rattle.std.specs.Map.{lookup}
use Rattle.std.specs.Option.{option_map_or}
use Rattle.std.specs.String.{string_eq}
use Rattle.std.specs.Str.{bytes_eq}
use Rattle.std.specs.declared.alloc.Global.{Global}
use Rattle.std.proofs.lemmas.List.{map-append}
use Rattle.std.proofs.lemmas.List.Elements.{filter-append}
use Rattle.indexmap.specs.IndexMap.{insert_entry}
use Rattle.wc_read.specs.Types.{FuncTypeValue}
use Rattle.wc_maps.proofs.LookupLemmas.{name_viewed}
use Rattle.wc_names.specs.Views.{ImportView}
use Rattle.wc_validate.specs.declared.imports.instances.ImportInstance.{ImportInstance}
use Rattle.wc_validate.specs.Imports.Entries.{Records}
use Rattle.wc_validate.specs.Imports.Map.{first_of_names, function_of, functions_in, required_in}
use Rattle.wc_validate.specs.Imports.Instances.{instance_entry, instance_view}
use Rattle.wc_validate.specs.Private.Imports.AdapterFunctions.{HasFirsts, functions_of}
use Rattle.wc_validate.proofs.ArgumentLemmas.{is_some_map}
use Rattle.wc_validate.proofs.IndexLemmas.{index_kept, index_more}
use Rattle.wc_names.proofs.ExportIndexLemmas.{is_called}
use Rattle.wc_validate.proofs.PutLemmas.{insert_new, record_found, record_none}
use Rattle.wc_validate.proofs.InstanceLemmas.{other, same, self}

module _ {X : Type 0} where
  abbrev pub others : List ℕ → List (List ℕ × X) → List (List ℕ × X)
  others m ys = filter (λ (y : List ℕ × X). not (bytes_eq m y.0)) ys

  abbrev one_unless : Bool → List ℕ × X → List (List ℕ × X)
  one_unless b y = cond b [] (y ∷ [])

  others_of : (m : List ℕ) (y : List ℕ × X) (b c : Bool) → bytes_eq m y.0 ≡ b → others m (one_unless c y) ≡ cond b [] (one_unless c y)
  others_of m y true true is = refl
  others_of m y false true is = refl
  others_of m y true false is = ap (λ z. cond (not z) (y ∷ []) []) is
  others_of m y false false is = ap (λ z. cond (not z) (y ∷ []) []) is

  there_at : (x y : List ℕ × X) (xs : List (List ℕ × X)) (b : Bool) → bytes_eq x.0 y.0 ≡ b
      → cond b [] (one_unless (is_some (lookup (bytes_eq y.0) xs)) y) ≡ one_unless (is_some (lookup (bytes_eq y.0) (x ∷ xs))) y
  there_at x y xs true is =
      sym (ap (λ b. one_unless (is_some (cond b (Some x.1) (lookup (bytes_eq y.0) xs))) y) (subst (λ z. bytes_eq z x.0 ≡ true) (same x.0 y.0 is) (self x.0)))
  there_at x y xs false is = sym (ap (λ b. one_unless (is_some (cond b (Some x.1) (lookup (bytes_eq y.0) xs))) y) (other x.0 y.0 is))

  -- one more of a list by names
  firsts_more : (xs : List (List ℕ × X)) (y : List ℕ × X)
      → first_of_names (xs ++ y ∷ []) ≡ first_of_names xs ++ one_unless (is_some (lookup (bytes_eq y.0) xs)) y
  firsts_more [] y = refl
  firsts_more (x ∷ xs) y =
      ap (λ z. x ∷ others x.0 z) (firsts_more xs y)
      ∙ (ap (λ z. x ∷ z) (filter-append (λ (k : List ℕ × X). not (bytes_eq x.0 k.0)) (first_of_names xs) (one_unless (is_some (lookup (bytes_eq y.0) xs)) y))
      ∙ ap (λ z. x ∷ (others x.0 (first_of_names xs) ++ z)) (others_of x.0 y (bytes_eq x.0 y.0) (is_some (lookup (bytes_eq y.0) xs)) refl
      ∙ there_at x y xs (bytes_eq x.0 y.0) refl))

abbrev Functions : Type 0
Functions = List (List ℕ × FuncTypeValue)

module _ {X : Type 0} (functions passed : List (List ℕ × X)) (k : List ℕ) (v : X) (h : HasFirsts functions passed) where
  same_found : (b : Bool) → is_some (lookup (bytes_eq k) functions) ≡ b → is_some (lookup (bytes_eq k) passed) ≡ b
  same_found b is = ap is_some (sym (h.1 k)) ∙ is

  firsts_kept : is_some (lookup (bytes_eq k) functions) ≡ true → HasFirsts functions (passed ++ (k, v) ∷ [])
  firsts_kept there = (
    h.0 ∙ sym (firsts_more passed (k, v) ∙ (ap (λ b. first_of_names passed ++ cond b [] ((k, v) ∷ [])) (same_found true there)
        ∙ append-nil (first_of_names passed))),
    index_kept functions passed k v h.1 there,
  )

  firsts_added : is_some (lookup (bytes_eq k) functions) ≡ false → HasFirsts (functions ++ (k, v) ∷ []) (passed ++ (k, v) ∷ [])
  firsts_added absent = (
    ap (λ z. z ++ (k, v) ∷ []) h.0 ∙ sym (firsts_more passed (k, v) ∙ ap (λ b. first_of_names passed ++ cond b [] ((k, v) ∷ [])) (same_found false absent)),
    index_more functions passed k v h.1,
  )

-- values by names, of which something is seen
module _ {V X : Type 0} (view : V → X) where
  abbrev entry : String Global × V → List ℕ × X
  entry e = (string_bytes e.0, view e.1)

  called : (es : List (String Global × V)) (name : List ℕ) (there b : Bool) → there ≡ is_some (lookup (is_called name) es) → there ≡ b
      → is_some (lookup (bytes_eq name) (map entry es)) ≡ b
  called es name there b is test = ap is_some (sym (name_viewed view es name)) ∙ (is_some_map view (lookup (is_called name) es) ∙ (sym is ∙ test))

  pub name_kept : (es : List (String Global × V)) (name : List ℕ) (x : X) (there : Bool) (passed : List (List ℕ × X))
      → there ≡ is_some (lookup (is_called name) es) → there ≡ true → HasFirsts (map entry es) passed
      → HasFirsts (map entry es) (passed ++ (name, x) ∷ [])
  name_kept es name x there passed is test h = firsts_kept (map entry es) passed name x h (called es name there true is test)

  pub name_added : (es new : List (String Global × V)) (k : String Global) (v : V) (name : List ℕ) (x : X) (there : Bool) (passed : List (List ℕ × X))
      → new ≡ insert_entry string_eq es k v → string_bytes k ≡ name → view v ≡ x
      → there ≡ is_some (lookup (is_called name) es) → there ≡ false → HasFirsts (map entry es) passed → HasFirsts (map entry new) (passed ++ (name, x) ∷ [])
  name_added es new k v name x there passed put key same is test h =
      let free : is_some (lookup (is_called (string_bytes k)) es) ≡ false = subst (λ z. is_some (lookup (is_called z) es) ≡ false) (sym key) (sym is ∙ test) in
      let entries : map entry new ≡ map entry es ++ (name, x) ∷ [] =
      ap (map entry) (put ∙ insert_new es k v free) ∙ (map-append entry es ((k, v) ∷ [])
      ∙ (ap (λ z. map entry es ++ (z, view v) ∷ []) key ∙ ap (λ z. map entry es ++ (name, z) ∷ []) same)) in
      subst (λ z. HasFirsts z (passed ++ (name, x) ∷ [])) (sym entries) (firsts_added (map entry es) passed name x h (called es name there false is test))

-- the functions that are gathered from a list that is gone through
pub record CollectedFirsts {E : Type 0} (gives : E → Option (List ℕ × FuncTypeValue)) (all rest : List E) (functions : Functions) : Type 0 where
  pub passed : Functions
  pub firsts : HasFirsts functions passed
  pub split : passed ++ filter_map gives rest ≡ filter_map gives all

option_cons : {X : Type 0} (passed : List X) (o : Option X) (rest : List X) → (passed ++ cons_option o []) ++ rest ≡ passed ++ cons_option o rest
option_cons [] None rest = refl
option_cons [] (Some x) rest = refl
option_cons (p ∷ passed) o rest = ap (λ z. p ∷ z) (option_cons passed o rest)

module _ {E : Type 0} (gives : E → Option (List ℕ × FuncTypeValue)) where
  pub collected_start : (all rest : List E) (functions : Functions) → rest ≡ all → functions ≡ [] → CollectedFirsts gives all rest functions
  collected_start all rest functions is none =
      record { passed = []; firsts = (none, λ name. ap (lookup (bytes_eq name)) none); split = ap (filter_map gives) is }

  pub collected_next : (all left rest : List E) (e : E) (old new : Functions) → (g : CollectedFirsts gives all left old) → left ≡ e ∷ rest
      → HasFirsts new (g.passed ++ cons_option (gives e) []) → CollectedFirsts gives all rest new
  collected_next all left rest e old new g is firsts = record {
    passed = g.passed ++ cons_option (gives e) [];
    firsts = firsts;
    split = option_cons g.passed (gives e) (filter_map gives rest) ∙ (ap (λ z. g.passed ++ filter_map gives z) (sym is) ∙ g.split);
  }

  pub collected_end : (all left : List E) (functions : Functions) → CollectedFirsts gives all left functions → left ≡ []
      → functions ≡ first_of_names (filter_map gives all)
  collected_end all left functions g none =
      g.firsts.0 ∙ ap first_of_names (sym (append-nil g.passed) ∙ (ap (λ z. g.passed ++ filter_map gives z) (sym none) ∙ g.split))

pub required_passed : (functions passed : Functions) (i : ImportView) → None ≡ function_of ([], i) → HasFirsts functions passed
    → HasFirsts functions (passed ++ functions_of i)
required_passed functions passed i none h = subst (HasFirsts functions) (sym (append-nil passed) ∙ ap (λ z. passed ++ cons_option z []) none) h

pub required_one : {T F : Type 0} (r : Result T F) (functions passed : Functions) (i : ImportView) (f : List ℕ × FuncTypeValue) → Some f ≡ function_of ([], i)
    → OnOk r (HasFirsts functions (passed ++ f ∷ [])) → OnOk r (HasFirsts functions (passed ++ functions_of i))
required_one (Ok x) functions passed i f is h = subst (HasFirsts functions) (ap (λ z. passed ++ cons_option z []) is) h
required_one (Err e) functions passed i f is h = tt

-- what is recorded of an adapter's module
pub required_is : (es : List (String Global × ImportInstance)) (records : Records) (adapter : List ℕ) (instance : ImportInstance)
    → Some instance ≡ lookup (is_called adapter) es → map instance_entry es ≡ records
    → first_of_names (functions_in (instance_view instance)) ≡ required_in records adapter
required_is es records adapter instance is view =
    ap (λ z. first_of_names (option_map_or functions_in z [])) (sym (record_found es adapter instance (sym is)) ∙ ap (lookup (bytes_eq adapter)) view)

pub required_none : (es : List (String Global × ImportInstance)) (records : Records) (adapter : List ℕ) → None ≡ lookup (is_called adapter) es
    → map instance_entry es ≡ records → [] ≡ required_in records adapter
required_none es records adapter is view =
    ap (λ z. first_of_names (option_map_or functions_in z [])) (sym (record_none es adapter (sym is)) ∙ ap (lookup (bytes_eq adapter)) view)
