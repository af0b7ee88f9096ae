-- Types that are noted for functions of adapters.
use Rattle.std.proofs.Common.{OnOk, Result, Ok, Err, ◌≡◌, ◌↔◌, ℕ, Bool, true, false, ◌&&◌, cond, IsTrue, List, [], ◌∷◌, ◌++◌, map, Option, Some, None, String, string_bytes, refl, sym, ap, subst, ◌∙◌}
use Rattle.std.specs.Map.{lookup}
use Rattle.std.specs.Option.{option_map}
use Rattle.std.specs.Str.{bytes_eq}
use Rattle.std.specs.declared.alloc.Global.{Global}
use Rattle.std.proofs.lemmas.Bool.{and_parts}
use Rattle.std.proofs.lemmas.Slice.Eq.{bytes_eq-Decides}
use Rattle.indexmap.specs.IndexMap.{insert_entry}
use Rattle.wc_read.specs.declared.types.ValType.{ValType}
use Rattle.wc_read.specs.declared.types.FuncType.{FuncType}
use Rattle.wc_read.specs.Types.{FuncTypeValue, func_type_value}
use Rattle.wc_names.specs.Builtins.{signature}
use Rattle.wc_maps.proofs.LookupLemmas.{lookup_viewed}
use Rattle.wc_validate.specs.Imports.AdapterTypes.{first_some, is_function_key, noted_type, one_type, type_entry}

abbrev pub Key : Type 0
Key = String Global × String Global

abbrev pub key_test : Key → Key → Bool
key_test key k = bytes_eq (string_bytes key.0) (string_bytes k.0) && bytes_eq (string_bytes key.1) (string_bytes k.1)

-- a look-up by a key, and what is noted
pub types_viewed : (key : Key) (es : List (Key × FuncType))
    → option_map func_type_value (lookup (key_test key) es) ≡ noted_type (map type_entry es) (string_bytes key.0) (string_bytes key.1)
types_viewed key es =
    lookup_viewed (λ (k : Key). (string_bytes k.0, string_bytes k.1)) func_type_value (key_test key) (is_function_key (string_bytes key.0) (string_bytes key.1))
    (λ k. refl) es

new_key_at : (es : List (Key × FuncType)) (e : Key × FuncType) (key : Key) (v : FuncType) (b : Bool) → cond b (Some e.1) (lookup (key_test key) es) ≡ None
    → (lookup (key_test key) es ≡ None → insert_entry key_test es key v ≡ es ++ (key, v) ∷ [])
    → cond b ((e.0, v) ∷ es) (e ∷ insert_entry key_test es key v) ≡ e ∷ (es ++ (key, v) ∷ [])
new_key_at es e key v true none rest = absurd (let bad : ⊥ = cc none in bad)
new_key_at es e key v false none rest = ap (λ z. e ∷ z) (rest none)

new_key : (es : List (Key × FuncType)) (key : Key) (v : FuncType) → lookup (key_test key) es ≡ None → insert_entry key_test es key v ≡ es ++ (key, v) ∷ []
new_key [] key v none = refl
new_key (e ∷ es) key v none = new_key_at es e key v (key_test key e.0) none (λ h. new_key es key v h)

more_step : (b : Bool) (x : FuncTypeValue) (p q o : Option FuncTypeValue) → p ≡ first_some q o → cond b (Some x) p ≡ first_some (cond b (Some x) q) o
more_step true x p q o h = refl
more_step false x p q o h = h

noted_more : (es : List (Key × FuncType)) (key : Key) (v : FuncType) (a f : List ℕ)
    → noted_type (map type_entry (es ++ (key, v) ∷ [])) a f ≡ first_some (noted_type (map type_entry es) a f)
    (one_type (string_bytes key.0) (string_bytes key.1) (func_type_value v) a f)
noted_more [] key v a f = refl
noted_more (e ∷ es) key v a f = more_step (is_function_key a f (type_entry e).0) (func_type_value e.1) _ _ _ (noted_more es key v a f)

-- a type that is noted first
pub noted_new : (es new : List (Key × FuncType)) (key : Key) (v : FuncType) (adapter function : List ℕ) (ty : FuncTypeValue)
    → new ≡ insert_entry key_test es key v → None ≡ lookup (key_test key) es
    → string_bytes key.0 ≡ adapter → string_bytes key.1 ≡ function → func_type_value v ≡ ty → (a f : List ℕ)
    → noted_type (map type_entry new) a f ≡ first_some (noted_type (map type_entry es) a f) (one_type adapter function ty a f)
noted_new es new key v adapter function ty is none first second third a f =
    ap (λ z. noted_type (map type_entry z) a f) (is ∙ new_key es key v (sym none)) ∙ (noted_more es key v a f
    ∙ (ap (λ z. first_some (noted_type (map type_entry es) a f) (one_type z (string_bytes key.1) (func_type_value v) a f)) first
    ∙ (ap (λ z. first_some (noted_type (map type_entry es) a f) (one_type adapter z (func_type_value v) a f)) second
    ∙ ap (λ z. first_some (noted_type (map type_entry es) a f) (one_type adapter function z a f)) third)))

kept_at : (E : _) (adapter function a f : List ℕ) (ty t : FuncTypeValue) (o : Option FuncTypeValue) (b : Bool) → noted_type E a f ≡ o
    → noted_type E adapter function ≡ Some t → (bytes_eq a adapter && bytes_eq f function) ≡ b
    → o ≡ first_some o (cond b (Some ty) None)
kept_at E adapter function a f ty t (Some x) b is noted test = refl
kept_at E adapter function a f ty t None false is noted test = refl
kept_at E adapter function a f ty t None true is noted test =
    let both = and_parts (bytes_eq a adapter) (bytes_eq f function) test in
    let there : None ≡ Some t = sym is ∙ (ap (λ z. noted_type E z f) ((bytes_eq-Decides a adapter).0 both.0)
    ∙ (ap (λ z. noted_type E adapter z) ((bytes_eq-Decides f function).0 both.1) ∙ noted)) in
    absurd (let bad : ⊥ = cc there in bad)

-- a type that is noted already
pub noted_kept : (E : _) (adapter function : List ℕ) (ty t : FuncTypeValue) → noted_type E adapter function ≡ Some t → (a f : List ℕ)
    → noted_type E a f ≡ first_some (noted_type E a f) (one_type adapter function ty a f)
noted_kept E adapter function ty t noted a f =
    kept_at E adapter function a f ty t (noted_type E a f) (bytes_eq a adapter && bytes_eq f function) refl noted refl

pub noted_is : (es : List (Key × FuncType)) (key : Key) (adapter function : List ℕ) (o : Option FuncType) → o ≡ lookup (key_test key) es
    → string_bytes key.0 ≡ adapter → string_bytes key.1 ≡ function
    → noted_type (map type_entry es) adapter function ≡ option_map func_type_value o
noted_is es key adapter function o is first second =
    sym (ap (option_map func_type_value) is ∙ (types_viewed key es
    ∙ (ap (λ z. noted_type (map type_entry es) z (string_bytes key.1)) first ∙ ap (noted_type (map type_entry es) adapter) second)))

-- a test of parameters and results is one of the type
pub type_test : (b : Bool) (v t : FuncTypeValue) (ps rs : List ValType) → ps ≡ t.params → rs ≡ t.results → IsTrue b ↔ (v ≡ signature ps rs)
    → IsTrue b ↔ (v ≡ t)
type_test b v t ps rs first second test =
    subst (λ z. IsTrue b ↔ (v ≡ signature t.params z)) second (subst (λ z. IsTrue b ↔ (v ≡ signature z rs)) first test)

-- what holds anyway holds on success
pub on_any : {T F : Type 0} (r : Result T F) (A : Type 0) → A → OnOk r A
on_any (Ok x) A a = a
on_any (Err e) A a = tt
