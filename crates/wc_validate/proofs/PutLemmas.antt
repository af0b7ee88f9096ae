-- An import that is recorded after others.
use Rattle.std.proofs.Common.{◌≡◌, ℕ, Bool, true, false, is_some, cond, List, [], ◌∷◌, ◌++◌, map, Option, Some, None, OnOk, IfErr, Result, Ok, Err, String, string_bytes, refl, sym, ap, ◌∙◌, subst, inl, inr}
use Rattle.std.specs.Map.{lookup, set_value}
use Rattle.std.specs.Str.{bytes_eq}
use Rattle.std.specs.declared.alloc.Global.{Global}
use Rattle.std.specs.String.{string_eq}
use Rattle.std.proofs.lemmas.List.{map-append}
use Rattle.std.specs.Option.{option_map}
use Rattle.wc_adapters.specs.declared.adapters.MainOrAdapter.{MainOrAdapter}
use Rattle.wc_adapters.specs.Adapters.{WhichView, which_view}
use Rattle.wc_maps.proofs.LookupLemmas.{name_viewed}
use Rattle.wc_validate.specs.declared.imports.instances.ImportInstance.TheVariants.{Whole, Names}
use Rattle.indexmap.specs.IndexMap.{insert_entry}
use Rattle.wc_names.proofs.ExportIndexLemmas.{is_called}
use Rattle.wc_names.specs.declared.imports.Import.{Import}
use Rattle.wc_validate.specs.Imports.Entries.{InstanceRecord, all_of, names_of, Records, IsAllRecorded, IsNameRecorded}
use Rattle.wc_validate.specs.Imports.Instances.{import_entry, instance_view, instance_entry, add_to, put_in, IsFree, IsInstanceFault, IsWholeFault, IsWholePut}
use Rattle.wc_validate.specs.Private.Imports.AdapterFunctions.{IsOneEntry}
use Rattle.wc_validate.specs.declared.fault.ValidateFault.{ValidateFault}
use Rattle.wc_validate.specs.declared.fault.ValidateFault.TheVariants.{Memory}
use Rattle.wc_names.specs.Views.{ImportView, import_view}
use Rattle.wc_validate.specs.declared.imports.instances.ImportInstance.{ImportInstance}

-- in the place of the instance that was there
put_at : (es : List (String Global × ImportInstance)) (e : String Global × ImportInstance) (m name : List ℕ) (i : ImportView) (old new : ImportInstance)
    (b : Bool)
    → cond b (Some e.1) (lookup (is_called m) es) ≡ Some old → instance_view new ≡ add_to (instance_view old) name i
    → (lookup (is_called m) es ≡ Some old → map instance_entry (set_value (is_called m) es new) ≡ put_in (map instance_entry es) m name i)
    → map instance_entry (cond b ((e.0, new) ∷ es) (e ∷ set_value (is_called m) es new)) ≡ cond b
    ((string_bytes e.0, add_to (instance_view e.1) name i) ∷ map instance_entry es) (instance_entry e ∷ put_in (map instance_entry es) m name i)
put_at es e m name i old new true is added rest =
    let same : e.1 ≡ old = cc is in
    ap (λ (z : InstanceRecord). (string_bytes e.0, z) ∷ map instance_entry es) (added ∙ ap (λ (z : ImportInstance). add_to (instance_view z) name i) (sym same))
put_at es e m name i old new false is added rest = ap (λ z. instance_entry e ∷ z) (rest is)

pub put_found : (es : List (String Global × ImportInstance)) (m name : List ℕ) (i : ImportView) (old new : ImportInstance) → lookup (is_called m) es ≡ Some old
    → instance_view new ≡ add_to (instance_view old) name i
    → map instance_entry (set_value (is_called m) es new) ≡ put_in (map instance_entry es) m name i
put_found [] m name i old new is added = absurd (let bad : ⊥ = cc is in bad)
put_found (e ∷ es) m name i old new is added = put_at es e m name i old new (is_called m e.0) is added (λ h. put_found es m name i old new h added)

-- after all others
after_at : (es : List (String Global × ImportInstance)) (e : String Global × ImportInstance) (k : String Global) (m name : List ℕ) (i : ImportView)
    (new : ImportInstance) (b : Bool)
    → cond b (Some e.1) (lookup (is_called m) es) ≡ None
    → (lookup (is_called m) es ≡ None → map instance_entry (es ++ (k, new) ∷ []) ≡ put_in (map instance_entry es) m name i)
    → instance_entry e ∷ map instance_entry (es ++ (k, new) ∷ []) ≡ cond b ((string_bytes e.0, add_to (instance_view e.1) name i) ∷ map instance_entry es)
    (instance_entry e ∷ put_in (map instance_entry es) m name i)
after_at es e k m name i new true is rest = absurd (let bad : ⊥ = cc is in bad)
after_at es e k m name i new false is rest = ap (λ z. instance_entry e ∷ z) (rest is)

pub put_after : (es : List (String Global × ImportInstance)) (k : String Global) (m name : List ℕ) (i : ImportView) (new : ImportInstance)
    → lookup (is_called m) es ≡ None → string_bytes k ≡ m → instance_view new ≡ names_of ((name, i) ∷ [])
    → map instance_entry (es ++ (k, new) ∷ []) ≡ put_in (map instance_entry es) m name i
put_after [] k m name i new is called one = let e : (string_bytes k, instance_view new) ∷ [] ≡ (m, names_of ((name, i) ∷ [])) ∷ [] = cc (called, one) in e
put_after (e ∷ es) k m name i new is called one = after_at es e k m name i new (is_called m e.0) is (λ h. put_after es k m name i new h called one)

-- a name that is not there goes after the others
new_at : {X : Type 0} (es : List (String Global × X)) (e : String Global × X) (k : String Global) (v : X) (b : Bool)
    → is_some (cond b (Some e.1) (lookup (is_called (string_bytes k)) es)) ≡ false
    → (is_some (lookup (is_called (string_bytes k)) es) ≡ false → insert_entry string_eq es k v ≡ es ++ (k, v) ∷ [])
    → cond b ((e.0, v) ∷ es) (e ∷ insert_entry string_eq es k v) ≡ e ∷ (es ++ (k, v) ∷ [])
new_at es e k v true h rest = absurd (let bad : ⊥ = cc h in bad)
new_at es e k v false h rest = ap (λ z. e ∷ z) (rest h)

pub insert_new : {X : Type 0} (es : List (String Global × X)) (k : String Global) (v : X) → is_some (lookup (is_called (string_bytes k)) es) ≡ false
    → insert_entry string_eq es k v ≡ es ++ (k, v) ∷ []
insert_new [] k v h = refl
insert_new (e ∷ es) k v h = new_at es e k v (string_eq k e.0) h (insert_new es k v)

pub added_is : (old new : List (String Global × Import)) (k : String Global) (v : Import) (name : List ℕ) (there : Bool) → new ≡ insert_entry string_eq old k v
    → string_bytes k ≡ name → there ≡ is_some (lookup (is_called name) old) → there ≡ false
    → names_of (map import_entry new) ≡ names_of (map import_entry old ++ (name, import_view v) ∷ [])
added_is old new k v name there put key is absent =
    let free : is_some (lookup (is_called (string_bytes k)) old) ≡ false = subst (λ z. is_some (lookup (is_called z) old) ≡ false) (sym key) (sym is ∙ absent)
    in
    ap names_of (ap (map import_entry) (put ∙ insert_new old k v free)
    ∙ (map-append import_entry old ((k, v) ∷ []) ∙ ap (λ z. map import_entry old ++ (z, import_view v) ∷ []) key))

-- the first name of a module
pub one_named : (es : List (String Global × Import)) (name : List ℕ) (i : Import) → IsOneEntry name i es
    → names_of (map import_entry es) ≡ names_of ((name, import_view i) ∷ [])
one_named es name i one = ap names_of (ap (map import_entry) one.2 ∙ ap (λ z. (z, import_view i) ∷ []) one.1)

pub put_new : (es new : List (String Global × ImportInstance)) (k : String Global) (m name : List ℕ) (i : ImportView) (x : ImportInstance)
    → new ≡ insert_entry string_eq es k x → string_bytes k ≡ m → None ≡ lookup (is_called m) es
    → instance_view x ≡ names_of ((name, i) ∷ []) → map instance_entry new ≡ put_in (map instance_entry es) m name i
put_new es new k m name i x put key none one =
    let free : is_some (lookup (is_called (string_bytes k)) es) ≡ false = subst (λ z. is_some (lookup (is_called z) es) ≡ false) (sym key)
    (ap is_some (sym none)) in
    ap (map instance_entry) (put ∙ insert_new es k x free) ∙ put_after es k m name i x (sym none) key one

-- what is looked up in the records of modules
pub record_found : (es : List (String Global × ImportInstance)) (m : List ℕ) (instance : ImportInstance) → lookup (is_called m) es ≡ Some instance
    → lookup (bytes_eq m) (map instance_entry es) ≡ Some (instance_view instance)
record_found es m instance is = sym (name_viewed instance_view es m) ∙ ap (option_map instance_view) is

pub record_none : (es : List (String Global × ImportInstance)) (m : List ℕ) → lookup (is_called m) es ≡ None
    → lookup (bytes_eq m) (map instance_entry es) ≡ None
record_none es m is = sym (name_viewed instance_view es m) ∙ ap (option_map instance_view) is

-- all of a module is recorded
pub all_recorded : (es : List (String Global × ImportInstance)) (m : List ℕ) (which : MainOrAdapter) → lookup (is_called m) es ≡ Some (Whole which)
    → IsAllRecorded (map instance_entry es) m
all_recorded es m which is = (which_view which, record_found es m (Whole which) is)

import_there : (es : List (String Global × Import)) (name : List ℕ) (o : Option Import) → lookup (is_called name) es ≡ o → is_some o ≡ true
    → (other : ImportView) × (lookup (bytes_eq name) (map import_entry es) ≡ Some other)
import_there es name None is there = absurd (let bad : ⊥ = cc there in bad)
import_there es name (Some i) is there = (import_view i, sym (name_viewed import_view es name) ∙ ap (option_map import_view) is)

-- a name is recorded
pub name_recorded : (es : List (String Global × ImportInstance)) (m name : List ℕ) (names : _) → lookup (is_called m) es ≡ Some (Names names)
    → is_some (lookup (is_called name) names.entries) ≡ true
    → IsNameRecorded (map instance_entry es) m name
name_recorded es m name names is there =
    let other = import_there names.entries name (lookup (is_called name) names.entries) refl there in
    (map import_entry names.entries, other.0, record_found es m (Names names) is, other.1)

import_absent : (es : List (String Global × Import)) (name : List ℕ) (o : Option Import) (other : ImportView) → lookup (is_called name) es ≡ o
    → is_some o ≡ false → lookup (bytes_eq name) (map import_entry es) ≡ Some other → ⊥
import_absent es name (Some i) other is absent there = let bad : ⊥ = cc absent in bad
import_absent es name None other is absent there =
    let both : None ≡ Some other = sym (sym (name_viewed import_view es name) ∙ ap (option_map import_view) is) ∙ there in let bad : ⊥ = cc both in bad

-- another name of a module can be recorded
pub free_after : (es : List (String Global × ImportInstance)) (m name : List ℕ) (names : _) → lookup (is_called m) es ≡ Some (Names names)
    → is_some (lookup (is_called name) names.entries) ≡ false
    → IsFree (map instance_entry es) m name
free_after es m name names is absent =
    let here = record_found es m (Names names) is in (
      (λ all. let both : Some (names_of (map import_entry names.entries)) ≡ Some (all_of all.0) = sym here ∙ all.1 in let bad : ⊥ = cc both in bad),
      (λ h. let both : Some (names_of (map import_entry names.entries)) ≡ Some (names_of h.0) = sym here ∙ h.2 in
          let same : map import_entry names.entries ≡ h.0 = cc both in
          import_absent names.entries name (lookup (is_called name) names.entries) h.1 refl absent
          (subst (λ z. lookup (bytes_eq name) z ≡ Some h.1) (sym same) h.3)),
    )

-- and every name of a new module
pub free_new : (es : List (String Global × ImportInstance)) (m name : List ℕ) → lookup (is_called m) es ≡ None → IsFree (map instance_entry es) m name
free_new es m name is =
    let here = record_none es m is in (
      (λ all. let both : None ≡ Some (all_of all.0) = sym here ∙ all.1 in let bad : ⊥ = cc both in bad),
      (λ h. let both : None ≡ Some (names_of h.0) = sym here ∙ h.2 in let bad : ⊥ = cc both in bad),
    )

-- all of a module of the component is recorded already, or another one, or single imports
pub whole_found : {T : Type 0} (r : Result T ValidateFault) (records : Records) (m : List ℕ) (instance : InstanceRecord) (w : WhichView)
    → lookup (bytes_eq m) records ≡ Some instance → OnOk r (instance ≡ all_of w)
    → OnOk r (IsWholePut records records m w)
whole_found (Ok x) records m instance w is same = inr (is ∙ ap (λ (z : InstanceRecord). Some z) same, refl)
whole_found (Err f) records m instance w is same = tt

instance_refused : (records : Records) (m : List ℕ) (instance : InstanceRecord) (w : WhichView) (f : ValidateFault)
    → lookup (bytes_eq m) records ≡ Some instance → IsInstanceFault instance w f → IsWholeFault records m w f
instance_refused records m instance w Memory is h = tt
instance_refused records m instance w f is h = (instance, is, h)

pub whole_refused : {T : Type 0} (r : Result T ValidateFault) (records : Records) (m : List ℕ) (instance : InstanceRecord) (w : WhichView)
    → lookup (bytes_eq m) records ≡ Some instance → IfErr r (IsInstanceFault instance w)
    → IfErr r (IsWholeFault records m w)
whole_refused (Ok x) records m instance w is h = tt
whole_refused (Err f) records m instance w is h = instance_refused records m instance w f is h

-- all of a module of the component after all others
pub whole_new : (es new : List (String Global × ImportInstance)) (k : String Global) (m : List ℕ) (w : WhichView) (x : ImportInstance)
    → new ≡ insert_entry string_eq es k x → string_bytes k ≡ m → None ≡ lookup (is_called m) es → instance_view x ≡ all_of w
    → IsWholePut (map instance_entry es) (map instance_entry new) m w
whole_new es new k m w x put key none whole =
    let free : is_some (lookup (is_called (string_bytes k)) es) ≡ false = subst (λ z. is_some (lookup (is_called z) es) ≡ false) (sym key)
    (ap is_some (sym none)) in
    inl (
      record_none es m (sym none),
      ap (map instance_entry) (put ∙ insert_new es k x free)
          ∙ (map-append instance_entry es ((k, x) ∷ [])
          ∙ (ap (λ z. map instance_entry es ++ (z, instance_view x) ∷ []) key ∙ ap (λ z. map instance_entry es ++ (m, z) ∷ []) whole)),
    )
