-- Exported functions: those that are recorded, and all by their names.
use Rattle.std.proofs.Common.{◌≡◌, ◌↔◌, ◌⊎◌, ℕ, ◌<◌, ◌+◌, Bool, true, false, ◌&&◌, cond, List, [], ◌∷◌, ◌++◌, map, take, length, get_or, Option, Some, None, All, Contains, IsTrue, is_some, String, string_bytes, inl, inr, refl, sym, ap, subst, ◌∙◌, append-nil, append_assoc}
use Rattle.std.specs.Borrow.{Bor}
use Rattle.std.specs.List.{cons_option, filter_map, list_any}
use Rattle.std.specs.Map.{lookup}
use Rattle.std.specs.Option.{option_eq, option_map, option_to_list}
use Rattle.std.specs.String.{string_eq}
use Rattle.std.specs.Str.{bytes_eq}
use Rattle.std.specs.declared.alloc.Global.{Global}
use Rattle.std.proofs.lemmas.Bool.{and_from, and_parts, or_cases, or_left, or_right}
use Rattle.std.proofs.lemmas.List.{map-append, take_more}
use Rattle.std.proofs.lemmas.List.Elements.{All-cons, All-head, All-nil, All-tail, Contains-append_cases, Contains-append_left, Contains-append_right, filter_map-append}
use Rattle.indexmap.specs.IndexMap.{insert_entry}
use Rattle.wc_read.specs.declared.exports.Export.{Export as RawExport}
use Rattle.wc_read.specs.declared.types.FuncType.{FuncType}
use Rattle.wc_read.specs.Exports.{export_value}
use Rattle.wc_read.specs.Modules.{ModuleValue}
use Rattle.wc_read.specs.Types.{FuncTypeValue, func_type_value}
use Rattle.wc_resolve.specs.declared.ids.InterfaceId.{InterfaceId}
use Rattle.wc_resolve.specs.contracts.ids.InterfaceIdPartialEq.TheImpl.{eq-value as id_eq}
use Rattle.wc_resolve.proofs.KeyLemmas.{ids_law, texts_law}
use Rattle.wc_maps.proofs.LookupLemmas.{lookup_viewed}
use Rattle.wc_maps.proofs.ListLemmas.{contains_cons, contains_head, contains_none, contains_tail}
use Rattle.wc_names.specs.declared.exports.Export.{Export}
use Rattle.wc_names.specs.ExportViews.{ExportView}
use Rattle.wc_names.specs.Imports.{ExternType}
use Rattle.wc_validate.specs.Private.Imports.Arguments.{IsIndexOf}
use Rattle.wc_validate.specs.Exports.Contexts.{core_export}
use Rattle.wc_validate.specs.Exports.Map.{ExportRecord, export_entry}
use Rattle.wc_validate.specs.Private.ExportedFunctions.{AreNamesOf, function_key, typed_entry}
use Rattle.wc_validate.specs.Exports.Record.{core_exports, item_type, typed_export}
use Rattle.wc_validate.specs.Requirements.{function_name, function_names, typed_name}
use Rattle.wc_validate.proofs.ArgumentLemmas.{Text, is_some_map, is_text, text_added}
use Rattle.wc_validate.proofs.IndexLemmas.{index_kept, index_more}

abbrev pub Key : Type 0
Key = Option InterfaceId × String Global

-- how keys are compared
abbrev pub key_test : Key → Key → Bool
key_test a b = option_eq id_eq.it a.0 b.0 && string_eq a.1 b.1

options_law : (a b : Option InterfaceId) → (option_eq id_eq.it a b ≡ true)
    ↔ (option_map (λ (id : InterfaceId). id.0) a ≡ option_map (λ (id : InterfaceId). id.0) b)
options_law None None = (λ h. refl, λ h. refl)
options_law None (Some y) = (λ h. absurd (let bad : ⊥ = cc h in bad), λ h. absurd (let bad : ⊥ = cc h in bad))
options_law (Some x) None = (λ h. absurd (let bad : ⊥ = cc h in bad), λ h. absurd (let bad : ⊥ = cc h in bad))
options_law (Some x) (Some y) = (λ h. ap (λ (n : ℕ). Some n) ((ids_law x y).0 h), λ h. (ids_law x y).1 (let same : x.0 ≡ y.0 = cc h in same))

pair_is : (x y : Option ℕ × List ℕ) → x.0 ≡ y.0 → x.1 ≡ y.1 → x ≡ y
pair_is x y p q = λ i. (p i, q i)

pub keys_law : (a b : Key) → (key_test a b ≡ true) ↔ (function_key a ≡ function_key b)
keys_law a b = (
  λ h. to (and_parts (option_eq id_eq.it a.0 b.0) (string_eq a.1 b.1) h),
  λ h. and_from _ _
      ((options_law a.0 b.0).1 (ap (λ (z : Option ℕ × List ℕ). z.0) h)) ((texts_law a.1 b.1).1 (ap (λ (z : Option ℕ × List ℕ). z.1) h)),
) where
  to : (option_eq id_eq.it a.0 b.0 ≡ true) × (string_eq a.1 b.1 ≡ true) → function_key a ≡ function_key b
  to h = pair_is (function_key a) (function_key b) ((options_law a.0 b.0).0 h.0) ((texts_law a.1 b.1).0 h.1)

any_to : (k x : Key) (keys : List Key) → (list_any (key_test k) keys ≡ true → Contains (map function_key keys) (function_key k)) → (key_test k x ≡ true)
    ⊎ (list_any (key_test k) keys ≡ true)
    → Contains (function_key x ∷ map function_key keys) (function_key k)
any_to k x keys rest (inl h) =
    subst (λ z. Contains (function_key x ∷ map function_key keys) z) (sym ((keys_law k x).0 h)) (contains_head (map function_key keys) (function_key x))
any_to k x keys rest (inr h) = contains_tail (function_key x) (map function_key keys) (function_key k) (rest h)

any_from : (k x : Key) (keys : List Key) → (Contains (map function_key keys) (function_key k) → list_any (key_test k) keys ≡ true)
    → (function_key x ≡ function_key k) ⊎ Contains (map function_key keys) (function_key k)
    → list_any (key_test k) (x ∷ keys) ≡ true
any_from k x keys rest (inl h) = or_left (key_test k x) (list_any (key_test k) keys) ((keys_law k x).1 (sym h))
any_from k x keys rest (inr h) = or_right (key_test k x) (list_any (key_test k) keys) (rest h)

-- a key is among others where its function is among theirs
pub any_key : (k : Key) (keys : List Key) → (list_any (key_test k) keys ≡ true) ↔ Contains (map function_key keys) (function_key k)
any_key k [] = (λ h. absurd (let e : false ≡ true = h in let bad : ⊥ = cc e in bad), λ h. absurd (contains_none (function_key k) h))
any_key k (x ∷ keys) = (
  λ h. any_to k x keys (any_key k keys).0 (or_cases (key_test k x) (list_any (key_test k) keys) h),
  λ h. any_from k x keys (any_key k keys).1
      (contains_cons (function_key x) (map function_key keys) (function_key k) h),
)

-- one more export
names_more : (passed : ExportRecord) (e : List ℕ × ExportView) → function_names (passed ++ e ∷ []) ≡ function_names passed ++ cons_option (function_name e) []
names_more passed e = filter_map-append function_name passed (e ∷ [])

pub name_passed : (keys : List Key) (passed : ExportRecord) (e : List ℕ × ExportView) → None ≡ function_name e → AreNamesOf keys passed
    → AreNamesOf keys (passed ++ e ∷ [])
name_passed keys passed e none same f =
    subst (λ z. Contains (map function_key keys) f ↔ Contains z f)
    (sym (names_more passed e ∙ (ap (λ o. function_names passed ++ cons_option o []) (sym none) ∙ append-nil (function_names passed)))) (same f)

module _ (keys after : List Key) (passed : ExportRecord) (e : List ℕ × ExportView) (k : Key) (same : AreNamesOf keys passed)
    (is : Some (function_key k) ≡ function_name e) where
  more_names : function_names (passed ++ e ∷ []) ≡ function_names passed ++ function_key k ∷ []
  more_names = names_more passed e ∙ ap (λ o. function_names passed ++ cons_option o []) (sym is)

  there : (f : Option ℕ × List ℕ) → Contains (map function_key keys) (function_key k) → Contains (map function_key keys) f
      ↔ Contains (function_names passed ++ function_key k ∷ []) f
  there f known = (
    λ h. Contains-append_left (function_names passed) (function_key k ∷ []) f ((same f).0 h),
    λ h. back (Contains-append_cases (function_names passed) (function_key k ∷ []) f h),
  ) where
    last : (function_key k ≡ f) ⊎ Contains [] f → Contains (map function_key keys) f
    last (inl h) = subst (Contains (map function_key keys)) h known
    last (inr h) = absurd (contains_none f h)

    back : Contains (function_names passed) f ⊎ Contains (function_key k ∷ []) f → Contains (map function_key keys) f
    back (inl h) = (same f).1 h
    back (inr h) = last (contains_cons (function_key k) [] f h)

  added : (f : Option ℕ × List ℕ) → Contains (map function_key keys ++ function_key k ∷ []) f ↔ Contains (function_names passed ++ function_key k ∷ []) f
  added f = (
    λ h. to (Contains-append_cases (map function_key keys) (function_key k ∷ []) f h),
    λ h. from
        (Contains-append_cases (function_names passed) (function_key k ∷ []) f h),
  ) where
    to : Contains (map function_key keys) f ⊎ Contains (function_key k ∷ []) f → Contains (function_names passed ++ function_key k ∷ []) f
    to (inl h) = Contains-append_left (function_names passed) (function_key k ∷ []) f ((same f).0 h)
    to (inr h) = Contains-append_right (function_names passed) (function_key k ∷ []) f h

    from : Contains (function_names passed) f ⊎ Contains (function_key k ∷ []) f → Contains (map function_key keys ++ function_key k ∷ []) f
    from (inl h) = Contains-append_left (map function_key keys) (function_key k ∷ []) f ((same f).1 h)
    from (inr h) = Contains-append_right (map function_key keys) (function_key k ∷ []) f h

  at_test : (b : Bool) → list_any (key_test k) keys ≡ b → after ≡ cond b keys (keys ++ k ∷ []) → (f : Option ℕ × List ℕ) → Contains (map function_key after) f
      ↔ Contains (function_names passed ++ function_key k ∷ []) f
  at_test true known made f =
      subst (λ z. Contains (map function_key z) f ↔ Contains (function_names passed ++ function_key k ∷ []) f) (sym made) (there f ((any_key k keys).0 known))
  at_test false known made f =
      subst (λ z. Contains z f ↔ Contains (function_names passed ++ function_key k ∷ []) f)
      (sym (ap (map function_key) made ∙ map-append function_key keys (k ∷ []))) (added f)

  pub name_added : after ≡ cond (list_any (key_test k) keys) keys (keys ++ k ∷ []) → AreNamesOf after (passed ++ e ∷ [])
  name_added made f = subst (λ z. Contains (map function_key after) f ↔ Contains z f) (sym more_names) (at_test (list_any (key_test k) keys) refl made f)

-- whether a function is recorded
pub key_recorded : (keys : List Key) (recorded : ExportRecord) (k : Key) (f : Option ℕ × List ℕ) (b : Bool) → AreNamesOf keys recorded → function_key k ≡ f
    → b ≡ list_any (key_test k) keys → IsTrue b ↔ Contains (function_names recorded) f
key_recorded keys recorded k f b same is test = (
  λ h. subst (Contains (function_names recorded)) is ((same (function_key k)).0 ((any_key k keys).0 (sym test ∙ h))),
  λ h. test ∙ (any_key k keys).1 ((same (function_key k)).1 (subst (Contains (function_names recorded)) (sym is) h)),
)

-- the functions of exports that are gone through
pub record NamesProgress (all rest : List (String Global × Export)) (keys : List Key) : Type 0 where
  pub passed : ExportRecord
  pub names : AreNamesOf keys passed
  pub split : passed ++ map export_entry rest ≡ map export_entry all

pub names_start : (all rest : List (String Global × Export)) (keys : List Key) → rest ≡ all → keys ≡ [] → NamesProgress all rest keys
names_start all rest keys same none = record {
  passed = [];
  names = subst (λ z. AreNamesOf z []) (sym none) (λ f. (λ h. h, λ h. h));
  split = ap (map export_entry) same;
}

pub names_next : (all left rest : List (String Global × Export)) (e : String Global × Export) (old new : List Key) → (p : NamesProgress all left old)
    → left ≡ e ∷ rest → AreNamesOf new (p.passed ++ export_entry e ∷ []) → NamesProgress all rest new
names_next all left rest e old new p is same = record {
  passed = p.passed ++ export_entry e ∷ [];
  names = same;
  split = append_assoc p.passed (export_entry e ∷ []) (map export_entry rest) ∙ (ap (λ z. p.passed ++ map export_entry z) (sym is) ∙ p.split);
}

pub names_end : (all left : List (String Global × Export)) (keys : List Key) → NamesProgress all left keys → left ≡ [] → AreNamesOf keys (map export_entry all)
names_end all left keys p none = subst (AreNamesOf keys) (sym (append-nil p.passed) ∙ (ap (λ z. p.passed ++ map export_entry z) (sym none) ∙ p.split)) p.names

-- what holds of all that is left, and of all
pub record AllLeft {X : Type 0} (P : X → Type 0) (all rest : List X) : Type 0 where
  pub to : All P rest → All P all
  pub from : All P all → All P rest

pub all_start : {X : Type 0} (P : X → Type 0) (all rest : List X) → rest ≡ all → AllLeft P all rest
all_start P all rest is = subst (λ z. AllLeft P all z) (sym is) (record { to = λ h. h; from = λ h. h })

pub all_next : {X : Type 0} (P : X → Type 0) (all left rest : List X) (x : X) → AllLeft P all left → left ≡ x ∷ rest → P x → AllLeft P all rest
all_next P all left rest x p is here =
    let q : AllLeft P all (x ∷ rest) = subst (AllLeft P all) is p in
    record { to = λ h. q.to (All-cons P x rest here h); from = λ h. All-tail P x rest (q.from h) }

pub all_fails : {X : Type 0} (P : X → Type 0) (all left rest : List X) (x : X) → AllLeft P all left → left ≡ x ∷ rest → ¬ P x → ¬ All P all
all_fails P all left rest x p is not_here h = let q : AllLeft P all (x ∷ rest) = subst (AllLeft P all) is p in not_here (All-head P x rest (q.from h))

pub all_end : {X : Type 0} (P : X → Type 0) (all left : List X) → AllLeft P all left → left ≡ [] → All P all
all_end P all left p is = (subst (AllLeft P all) is p).to (All-nil P)

-- one more of a module's exports
pub typed_next : (m : ModuleValue) (exports : List RawExport) (i : ℕ) (x : RawExport) (ty : ExternType) (index : List (List ℕ × FuncTypeValue))
    → i < length exports → x ≡ get_or exports i x → item_type m x.kind x.index ≡ Some ty
    → IsIndexOf index (filter_map typed_name (core_exports m (map export_value (take i exports))) ++ option_to_list (typed_name (core_export x.name.now ty)))
    → IsIndexOf index (filter_map typed_name (core_exports m (map export_value (take (i + 1) exports))))
unfolding core_exports
typed_next m exports i x ty index below is typed same = subst (IsIndexOf index) (sym more) same where
  next : map export_value (take (i + 1) exports) ≡ map export_value (take i exports) ++ export_value x ∷ []
  next =
      ap (map export_value) (take_more exports i x below) ∙ (map-append export_value (take i exports) (get_or exports i x ∷ [])
      ∙ ap (λ z. map export_value (take i exports) ++ export_value z ∷ []) (sym is))

  one : filter_map (typed_export m) (export_value x ∷ []) ≡ core_export x.name.now ty ∷ []
  one = ap (λ (o : Option ExternType). cons_option (option_map (core_export x.name.now) o) []) typed

  last : (o : Option (List ℕ × FuncTypeValue)) → cons_option o [] ≡ option_to_list o
  last None = refl
  last (Some y) = refl

  more : filter_map typed_name (core_exports m (map export_value (take (i + 1) exports))) ≡ filter_map typed_name
      (core_exports m (map export_value (take i exports))) ++ option_to_list (typed_name (core_export x.name.now ty))
  more =
      ap (λ z. filter_map typed_name (filter_map (typed_export m) z)) next
      ∙ (ap (filter_map typed_name) (filter_map-append (typed_export m) (map export_value (take i exports)) (export_value x ∷ [])
      ∙ ap (λ z. filter_map (typed_export m) (map export_value (take i exports)) ++ z) one)
      ∙ (filter_map-append typed_name (filter_map (typed_export m) (map export_value (take i exports))) (core_export x.name.now ty ∷ [])
      ∙ ap (λ z. filter_map typed_name (filter_map (typed_export m) (map export_value (take i exports))) ++ z) (last (typed_name (core_export x.name.now ty)))))

-- an index of texts by references
typed_there : (es : List (Text × Bor FuncType)) (m : List ℕ)
    → option_map (λ (t : Bor FuncType). func_type_value t.now) (lookup (is_text m) es) ≡ lookup (bytes_eq m) (map typed_entry es)
typed_there es m = lookup_viewed (λ (k : Text). k.now) (λ (t : Bor FuncType). func_type_value t.now) (is_text m) (bytes_eq m) (λ k. refl) es

pub typed_added : (es new : List (Text × Bor FuncType)) (k : Text) (t : Bor FuncType) (known : Bool) (passed : List (List ℕ × FuncTypeValue))
    → new ≡ insert_entry (λ x. is_text x.now) es k t → known ≡ is_some (lookup (is_text k.now) es) → known ≡ false
    → IsIndexOf (map typed_entry es) passed → IsIndexOf (map typed_entry new) (passed ++ (k.now, func_type_value t.now) ∷ [])
typed_added es new k t known passed put is absent same =
    subst (λ z. IsIndexOf z (passed ++ (k.now, func_type_value t.now) ∷ []))
    (sym (ap (map typed_entry) (put ∙ text_added es k t (sym is ∙ absent)) ∙ map-append typed_entry es ((k, t) ∷ [])))
    (index_more (map typed_entry es) passed k.now (func_type_value t.now) same)

pub typed_passed : (es : List (Text × Bor FuncType)) (k : List ℕ) (t : FuncTypeValue) (known : Bool) (passed : List (List ℕ × FuncTypeValue))
    → known ≡ is_some (lookup (is_text k) es) → known ≡ true
    → IsIndexOf (map typed_entry es) passed → IsIndexOf (map typed_entry es) (passed ++ (k, t) ∷ [])
typed_passed es k t known passed is present same =
    index_kept (map typed_entry es) passed k t same (ap is_some (sym (typed_there es k))
    ∙ (is_some_map (λ (t : Bor FuncType). func_type_value t.now) (lookup (is_text k) es) ∙ (sym is ∙ present)))

-- the type of the function of a name
pub typed_found : (es : List (Text × Bor FuncType)) (m : List ℕ) (o : Option (Bor FuncType)) (passed : List (List ℕ × FuncTypeValue))
    → o ≡ lookup (is_text m) es → IsIndexOf (map typed_entry es) passed
    → lookup (bytes_eq m) passed ≡ option_map (λ (t : Bor FuncType). func_type_value t.now) o
typed_found es m o passed is same = sym (same m) ∙ (sym (typed_there es m) ∙ ap (option_map (λ (t : Bor FuncType). func_type_value t.now)) (sym is))

pub index_none : (es : List (Text × Bor FuncType)) (m : ModuleValue) → es ≡ [] → IsIndexOf (map typed_entry es) (filter_map typed_name (core_exports m []))
unfolding core_exports
index_none es m none = subst (λ z. IsIndexOf (map typed_entry z) []) (sym none) (λ name. refl)

-- a key, as the function that is shown
pub key_shown : (interface : Option InterfaceId) (name : List ℕ) (k : String Global) → string_bytes k ≡ name
    → Some (function_key (interface, k)) ≡ Some (option_map (λ (id : InterfaceId). id.0) interface, name)
key_shown interface name k is = ap (λ (z : List ℕ). Some (option_map (λ (id : InterfaceId). id.0) interface, z)) is
