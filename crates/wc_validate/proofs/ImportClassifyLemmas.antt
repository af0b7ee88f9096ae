-- What imports are by the rules of no scheme, and by those of the schemes.
use Rattle.std.proofs.Common.{◌≡◌, ℕ, Bool, true, false, List, [], ◌∷◌, map, length, cond, is_some, String, string_bytes, Option, Some, None, Result, Ok, Err, IsErrAnd, Contains, inl, inr, refl, sym, ap, subst, ◌∙◌, codes, arith}
use Rattle.std.specs.Map.{lookup}
use Rattle.std.specs.Option.{IfSome}
use Rattle.std.specs.Str.{bytes_eq}
use Rattle.std.specs.declared.alloc.Global.{Global}
use Rattle.std.proofs.lemmas.Slice.Eq.{bytes_eq-Decides}
use Rattle.wc_adapters.specs.declared.adapters.Adapter.{Adapter}
use Rattle.wc_maps.proofs.ListLemmas.{contains_cons, contains_head, contains_none, contains_tail}
use Rattle.wc_read.specs.declared.types.MemoryType.{MemoryType}
use Rattle.wc_read.specs.declared.exports.ExportKind.{ExportKind}
use Rattle.wc_read.specs.Types.{FuncTypeValue, names_types}
use Rattle.wc_names.specs.declared.imports.Import.{Import}
use Rattle.wc_names.specs.Environment.{environment_module}
use Rattle.wc_names.specs.First.{FirstOf}
use Rattle.wc_names.specs.Imports.{Classified, NameScope, ExternType, adapter_meaning, func_type, memory_type, extern_kind, kinds, IsReadBy, main_memory, main_item, not_function, adapter_function, by_scheme, rules, IsFunction, IsRule}
use Rattle.wc_names.specs.Meanings.{Meaning, means}
use Rattle.wc_names.specs.Mangling.{Scheme}
use Rattle.wc_validate.specs.Classifications.{FaultKind, out_of_memory, wrong_signature, refused_name, other_fault, IsReason, IsClassification, of_imports}
use Rattle.wc_names.specs.Views.{import_view, main_module_memory, main_module_export, adapter_export}
use Rattle.wc_names.proofs.SearchLemmas.{NoneOf, first_after}
use Rattle.wc_validate.proofs.ClassificationLemmas.{classified_fault, classified_unchecked}
use Rattle.wc_validate.specs.declared.name_fault.NameFault.{NameFault}
use Rattle.wc_validate.specs.declared.name_fault.NameFault.TheVariants.{Memory, NotAFunction, TypedReference}
use Rattle.wc_validate.specs.Fault.{fault_kind}
use Rattle.wc_validate.specs.Private.Imports.Kinds.{MeansAmong, MeansByScheme}
use Rattle.wc_validate.specs.Imports.Classify.{answer_of, core_import, HasSignature, IsClassified, IsSomeClassification, IsNameReason}
use Rattle.wc_validate.specs.NameScope.{adapter_name}
use Rattle.wc_validate.proofs.ImportSchemeLemmas.{of_scheme}

-- a classification by the scheme that reads the module's name
pub decided_by : (e : NameScope) (from name : List ℕ) (ty : FuncTypeValue) (s : Scheme) (rest : List ℕ) (r : Result Import NameFault)
    → IsReadBy e from s rest
    → IsSomeClassification (MeansAmong s e kinds rest name ty) ty r → IsSomeClassification (MeansByScheme e from name ty) ty r
decided_by e from name ty s rest r read v = of_scheme fault_kind e from name ty s rest (answer_of r) read v

pub not_both : (from : List ℕ) → from ≡ environment_module → ¬ (from ≡ codes "__main_module__")
not_both from env main = let e : 3 ≡ 15 = ap length (sym env ∙ main) in let bad : ⊥ = omega (arith, e) in bad

pub failed_import : (e : NameScope) (from name : List ℕ) (ty : ExternType) (r : Result Import NameFault) → IsErrAnd r (λ f. f ≡ Memory)
    → IsClassified e (core_import from name ty) r
unfolding IsClassified
failed_import e from name ty (Ok i) h = absurd h
failed_import e from name ty (Err f) h = subst (λ z. IsNameReason e (core_import from name ty) (fault_kind z)) (sym h) tt

module _ (e : NameScope) (from name : List ℕ) where
  -- the main module's memory
  pub of_main_memory : (ty : MemoryType) (i : Import) → from ≡ environment_module → name ≡ codes "memory" → import_view i ≡ main_module_memory ty
      → IsClassified e (core_import from name (memory_type ty)) (Ok i)
  unfolding IsClassified
  of_main_memory ty i at_env at_memory is = (None, inl (at_env, at_memory, ty, refl, ap (λ z. means z None) is), tt)

  pub not_main_memory : (ty : ExternType) → ¬ ((from ≡ environment_module) × (name ≡ codes "memory")) → (m : Meaning)
      → ¬ IsRule e (core_import from name ty) main_memory m
  not_main_memory ty other m h = other (h.0, h.1)

  -- another export of the main module
  pub of_main_item : (ty : ExternType) (i : Import) (kind : ExportKind) → from ≡ codes "__main_module__" → import_view i ≡ main_module_export name kind
      → extern_kind ty ≡ kind → IsClassified e (core_import from name ty) (Ok i)
  unfolding IsClassified
  of_main_item ty i kind at_main is same =
      (None, inr ((λ m h. not_both from h.0 at_main), inl (at_main, ap (λ z. means z None) (is ∙ ap (main_module_export name) (sym same)))), tt)

  -- no function
  pub of_no_function : (ty : ExternType) → ¬ IsFunction ty → ((m : Meaning) → ¬ IsRule e (core_import from name ty) main_memory m)
      → ¬ (from ≡ codes "__main_module__") → IsClassified e (core_import from name ty) (Err NotAFunction)
  unfolding IsClassified
  of_no_function ty other no_memory not_main = inr (no_memory, inr ((λ m h. not_main h.0), inl (other, refl)))

  module _ (ty : FuncTypeValue) (not_main : ¬ (from ≡ codes "__main_module__")) where
    at_adapter : Contains e.adapters from → (m : Meaning) → m ≡ adapter_meaning from name ty → Classified e (core_import from name (func_type ty)) m
    at_adapter there m is = inr ((λ p h. let bad : ⊥ = cc h.3 in bad), inr ((λ p h. not_main h.0), inr ((λ p h. h.0 (ty, refl)), inl (there, ty, refl, is))))

    no_rule : ¬ Contains e.adapters from → NoneOf (IsRule e (core_import from name (func_type ty)))
        (main_memory ∷ main_item ∷ not_function ∷ adapter_function ∷ [])
    no_rule no_adapter = ((λ m h. let bad : ⊥ = cc h.3 in bad), ((λ m h. not_main h.0), ((λ m h. h.0 (ty, refl)), ((λ m h. no_adapter h.0), tt))))

    after_rules : ¬ Contains e.adapters from → (m : Meaning) → MeansByScheme e from name ty m
        → FirstOf (IsRule e (core_import from name (func_type ty))) rules m
    after_rules no_adapter m h =
        first_after (IsRule e (core_import from name (func_type ty))) (main_memory ∷ main_item ∷ not_function ∷ adapter_function ∷ []) (map by_scheme kinds) m
        (no_rule no_adapter) h

    signature_of : (required_type : Option FuncTypeValue) → IfSome required_type (λ w. ty ≡ w) → HasSignature (func_type ty) required_type
    signature_of None h = tt
    signature_of (Some w) h = ap func_type h

    -- by what the function means, where that is what the import means
    module _ (Means : Meaning → Type 0) (meant : (m : Meaning) → Means m → Classified e (core_import from name (func_type ty)) m) where
      reason_of : (k : FaultKind) → IsReason of_imports Means ty k → IsNameReason e (core_import from name (func_type ty)) k
      reason_of out_of_memory h = tt
      reason_of (wrong_signature (Some wanted)) h = (h.0, meant _ h.1, λ same. h.2 (let one : ty ≡ wanted = cc same in one))
      reason_of (wrong_signature None) h = (h.0, h.1, meant _ h.2, λ same. h.3 (let one : ty ≡ h.1 = cc same in one))
      reason_of (refused_name why) h = meant _ h
      reason_of other_fault h = h

      decided : (r : Result Import NameFault) → IsSomeClassification Means ty r → IsClassified e (core_import from name (func_type ty)) r
      unfolding IsClassified IsClassification
      decided (Ok i) v = (v.0, meant _ v.1, signature_of v.0 v.2)
      decided (Err f) v = reason_of (fault_kind f) v

    -- a function of an adapter
    pub of_adapter : (r : Result Import NameFault) → Contains e.adapters from → IsSomeClassification (λ m. m ≡ adapter_meaning from name ty) ty r
        → IsClassified e (core_import from name (func_type ty)) r
    of_adapter r there v = decided (λ m. m ≡ adapter_meaning from name ty) (at_adapter there) r v

    -- a function by its name
    pub of_function : (r : Result Import NameFault) → ¬ Contains e.adapters from → IsSomeClassification (MeansByScheme e from name ty) ty r
        → IsClassified e (core_import from name (func_type ty)) r
    of_function r no_adapter v = decided (MeansByScheme e from name ty) (after_rules no_adapter) r v

-- a function of an adapter, whose type names types or names none
module _ (from name : List ℕ) (ty : FuncTypeValue) where
  pub plain_function : (i : Import) → names_types ty ≡ false → import_view i ≡ adapter_export from name ty
      → IsSomeClassification (λ m. m ≡ adapter_meaning from name ty) ty (Ok i)
  plain_function i plain is =
      classified_unchecked of_imports fault_kind (λ m. m ≡ adapter_meaning from name ty) i ty (ap (λ z. means z None) is ∙ rw plain refl)

  pub typed_function : names_types ty ≡ true → IsSomeClassification (λ m. m ≡ adapter_meaning from name ty) ty (Err TypedReference)
  typed_function typed = classified_fault of_imports fault_kind (λ m. m ≡ adapter_meaning from name ty) ty TypedReference (rw typed refl)

  pub no_memory : (r : Result Import NameFault) → IsErrAnd r (λ f. f ≡ Memory) → IsSomeClassification (λ m. m ≡ adapter_meaning from name ty) ty r
  no_memory (Ok i) h = absurd h
  no_memory (Err f) h =
      classified_fault of_imports fault_kind (λ m. m ≡ adapter_meaning from name ty) ty f
      (subst (λ z. IsReason of_imports (λ m. m ≡ adapter_meaning from name ty) ty (fault_kind z)) (sym h) tt)

module _ (m : List ℕ) where
  there_step : (e : String Global × Adapter) (es : List (String Global × Adapter)) (b : Bool) → bytes_eq m (string_bytes e.0) ≡ b
      → is_some (cond b (Some e.1) (lookup (λ k. bytes_eq m (string_bytes k)) es)) ≡ true
      → (is_some (lookup (λ k. bytes_eq m (string_bytes k)) es) ≡ true → Contains (map adapter_name es) m) → Contains (adapter_name e ∷ map adapter_name es) m
  there_step e es true is there rest =
      subst (λ z. Contains (adapter_name e ∷ map adapter_name es) z) (sym ((bytes_eq-Decides m (string_bytes e.0)).0 is))
      (contains_head (map adapter_name es) (adapter_name e))
  there_step e es false is there rest = contains_tail (adapter_name e) (map adapter_name es) m (rest there)

  -- an adapter of this name is found
  pub adapter_there : (es : List (String Global × Adapter)) → is_some (lookup (λ k. bytes_eq m (string_bytes k)) es) ≡ true → Contains (map adapter_name es) m
  adapter_there [] there = absurd (let bad : ⊥ = cc there in bad)
  adapter_there (e ∷ es) there = there_step e es (bytes_eq m (string_bytes e.0)) refl there (λ h. adapter_there es h)

  absent_step : (e : String Global × Adapter) (es : List (String Global × Adapter)) (b : Bool) → bytes_eq m (string_bytes e.0) ≡ b
      → is_some (cond b (Some e.1) (lookup (λ k. bytes_eq m (string_bytes k)) es)) ≡ false
      → (is_some (lookup (λ k. bytes_eq m (string_bytes k)) es) ≡ false → ¬ Contains (map adapter_name es) m)
      → Contains (adapter_name e ∷ map adapter_name es) m → ⊥
  absent_step e es true is absent rest h = let bad : ⊥ = cc absent in bad
  absent_step e es false is absent rest h = elim (contains_cons (adapter_name e) (map adapter_name es) m h) [
    | inl same ↦ (let there : true ≡ false = sym ((bytes_eq-Decides m (string_bytes e.0)).1 (sym same)) ∙ is in let bad : ⊥ = cc there in bad)
    | inr later ↦ rest absent later
  ]

  -- or none is
  pub adapter_absent : (es : List (String Global × Adapter)) → is_some (lookup (λ k. bytes_eq m (string_bytes k)) es) ≡ false
      → ¬ Contains (map adapter_name es) m
  adapter_absent [] absent h = contains_none m h
  adapter_absent (e ∷ es) absent h = absent_step e es (bytes_eq m (string_bytes e.0)) refl absent (λ a. adapter_absent es a) h
