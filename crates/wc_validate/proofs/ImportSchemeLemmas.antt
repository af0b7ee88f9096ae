-- All kinds of names of imported functions, and the schemes that read them.
use Rattle.std.proofs.Common.{◌≡◌, ℕ, Bool, true, false, not, IsTrue, List, [], ◌∷◌, ◌++◌, map, if◌then◌else◌, Option, Some, None, Result, Ok, Err, inl, inr, refl, sym, ap, subst, ◌∙◌}
use Rattle.std.proofs.lemmas.List.{append_cancel_left}
use Rattle.wc_read.specs.Types.{FuncTypeValue}
use Rattle.wc_names.specs.declared.imports.Import.{Import}
use Rattle.wc_names.specs.Environment.{environment_module, names_value_type, NamesEnvironment}
use Rattle.wc_names.specs.Views.{ImportView, import_view}
use Rattle.wc_names.specs.Imports.{NameScope, Kind, root_intrinsic, root_other_item, root_unknown, environment, export_root_intrinsic, without_prefix, kinds, IsKind, IsReadBy, by_scheme, func_type, IsRule}
use Rattle.wc_names.specs.Meanings.{Meaning, refuses, no_root_import, typed_reference, unknown_intrinsic}
use Rattle.wc_names.specs.Mangling.{Scheme, standard, legacy, marker, root_module, interface_prefix, export_prefix}
use Rattle.wc_names.specs.Keys.{world_scope}
use Rattle.wc_validate.specs.Classifications.{FaultKind, IsReason, refused_name, IsImportClassification, of_imports}
use Rattle.wc_names.specs.WitIntrinsics.{wit_intrinsics, IsWitIntrinsic}
use Rattle.wc_names.proofs.SearchLemmas.{NoneOf, not_first}
use Rattle.wc_validate.proofs.ClassificationLemmas.{group_next, classified_fault, classified_next, classified_nothing, classified_unchecked}
use Rattle.wc_validate.specs.Private.Imports.Kinds.{MeansAmong, MeansByScheme, MeansEnvironment, MeansIntrinsic, export_kinds, export_root_kinds, interface_kinds, other_kinds, root_kinds}
use Rattle.wc_validate.specs.NameScope.{imported_function}
use Rattle.wc_validate.proofs.ImportRootLemmas.{lookup_scope_in, group_total, none_append, none_mapped, classified_mapped}

module _ {F : Type 0} (kind : F → FaultKind) (s : Scheme) (e : NameScope) (name : List ℕ) (ty : FuncTypeValue) where
  root_named : ¬ NoneOf (IsKind s e (imported_function (root_module s) name ty)) root_kinds
  root_named none = none.1.1.1.1.1.0 (refuses no_root_import) (refl, refl)

  -- the classification of a name from the root is that on all kinds
  pub of_root : (from : List ℕ) (r : Result (Option Import) F) → from ≡ root_module s
      → IsImportClassification kind (MeansAmong s e root_kinds (root_module s) name ty) ty r
      → IsImportClassification kind (MeansAmong s e kinds from name ty) ty r
  of_root from r is v =
      subst (λ z. IsImportClassification kind (MeansAmong s e kinds z name ty) ty r) (sym is)
      (group_total kind (IsKind s e (imported_function (root_module s) name ty)) root_kinds (environment ∷ (export_root_kinds ++ other_kinds))
      ty r root_named v)

  no_root : (from : List ℕ) → ¬ (from ≡ root_module s) → NoneOf (IsKind s e (imported_function from name ty)) root_kinds
  no_root from other = (
    λ m h. other h.0,
    (
      λ m h. other h.0,
      none_append (IsKind s e (imported_function from name ty)) (map root_intrinsic (wit_intrinsics true)) (root_other_item ∷ root_unknown ∷ [])
          (none_mapped (IsKind s e (imported_function from name ty)) root_intrinsic (λ k m h. other h.0) (wit_intrinsics true))
          (λ m h. other h.0, (λ m h. other h.0, tt)),
    ),
  )

  -- from another module than the root
  pub of_other : (from : List ℕ) (r : Result (Option Import) F) → ¬ (from ≡ root_module s)
      → IsImportClassification kind (MeansAmong s e (environment ∷ (export_root_kinds ++ other_kinds)) from name ty) ty r
      → IsImportClassification kind (MeansAmong s e kinds from name ty) ty r
  of_other from r other v =
      let H = IsKind s e (imported_function from name ty) in
      group_next of_imports kind H root_kinds (environment ∷ (export_root_kinds ++ other_kinds)) ty r (λ m f. not_first H root_kinds m (no_root from other) f) v

  -- built-ins of the root of exports
  pub of_export_root : (from : List ℕ) (r : Result (Option Import) F) → from ≡ export_prefix s ++ root_module s
      → IsImportClassification kind (MeansIntrinsic s (lookup_scope_in e false world_scope) (wit_intrinsics false) name) ty r
      → IsImportClassification kind (MeansAmong s e export_root_kinds from name ty) ty r
  of_export_root from r is v =
      classified_mapped kind (IsWitIntrinsic s e.resolve e.world false world_scope name) (IsKind s e (imported_function from name ty)) export_root_intrinsic
      (λ k m h. (is, h)) (λ k m h. h.1) (wit_intrinsics false) ty r v

  pub no_export_root : (from : List ℕ) → ¬ (from ≡ export_prefix s ++ root_module s) → (m : Meaning) → ¬ MeansAmong s e export_root_kinds from name ty m
  no_export_root from other m f =
      not_first (IsKind s e (imported_function from name ty)) export_root_kinds m
      (none_mapped (IsKind s e (imported_function from name ty)) export_root_intrinsic (λ k m h. other h.0) (wit_intrinsics false)) f

  -- the module's name begins as those of interfaces do
  pub has_prefix : (from text : List ℕ) → from ≡ interface_prefix s ++ text → (m : Meaning) → ¬ IsKind s e (imported_function from name ty) without_prefix m
  has_prefix from text is m h = h.0 text is

  export_named : (text : List ℕ) → ¬ NoneOf (IsKind s e (imported_function (interface_prefix s ++ (export_prefix s ++ text)) name ty)) export_kinds
  export_named text none = none.1.1.1.1.1.1.1.1.0 (refuses unknown_intrinsic) (text, refl, refl)

  pub of_export_module : (from text : List ℕ) (r : Result (Option Import) F) → from ≡ interface_prefix s ++ (export_prefix s ++ text)
      → IsImportClassification kind (MeansAmong s e export_kinds (interface_prefix s ++ (export_prefix s ++ text)) name ty) ty r
      → IsImportClassification kind (MeansAmong s e other_kinds from name ty) ty r
  of_export_module from text r is v =
      let module_name = interface_prefix s ++ (export_prefix s ++ text) in
      let H = IsKind s e (imported_function module_name name ty) in
      subst (λ z. IsImportClassification kind (MeansAmong s e other_kinds z name ty) ty r) (sym is)
      (classified_next of_imports kind H without_prefix (export_kinds ++ interface_kinds) ty r (has_prefix module_name (export_prefix s ++ text) refl)
      (group_total kind H export_kinds interface_kinds ty r (export_named text) v))

  pub of_import_module : (from text : List ℕ) (r : Result (Option Import) F) → from ≡ interface_prefix s ++ text
      → NoneOf (IsKind s e (imported_function (interface_prefix s ++ text) name ty)) export_kinds
      → IsImportClassification kind (MeansAmong s e interface_kinds (interface_prefix s ++ text) name ty) ty r
      → IsImportClassification kind (MeansAmong s e other_kinds from name ty) ty r
  of_import_module from text r is none v =
      let module_name = interface_prefix s ++ text in
      let H = IsKind s e (imported_function module_name name ty) in
      subst (λ z. IsImportClassification kind (MeansAmong s e other_kinds z name ty) ty r) (sym is)
      (classified_next of_imports kind H without_prefix (export_kinds ++ interface_kinds) ty r (has_prefix module_name text refl)
      (group_next of_imports kind H export_kinds interface_kinds ty r (λ m f. not_first H export_kinds m none f) v))

-- one scheme reads a module's name
read_unique : (e : NameScope) (from : List ℕ) (s t : Scheme) (x y : List ℕ) → IsReadBy e from s x → IsReadBy e from t y → (s ≡ t) × (x ≡ y)
read_unique e from s t x y (inl a) (inl b) = (a.1 ∙ sym b.1, append_cancel_left marker x y (sym a.0 ∙ b.0))
read_unique e from s t x y (inl a) (inr b) = absurd (b.0 x a.0)
read_unique e from s t x y (inr a) (inl b) = absurd (a.0 y b.0)
read_unique e from s t x y (inr a) (inr b) = (a.2 ∙ sym b.2, a.1 ∙ sym b.1)

-- the classification by the scheme that reads the module's name
pub of_scheme : {F : Type 0} (kind : F → FaultKind) (e : NameScope) (from name : List ℕ) (ty : FuncTypeValue) (s : Scheme) (rest : List ℕ)
    (r : Result (Option Import) F) → IsReadBy e from s rest
    → IsImportClassification kind (MeansAmong s e kinds rest name ty) ty r → IsImportClassification kind (MeansByScheme e from name ty) ty r
of_scheme kind e from name ty s rest r read v =
    classified_mapped kind (IsKind s e (imported_function rest name ty)) (IsRule e (record { from = from; name = name; ty = func_type ty })) by_scheme
    (λ k m h. (ty, s, rest, refl, read, h)) (λ k m h. back k m h) kinds ty r v where
      back : (k : Kind) (m : Meaning) → IsRule e (record { from = from; name = name; ty = func_type ty }) (by_scheme k) m
          → IsKind s e (imported_function rest name ty) k m
      back k m h =
          let same_type : h.0 ≡ ty = let both : func_type ty ≡ func_type h.0 = h.3 in let one : ty ≡ h.0 = cc both in sym one in
          let same = read_unique e from h.1 s h.2 rest h.4 read in
          subst (λ z. IsKind s e (imported_function rest name z) k m) same_type
          (subst (λ z. IsKind s e (imported_function z name h.0) k m) same.1 (subst (λ z. IsKind z e (imported_function h.2 name h.0) k m) same.0 h.5))

-- a text that begins with a scheme's prefix
pub begins : (from prefix known rest : List ℕ) → prefix ≡ known → from ≡ prefix ++ rest → from ≡ known ++ rest
begins from prefix known rest same is = is ∙ ap (λ z. z ++ rest) same

pub begins_not : (from prefix known : List ℕ) → prefix ≡ known → ((rest : List ℕ) → ¬ (from ≡ prefix ++ rest)) → (rest : List ℕ) → ¬ (from ≡ known ++ rest)
begins_not from prefix known same none rest is = none rest (is ∙ ap (λ z. z ++ rest) (sym same))

-- functions of the environment
module _ {F : Type 0} (kind : F → FaultKind) (s : Scheme) (from name : List ℕ) (ty : FuncTypeValue) where
  pub no_environment : ((i : ImportView) → ¬ NamesEnvironment s name ty i) → IsImportClassification kind (MeansEnvironment s from name ty) ty (Ok None)
  no_environment none = classified_nothing of_imports kind (MeansEnvironment s from name ty) ty (λ m h. none h.1 h.2)

  module _ (i : Import) (is : from ≡ environment_module) (named : NamesEnvironment s name ty (import_view i)) where
    pub of_environment : names_value_type (import_view i) ≡ false → IsImportClassification kind (MeansEnvironment s from name ty) ty (Ok (Some i))
    of_environment plain = classified_unchecked of_imports kind (MeansEnvironment s from name ty) i ty (is, import_view i, named, rw plain refl)

    pub typed_environment : (f : F) → kind f ≡ refused_name typed_reference → names_value_type (import_view i) ≡ true
        → IsImportClassification kind (MeansEnvironment s from name ty) ty (Err f)
    typed_environment f refused typed =
        classified_fault of_imports kind (MeansEnvironment s from name ty) ty f
        (subst (IsReason of_imports (MeansEnvironment s from name ty) ty) (sym refused) (is, import_view i, named, rw typed refl))

    pub kept_environment : (f : F) → kind f ≡ refused_name typed_reference → (b : Bool) → names_value_type (import_view i) ≡ b → (r : Result (Option Import) F)
        → (IsTrue (not b) → r ≡ Ok (Some i))
        → (not b ≡ false → r ≡ Err f) → IsImportClassification kind (MeansEnvironment s from name ty) ty r
    kept_environment f refused true typed r kept unkept =
        subst (IsImportClassification kind (MeansEnvironment s from name ty) ty) (sym (unkept refl)) (typed_environment f refused typed)
    kept_environment f refused false plain r kept unkept =
        subst (IsImportClassification kind (MeansEnvironment s from name ty) ty) (sym (kept refl)) (of_environment plain)

-- the scheme of names without the marker
pub scheme_is : (hook : List ℕ) (a b : Bool) → a ≡ b → (if a then standard else legacy hook) ≡ (if b then standard else legacy hook)
scheme_is hook a b same = ap (λ z. if z then standard else legacy hook) same
