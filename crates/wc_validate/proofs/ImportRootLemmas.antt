-- Kinds of names: functions of the world and of interfaces, and groups of kinds.
use Rattle.std.proofs.Common.{◌≡◌, ℕ, Bool, true, false, is_some, List, [], ◌∷◌, ◌++◌, map, Option, Some, None, Result, Ok, Err, inl, inr, refl, sym, ap, subst, ◌∙◌}
use Rattle.wc_read.specs.Types.{FuncTypeValue}
use Rattle.wc_resolve.specs.declared.functions.AbiVariant.{AbiVariant}
use Rattle.wc_resolve.specs.Views.{plain_key}
use Rattle.wc_names.specs.declared.imports.Import.{Import}
use Rattle.wc_names.specs.First.{FirstOf}
use Rattle.wc_names.specs.Imports.{NameScope, root_builtin, root_function, root_intrinsic, root_other_item, root_unknown, IsKind, NamesFunctionAs, function_type, import_abi}
use Rattle.wc_names.specs.Keys.{Scope, world_scope, item_under}
use Rattle.wc_names.specs.Meanings.{Meaning, means, refuses, root_not_function}
use Rattle.wc_names.specs.Mangling.{Scheme, root_module}
use Rattle.wc_validate.specs.Classifications.{FaultKind, IsClassification, IsImportClassification, of_imports}
use Rattle.wc_names.specs.WitIntrinsics.{wit_intrinsics, IsWitIntrinsic}
use Rattle.wc_names.proofs.MeaningLemmas.{function_unique}
use Rattle.wc_names.proofs.SearchLemmas.{NoneOf, none_of}
use Rattle.wc_validate.proofs.ClassificationLemmas.{classified_as, group_err, group_some}
use Rattle.wc_validate.specs.Private.Imports.Builtins.{IsAnyBuiltin, MeansBuiltin}
use Rattle.wc_validate.specs.Private.Imports.Lookups.{LookupScope}
use Rattle.wc_validate.specs.Private.Imports.Kinds.{MeansFunction, MeansIntrinsic, function_import}
use Rattle.wc_validate.specs.NameScope.{imported_function}

-- the lookup scope of the imports or exports of the world that names are looked up in
abbrev pub lookup_scope_in : NameScope → Bool → Scope → LookupScope
lookup_scope_in e imported scope = record { resolve = e.resolve; world = e.world; imported = imported; scope = scope }

-- the first of other kinds that hold of the same
pub first_mapped : {K L O : Type 0} (H : K → O → Type 0) (G : L → O → Type 0) (f : K → L) → ((k : K) (o : O) → H k o → G (f k) o)
    → ((k : K) (o : O) → G (f k) o → H k o) → (ks : List K) (o : O)
    → FirstOf H ks o → FirstOf G (map f ks) o
first_mapped H G f to from [] o h = absurd h
first_mapped H G f to from (k ∷ ks) o (inl h) = inl (to k o h)
first_mapped H G f to from (k ∷ ks) o (inr h) = inr (λ p g. h.0 p (from k p g), first_mapped H G f to from ks o h.1)

pub first_unmapped : {K L O : Type 0} (H : K → O → Type 0) (G : L → O → Type 0) (f : K → L) → ((k : K) (o : O) → H k o → G (f k) o)
    → ((k : K) (o : O) → G (f k) o → H k o) → (ks : List K) (o : O)
    → FirstOf G (map f ks) o → FirstOf H ks o
first_unmapped H G f to from [] o h = absurd h
first_unmapped H G f to from (k ∷ ks) o (inl g) = inl (from k o g)
first_unmapped H G f to from (k ∷ ks) o (inr g) = inr (λ p h. g.0 p (to k p h), first_unmapped H G f to from ks o g.1)

-- the classification by other kinds that hold of the same
pub classified_mapped : {F K L : Type 0} (kind : F → FaultKind) (H : K → Meaning → Type 0) (G : L → Meaning → Type 0) (f : K → L)
    → ((k : K) (m : Meaning) → H k m → G (f k) m) → ((k : K) (m : Meaning) → G (f k) m → H k m)
    → (ks : List K) (ty : FuncTypeValue) (r : Result (Option Import) F) → IsImportClassification kind (FirstOf H ks) ty r
    → IsImportClassification kind (FirstOf G (map f ks)) ty r
classified_mapped kind H G f to from ks ty r v =
    classified_as of_imports kind (FirstOf H ks) (FirstOf G (map f ks)) ty r (λ m h. first_mapped H G f to from ks m h)
    (λ m g. first_unmapped H G f to from ks m g) v

-- kinds that hold of nothing
pub none_mapped : {K L O : Type 0} (G : L → O → Type 0) (f : K → L) → ((k : K) (o : O) → ¬ G (f k) o) → (ks : List K) → NoneOf G (map f ks)
none_mapped G f none [] = tt
none_mapped G f none (k ∷ ks) = (none k, none_mapped G f none ks)

pub none_append : {K O : Type 0} (H : K → O → Type 0) (xs ys : List K) → NoneOf H xs → NoneOf H ys → NoneOf H (xs ++ ys)
none_append H [] ys a b = b
none_append H (x ∷ xs) ys a b = (a.0, none_append H xs ys a.1 b)

-- the classification of a first group that is of something
pub group_total : {F K : Type 0} (kind : F → FaultKind) (H : K → Meaning → Type 0) (xs ys : List K) (ty : FuncTypeValue) (r : Result (Option Import) F)
    → ¬ NoneOf H xs → IsImportClassification kind (FirstOf H xs) ty r
    → IsImportClassification kind (FirstOf H (xs ++ ys)) ty r
unfolding IsClassification
group_total kind H xs ys ty (Ok None) some v = absurd (some (none_of H xs v))
group_total kind H xs ys ty (Ok (Some i)) some v = group_some of_imports kind H xs ys ty (Some i) v refl
group_total kind H xs ys ty (Err f) some v = group_err of_imports kind H xs ys ty f v

module _ {F : Type 0} (kind : F → FaultKind) (s : Scheme) (e : NameScope) (name : List ℕ) (ty : FuncTypeValue) where
  -- the function of the world that a name is of
  pub of_root_function : (function : List ℕ) (abi : AbiVariant) (r : Result (Option Import) F) → NamesFunctionAs s function abi name
      → IsImportClassification kind (MeansFunction (lookup_scope_in e true world_scope) function abi) ty r
      → IsImportClassification kind (IsKind s e (imported_function (root_module s) name ty) root_function) ty r
  of_root_function function abi r named v = classified_as of_imports kind _ _ ty r (λ m h. to m h) (λ m h. from m h) v where
    to : (m : Meaning) → MeansFunction (lookup_scope_in e true world_scope) function abi m
        → IsKind s e (imported_function (root_module s) name ty) root_function m
    to m h = (
      refl,
      named.0,
      function,
      h.0,
      named.1,
      h.1,
      h.2 ∙ ap (λ z. means (function_import world_scope function h.0.name z)
          (Some (function_type e.resolve z h.0))) named.2,
    )

    from : (m : Meaning) → IsKind s e (imported_function (root_module s) name ty) root_function m
        → MeansFunction (lookup_scope_in e true world_scope) function abi m
    from m h =
        let same = function_unique s named.0 h.1 function h.2 name named.1 h.4 in
        subst (λ z. MeansFunction (lookup_scope_in e true world_scope) z abi m) (sym same.1) (
          h.3,
          h.5,
          h.6 ∙ ap (λ z. means (function_import world_scope h.2 h.3.name z) (Some (function_type e.resolve z h.3)))
              (ap import_abi (sym same.0) ∙ sym named.2),
        )

  -- built-ins of the root
  pub of_root_intrinsics : (r : Result (Option Import) F)
      → IsImportClassification kind (MeansIntrinsic s (lookup_scope_in e true world_scope) (wit_intrinsics true) name) ty r
      → IsImportClassification kind (FirstOf (IsKind s e (imported_function (root_module s) name ty)) (map root_intrinsic (wit_intrinsics true))) ty r
  of_root_intrinsics r v =
      classified_mapped kind (IsWitIntrinsic s e.resolve e.world true world_scope name) (IsKind s e (imported_function (root_module s) name ty)) root_intrinsic
      (λ k m h. (refl, h)) (λ k m h. h.1) (wit_intrinsics true) ty r v

  -- nothing is imported under the name
  pub no_other_item : (function : List ℕ) (abi : AbiVariant) → NamesFunctionAs s function abi name
      → is_some (item_under e.world.imports (plain_key function)) ≡ false
      → (m : Meaning) → ¬ IsKind s e (imported_function (root_module s) name ty) root_other_item m
  no_other_item function abi named none m h =
      let same = function_unique s named.0 h.1 function h.2 name named.1 h.3 in
      let there : true ≡ false = sym (subst (λ z. is_some (item_under e.world.imports (plain_key z)) ≡ true) (sym same.1) h.4) ∙ none in
      let bad : ⊥ = cc there in bad

  -- built-ins of no interface
  pub of_root_builtin : (r : Result (Option Import) F) → IsImportClassification kind (MeansBuiltin IsAnyBuiltin s name) ty r
      → IsImportClassification kind (IsKind s e (imported_function (root_module s) name ty) root_builtin) ty r
  of_root_builtin r v = classified_as of_imports kind _ _ ty r (λ m h. (refl, h.0, h.2, h.3)) (λ m h. (h.1, tt, h.2, h.3)) v

-- something is imported under the name
pub other_item : (s : Scheme) (e : NameScope) (name : List ℕ) (ty : FuncTypeValue) (function : List ℕ) (abi : AbiVariant) → NamesFunctionAs s function abi name
    → is_some (item_under e.world.imports (plain_key function)) ≡ true
    → FirstOf (IsKind s e (imported_function (root_module s) name ty)) (root_other_item ∷ root_unknown ∷ []) (refuses root_not_function)
other_item s e name ty function abi named there = inl (refl, named.0, function, named.1, there, refl)
