-- What an export is for is there.
use Rattle.std.proofs.Common.{◌≡◌, ℕ, Bool, true, false, cond, List, [], ◌∷◌, Option, Some, None, All, inl, inr, refl, sym, ◌∙◌, subst}
use Rattle.std.specs.Prelude.{slice_get}
use Rattle.std.specs.Option.{option_and_then, option_map}
use Rattle.std.specs.Str.{bytes_eq}
use Rattle.std.proofs.lemmas.List.Elements.{All-head, All-tail, All-take}
use Rattle.std.proofs.lemmas.Slice.Eq.{bytes_eq-Decides}
use Rattle.wc_resolve.specs.declared.functions.AbiVariant.{AbiVariant}
use Rattle.wc_resolve.specs.Views.{FunctionView, InterfaceView, KeyView, WorldView, resource_kind}
use Rattle.wc_resolve.specs.WellFormed.{HasMatchingNames, IsWellFormed}
use Rattle.wc_resolve.specs.Kinds.{ResolveView, kind_at}
use Rattle.wc_resolve.proofs.WellFormedLemmas.{all_get}
use Rattle.wc_adapters.specs.Entries.{Entries}
use Rattle.wc_names.specs.declared.export_names.ExportSyntax.{ExportSyntax}
use Rattle.wc_names.specs.declared.export_names.ExportSyntax.TheVariants.{Standard, Legacy}
use Rattle.wc_names.specs.ExportNames.{ExportTarget, HasFunction, HasResource, IsExportedFunction, NamesDestructor, NamesFunctionExport, export_syntax, exported_interface, if_text, interface_function, interface_text, interface_with_text, interfaces_of_text, searched_interfaces, target}
use Rattle.wc_names.specs.Exports.{ClassifiedExport, CoreExport, ExportKind, ExportMeaning, ExportRule, IsExportKind, IsExportRule, any_type, any_type_row, by_export_scheme, AnyTypeName, cabi_export_realloc, cabi_import_realloc, cabi_realloc_adapter, callback, callback_export, canonical_abi_realloc, destructor, export_rules, function, function_export, function_table, initializer, memory, post_return, post_return_export, realloc, task_hook}
use Rattle.wc_names.specs.First.{FirstOf}
use Rattle.wc_names.specs.Imports.{ExternType, NameScope}
use Rattle.wc_names.specs.Interfaces.{FoundInterface}
use Rattle.wc_names.specs.Laws.{IsExportIn, IsInterfaceFunctionIn, IsWorldFunctionIn}
use Rattle.wc_texts.specs.Names.{under_name}
use Rattle.wc_names.specs.Mangling.{Scheme}
use Rattle.wc_names.proofs.ExportIndexLemmas.{all_filtered}
use Rattle.wc_names.proofs.MeaningRangeLemmas.{function_names, listed_names, named_resource}
use Rattle.wc_names.proofs.RangeLemmas.{interface_function_usable, world_function}
use Rattle.wc_names.proofs.KeyLemmas.{lookup_passes}
use Rattle.wc_names.proofs.SearchLemmas.{first_kind}

-- the first of a list is of one that passes
first_passes : {K O : Type 0} (P : K → Type 0) (H : K → O → Type 0) (ks : List K) (o : O) → All P ks → FirstOf H ks o → (k : K) × P k × H k o
first_passes P H [] o all f = absurd f
first_passes P H (k ∷ ks) o all (inl h) = (k, All-head P k ks all, h)
first_passes P H (k ∷ ks) o all (inr h) = first_passes P H ks o (All-tail P k ks all) h.1

-- an interface under its key
abbrev IsUnderKey : Entries → FoundInterface → Type 0
IsUnderKey es found = exported_interface es found.0 ≡ Some found.1

under_key_of_text : (es : Entries) (text : List ℕ) (key : KeyView) (own : Option (List ℕ)) (i : ℕ) (found : FoundInterface) → exported_interface es key ≡ Some i
    → option_and_then (if_text text key) (option_map (λ (t : List ℕ). (t, i)) own) ≡ Some found → IsUnderKey es found
under_key_of_text es text key None i found here is = absurd (let bad : ⊥ = cc is in bad)
under_key_of_text es text key (Some own) i found here is = at (bytes_eq text own) is where
  at : (b : Bool) → cond b (Some (key, i)) None ≡ Some found → IsUnderKey es found
  at true e = subst (IsUnderKey es) (let same : (key, i) ≡ found = cc e in same) here
  at false e = absurd (let bad : ⊥ = cc e in bad)

with_text_under_key : (x : ExportSyntax) (r : ResolveView) (es : Entries) (text : List ℕ) (key : KeyView) (found : FoundInterface)
    → option_and_then (if_text text key) (interface_with_text x r es key) ≡ Some found → IsUnderKey es found
with_text_under_key x r es text key found is = at (exported_interface es key) refl is where
  at : (o : Option ℕ) → exported_interface es key ≡ o
      → option_and_then (if_text text key) (option_and_then (λ (i : ℕ). option_map (λ (t : List ℕ). (t, i)) (interface_text x r key)) o) ≡ Some found
      → IsUnderKey es found
  at None here same = absurd (let bad : ⊥ = cc same in bad)
  at (Some i) here same = under_key_of_text es text key (interface_text x r key) i found here same

module _ (r : ResolveView) (es : Entries) (ks : List KeyView) (text : List ℕ) where
  all_under_keys : (x : ExportSyntax) → All (IsUnderKey es) (interfaces_of_text x r es ks text)
  unfolding interfaces_of_text
  all_under_keys x =
      all_filtered (IsUnderKey es) (λ (key : KeyView). option_and_then (if_text text key) (interface_with_text x r es key)) (with_text_under_key x r es text) ks

  searched_under_keys : (x : ExportSyntax) → All (IsUnderKey es) (searched_interfaces x r es ks text)
  searched_under_keys Standard = All-take (IsUnderKey es) 1 (interfaces_of_text Standard r es ks text) (all_under_keys Standard)
  searched_under_keys Legacy = all_under_keys Legacy

-- a function that is exported
abbrev IsTargetIn : ResolveView → WorldView → KeyView → Option ℕ → FunctionView → Type 0
IsTargetIn r w key None f = IsWorldFunctionIn r w key f
IsTargetIn r w key (Some i) f = IsInterfaceFunctionIn r w key i f

module _ (r : ResolveView) (formed : IsWellFormed r) (index : ℕ) (w : WorldView) (here : slice_get r.worlds index ≡ Some w) where
  own_name : (i : ℕ) (name : List ℕ) (f : FunctionView) → interface_function r i name ≡ Some f → f.name ≡ name
  own_name i name f is = in_interface (slice_get r.interfaces i) refl is where
    in_interface : (o : Option InterfaceView) → slice_get r.interfaces i ≡ o → option_and_then (λ (v : InterfaceView). under_name v.functions name) o ≡ Some f
        → f.name ≡ name
    in_interface None at same = absurd (let bad : ⊥ = cc same in bad)
    in_interface (Some v) at same =
        let found = lookup_passes (λ (x : List ℕ × FunctionView). x.1.name ≡ x.0) (bytes_eq name) v.functions f
        (function_names r v (all_get (HasMatchingNames r) r.interfaces i v (listed_names r formed.keyed) at)) same in
        found.1 ∙ sym ((bytes_eq-Decides name found.0).0 found.2)

  exported_in : (x : ExportSyntax) (ks : List KeyView) (i : Option (List ℕ)) (name : List ℕ) (t : ExportTarget) → IsExportedFunction x r w.exports ks i name t
      → IsTargetIn r w t.key t.interface t.function
  exported_in x ks None name t h =
      subst (λ (z : ExportTarget). IsTargetIn r w z.key z.interface z.function) (sym h.3) (world_function r formed index w here false name h.1 h.2)
  exported_in x ks (Some text) name t h =
      let found =
      first_passes (IsUnderKey w.exports) (HasFunction r name) (searched_interfaces x r w.exports ks text) t (searched_under_keys r w.exports ks text x) h in
      let usable = interface_function_usable r formed index w here false found.0.1 name found.2.0 found.2.1 in
      let listed = subst (λ (z : List ℕ). interface_function r found.0.1 z ≡ Some found.2.0) (sym (own_name found.0.1 name found.2.0 found.2.1)) found.2.1 in
      subst (λ (z : ExportTarget). IsTargetIn r w z.key z.interface z.function) (sym found.2.2) (found.1, usable.0, listed, usable.1)

  target_in : (x : ExportSyntax) (ks : List KeyView) (name : List ℕ) (t : ExportTarget) → NamesFunctionExport x r w.exports ks name t
      → IsTargetIn r w t.key t.interface t.function
  target_in x ks name t h = exported_in x ks h.0 h.1 t h.3

  -- what is recorded of a function that is exported is there
  function_export_in : (abi : AbiVariant) (key : KeyView) (i : Option ℕ) (f : FunctionView) → IsTargetIn r w key i f
      → IsExportIn r w (function_export abi (target key i f))
  function_export_in abi key None f h = (f, refl, h)
  function_export_in abi key (Some i) f h = (f, refl, h)

  post_return_in : (key : KeyView) (i : Option ℕ) (f : FunctionView) → IsTargetIn r w key i f → IsExportIn r w (post_return_export (target key i f))
  post_return_in key None f h = (f, h)
  post_return_in key (Some i) f h = (i, f, refl, h)

  callback_in : (key : KeyView) (i : Option ℕ) (f : FunctionView) → IsTargetIn r w key i f → IsExportIn r w (callback_export (target key i f))
  callback_in key None f h = (f, h)
  callback_in key (Some i) f h = (i, f, refl, h)

  destructor_in : (x : ExportSyntax) (ks : List KeyView) (name : List ℕ) (t : ℕ) → NamesDestructor x r w.exports ks name t
      → kind_at r.types t ≡ Some resource_kind
  destructor_in x ks name t h =
      let found = first_kind (HasResource r h.1) (searched_interfaces x r w.exports ks h.0) t h.3 in
      named_resource r (option_and_then (λ (v : InterfaceView). under_name v.types h.1) (slice_get r.interfaces found.0.1)) t found.1

module _ (e : NameScope) (formed : IsWellFormed e.resolve) (index : ℕ) (here : slice_get e.resolve.worlds index ≡ Some e.world) (keys : List KeyView) where
  -- what an export means is there
  abbrev IsMeaningIn : ExportMeaning → Type 0
  IsMeaningIn m = IsExportIn e.resolve e.world m.export

  kind_in : (s : Scheme) (name : List ℕ) (ty : ExternType) (k : ExportKind) (m : ExportMeaning) → IsExportKind s e keys name ty k m → IsMeaningIn m
  kind_in s name ty memory m x = subst IsMeaningIn (sym x.3) tt
  kind_in s name ty function_table m x = subst IsMeaningIn (sym x.3) tt
  kind_in s name ty realloc m x = subst IsMeaningIn (sym x.3) tt
  kind_in s name ty initializer m x = subst IsMeaningIn (sym x.3) tt
  kind_in s name ty task_hook m x = subst IsMeaningIn (sym x.3) tt
  kind_in s name ty function m x =
      subst IsMeaningIn (sym x.7) (function_export_in e.resolve formed index e.world here x.1 x.3.key x.3.interface x.3.function
      (target_in e.resolve formed index e.world here (export_syntax s) keys x.2 x.3 x.6))
  kind_in s name ty post_return m x =
      subst IsMeaningIn (sym x.9) (post_return_in e.resolve formed index e.world here x.4.key x.4.interface x.4.function
      (target_in e.resolve formed index e.world here (export_syntax s) keys x.3 x.4 x.8))
  kind_in s name ty callback m x =
      subst IsMeaningIn (sym x.6) (callback_in e.resolve formed index e.world here x.2.key x.2.interface x.2.function
      (target_in e.resolve formed index e.world here (export_syntax s) keys x.1 x.2 x.5))
  kind_in s name ty destructor m x = subst IsMeaningIn (sym x.7) (destructor_in e.resolve formed index e.world here (export_syntax s) keys x.2 x.3 x.6)

  any_type_in : (row : AnyTypeName) → IsExportIn e.resolve e.world (any_type_row row).export
  any_type_in canonical_abi_realloc = tt
  any_type_in cabi_import_realloc = tt
  any_type_in cabi_export_realloc = tt
  any_type_in cabi_realloc_adapter = tt

  rule_in : (x : CoreExport) (k : ExportRule) (m : ExportMeaning) → IsExportRule e keys x k m → IsMeaningIn m
  rule_in x any_type m h = subst IsMeaningIn (sym h.2) (any_type_in h.0)
  rule_in x (by_export_scheme k) m h = kind_in h.0 h.1 x.ty k m h.3

  pub classified_export_in : (x : CoreExport) (m : ExportMeaning) → ClassifiedExport e keys x m → IsMeaningIn m
  classified_export_in x m h = let found = first_kind (IsExportRule e keys x) export_rules m h in rule_in x found.0 m found.1
