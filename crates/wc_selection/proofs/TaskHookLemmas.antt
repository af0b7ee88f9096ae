-- No export is the task hook, where this has the name of the initialiser.
use Rattle.std.proofs.Common.{◌≡◌, ℕ, Bool, true, false, true≢false, List, [], ◌∷◌, map, Option, Some, None, inl, inr, refl, sym, ap, ◌∙◌}
use Rattle.std.specs.Option.{option_map_or}
use Rattle.wc_read.specs.Types.{FuncTypeValue}
use Rattle.wc_resolve.specs.declared.functions.AbiVariant.{AbiVariant}
use Rattle.wc_resolve.specs.Views.{KeyView}
use Rattle.wc_names.specs.Builtins.{signature}
use Rattle.wc_names.specs.ExportViews.{ExportView, exported_func, exported_func_callback, exported_func_post_return, exported_interface_func, exported_interface_func_callback, exported_interface_func_post_return, initialize, wasm_task_hook}
use Rattle.wc_names.specs.Exports.{AnyTypeName, ClassifiedExport, CoreExport, ExportKind, ExportMeaning, IsExportReadBy, IsExportRule, any_type, any_type_row, by_export_scheme, cabi_export_realloc, cabi_import_realloc, cabi_realloc_adapter, callback, callback_export, canonical_abi_realloc, destructor, export_kinds, function, function_export, function_table, initializer, is_export, memory, post_return, post_return_export, realloc, task_hook}
use Rattle.wc_names.specs.First.{FirstOf}
use Rattle.wc_names.specs.Imports.{NameScope}
use Rattle.wc_names.specs.Mangling.{Scheme, initialize_name, task_hook_name}
use Rattle.wc_selection.specs.TaskHook.{NoExportIsHook, no_task_hook}

-- the task hook, and nothing else
abbrev is_hook : ExportView → Bool
is_hook wasm_task_hook = true
is_hook x = false

not_hook : (m : ExportMeaning) (x : ExportView) (own ty : Option FuncTypeValue) → m ≡ is_export wasm_task_hook ty → m ≡ is_export x own → is_hook x ≡ false → ⊥
not_hook m x own ty hook other none = true≢false (ap (λ (z : ExportMeaning). is_hook z.export) (sym hook ∙ other) ∙ none)

no_row : (row : AnyTypeName) → is_hook (any_type_row row).export ≡ false
no_row canonical_abi_realloc = refl
no_row cabi_import_realloc = refl
no_row cabi_export_realloc = refl
no_row cabi_realloc_adapter = refl

no_function : (key : KeyView) (name : List ℕ) (abi : AbiVariant) (interface : Option ℕ)
    → is_hook (option_map_or (λ (i : ℕ). exported_interface_func key i name abi) interface (exported_func key name abi)) ≡ false
no_function key name abi None = refl
no_function key name abi (Some i) = refl

no_post_return : (key : KeyView) (name : List ℕ) (interface : Option ℕ)
    → is_hook (option_map_or (λ (i : ℕ). exported_interface_func_post_return key name) interface (exported_func_post_return key)) ≡ false
no_post_return key name None = refl
no_post_return key name (Some i) = refl

no_callback : (key : KeyView) (name : List ℕ) (interface : Option ℕ)
    → is_hook (option_map_or (λ (i : ℕ). exported_interface_func_callback key name) interface (exported_func_callback key)) ≡ false
no_callback key name None = refl
no_callback key name (Some i) = refl

-- of a list of rules, the first of which doesn't hold of this
next_of : {K O : Type 0} (Holds : K → O → Type 0) (k : K) (ks : List K) (o : O) → (Holds k o → ⊥) → FirstOf Holds (k ∷ ks) o
    → ((p : O) → ¬ Holds k p) × FirstOf Holds ks o
next_of Holds k ks o none (inl h) = absurd (none h)
next_of Holds k ks o none (inr h) = h

module _ (e : NameScope) (keys : List KeyView) (x : CoreExport) (ty : Option FuncTypeValue) (named : e.hook ≡ no_task_hook) where
  abbrev Rule : ExportKind → ExportMeaning → Type 0
  Rule k m = IsExportRule e keys x (by_export_scheme k) m

  abbrev hook : ExportMeaning
  hook = is_export wasm_task_hook ty

  some_same : (a b : List ℕ) → Some a ≡ Some b → a ≡ b
  some_same a b same = let values : a ≡ b = cc same in values

  -- an export that has the name of the task hook has that of the initialiser
  initialiser_named : (s : Scheme) (name : List ℕ) → IsExportReadBy e x.name s name → task_hook_name s ≡ Some name → name ≡ initialize_name s
  initialiser_named s name (inl read) is =
      absurd (let none : None ≡ Some name = ap task_hook_name (sym read.1) ∙ is in let bad : ⊥ = cc none in bad)
  initialiser_named s name (inr read) is =
      let same : Some e.hook ≡ Some name = ap task_hook_name (sym read.3) ∙ is in sym (some_same e.hook name same) ∙ named

  no_hook : ((m : ExportMeaning) → ¬ Rule initializer m) → Rule task_hook hook → ⊥
  no_hook none h =
      none (is_export initialize (Some (signature [] [])))
      (h.0, h.1, h.2, (h.3.0, h.3.1, initialiser_named h.0 h.1 h.2 h.3.2, refl))

  next_kind : (k : ExportKind) (ks : List ExportKind) → (Rule k hook → ⊥) → FirstOf (IsExportRule e keys x) (map by_export_scheme (k ∷ ks)) hook
      → ((m : ExportMeaning) → ¬ Rule k m) × FirstOf (IsExportRule e keys x) (map by_export_scheme ks) hook
  next_kind k ks none h = next_of (IsExportRule e keys x) (by_export_scheme k) (map by_export_scheme ks) hook none h

  pub none_is_hook : ClassifiedExport e keys x hook → ⊥
  none_is_hook first =
      let own = function ∷ post_return ∷ callback ∷ destructor ∷ [] in
      let a = next_of (IsExportRule e keys x) any_type (map by_export_scheme export_kinds) hook
      (λ h. not_hook hook (any_type_row h.0).export None ty refl h.2 (no_row h.0)) first in
      let b = next_kind memory (function_table ∷ realloc ∷ initializer ∷ task_hook ∷ own) (λ h. not_hook hook _ None ty refl h.3.3 refl) a.1 in
      let c = next_kind function_table (realloc ∷ initializer ∷ task_hook ∷ own) (λ h. not_hook hook _ None ty refl h.3.3 refl) b.1 in
      let d = next_kind realloc (initializer ∷ task_hook ∷ own) (λ h. not_hook hook _ _ ty refl h.3.3 refl) c.1 in
      let f = next_kind initializer (task_hook ∷ own) (λ h. not_hook hook _ _ ty refl h.3.3 refl) d.1 in
      let g = next_kind task_hook own (no_hook f.0) f.1 in
      let h = next_kind function (post_return ∷ callback ∷ destructor ∷ [])
      (λ h. not_hook hook (function_export h.3.1 h.3.3) _ ty refl h.3.7 (no_function h.3.3.key h.3.3.function.name h.3.1 h.3.3.interface)) g.1 in
      let i = next_kind post_return (callback ∷ destructor ∷ [])
      (λ h. not_hook hook (post_return_export h.3.4) _ ty refl h.3.9 (no_post_return h.3.4.key h.3.4.function.name h.3.4.interface)) h.1 in
      let j = next_kind callback (destructor ∷ [])
      (λ h. not_hook hook (callback_export h.3.2) _ ty refl h.3.6 (no_callback h.3.2.key h.3.2.function.name h.3.2.interface)) i.1 in
      let k = next_kind destructor [] (λ h. not_hook hook _ _ ty refl h.3.7 refl) j.1 in
      k.1

pub no_export : NoExportIsHook
no_export e keys x ty named = none_is_hook e keys x ty named
