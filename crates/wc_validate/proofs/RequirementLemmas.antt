-- Requirements, checked one after another.
use Rattle.std.proofs.Common.{◌≡◌, ◌≢◌, ℕ, suc, ◌<◌, ◌≤◌, ◌+◌, All, length, zero, true, false, not, ◌||◌, List, [], ◌∷◌, ◌++◌, map, Option, Some, None, Result, Ok, Err, OnOk, String, inl, inr, refl, subst, sym, ap, ◌∙◌, arith}
use Rattle.std.specs.List.{cons_option}
use Rattle.std.specs.Map.{lookup}
use Rattle.std.specs.Str.{bytes_eq}
use Rattle.std.specs.declared.alloc.Global.{Global}
use Rattle.wc_resolve.specs.declared.worlds.WorldItem.{WorldItem}
use Rattle.wc_resolve.specs.declared.worlds.WorldKey.{WorldKey}
use Rattle.wc_resolve.specs.contracts.worlds.WorldKeyPartialEq.TheImpl.{eq-value as world_key_eq}
use Rattle.wc_resolve.specs.Ranges.{IsItemIn}
use Rattle.wc_resolve.specs.Views.{FunctionView, ItemView, KeyView, function_item, interface_item, item_view, key_view, type_item, world_entry}
use Rattle.wc_maps.proofs.LookupLemmas.{name_viewed}
use Rattle.wc_adapters.specs.Entries.{Entries}
use Rattle.wc_names.specs.declared.exports.Export.{Export}
use Rattle.wc_names.specs.ExportViews.{ExportView, export_view}
use Rattle.wc_names.specs.Keys.{item_under, key_eq}
use Rattle.wc_names.proofs.KeyLemmas.{item_viewed}
use Rattle.std.specs.Option.{IsSome, option_and_then, option_map, option_map_or, option_to_list}
use Rattle.wc_read.specs.Types.{FuncTypeValue, names_types}
use Rattle.wc_resolve.specs.Kinds.{ResolveView}
use Rattle.wc_names.specs.Exports.{CoreExport}
use Rattle.wc_validate.specs.declared.fault.ValidateFault.{ValidateFault}
use Rattle.wc_validate.specs.declared.fault.ValidateFault.TheVariants.{AdapterExportType, Memory, AdapterModuleDidNotExport as missing, TypedReference}
use Rattle.wc_validate.specs.declared.fault.AdapterModuleDidNotExport.{AdapterModuleDidNotExport}
use Rattle.wc_validate.specs.Exports.Map.{ExportRecord, export_entry}
use Rattle.wc_validate.specs.Requirements.{AreMet, IsFirstUnmet, IsMet, IsShortfall, IsUnmetFault, Requirement, callback_name, exported_type, interface_functions, is_called_back, is_callback_for, item_requirement, key_requirement, key_requirements, needs_callback, typed_function, world_function}
use Rattle.wc_names.proofs.ExportIndexLemmas.{is_called}
use Rattle.wc_validate.proofs.ScopeLemmas.{holds_of_found}
use Rattle.wc_validate.specs.Texts.{name_not_exported}

module _ (r : ResolveView) (xs : List CoreExport) (recorded : ExportRecord) where
  -- some requirements, and then others
  pub met_append : (ms ns : List Requirement) → AreMet r xs recorded ms → AreMet r xs recorded ns → AreMet r xs recorded (ms ++ ns)
  met_append [] ns h k = k
  met_append (m ∷ ms) ns h k = (h.0, met_append ms ns h.1 k)

  pub first_left : (ms ns : List Requirement) (f : ValidateFault) → IsFirstUnmet r xs recorded ms f → IsFirstUnmet r xs recorded (ms ++ ns) f
  first_left [] ns f h = absurd h
  first_left (m ∷ ms) ns f (inl h) = inl h
  first_left (m ∷ ms) ns f (inr h) = inr (h.0, first_left ms ns f h.1)

  pub first_right : (ms ns : List Requirement) (f : ValidateFault) → AreMet r xs recorded ms → IsFirstUnmet r xs recorded ns f
      → IsFirstUnmet r xs recorded (ms ++ ns) f
  first_right [] ns f met h = h
  first_right (m ∷ ms) ns f met h = inr (met.0, first_right ms ns f met.1 h)

  pub unmet_left : (ms ns : List Requirement) (f : ValidateFault) → IsUnmetFault r xs recorded ms f → IsUnmetFault r xs recorded (ms ++ ns) f
  unmet_left ms ns Memory h = tt
  unmet_left ms ns f h = first_left ms ns f h

  pub unmet_right : (ms ns : List Requirement) (f : ValidateFault) → AreMet r xs recorded ms → IsUnmetFault r xs recorded ns f
      → IsUnmetFault r xs recorded (ms ++ ns) f
  unmet_right ms ns Memory met h = tt
  unmet_right ms ns f met h = first_right ms ns f met h

  -- a requirement that is not met
  pub unmet_one : (need : Requirement) (f : ValidateFault) → ¬ IsMet r xs recorded need → IsShortfall xs need f → IsUnmetFault r xs recorded (need ∷ []) f
  unmet_one need Memory unmet short = tt
  unmet_one need f unmet short = inl (unmet, short)

-- a required function, by what is found under its name
module _ (r : ResolveView) (xs : List CoreExport) (recorded : ExportRecord) (name : List ℕ) (ty : FuncTypeValue) where
  pub function_same : (own : FuncTypeValue) → names_types ty ≡ false → exported_type xs name ≡ Some own → ty ≡ own
      → IsMet r xs recorded (typed_function name ty)
  function_same own plain there same = (plain, there ∙ ap (λ (z : FuncTypeValue). Some z) (sym same))

  pub function_typed : names_types ty ≡ true → IsUnmetFault r xs recorded (typed_function name ty ∷ []) TypedReference
  function_typed typed = inl (λ met. (let both : true ≡ false = sym typed ∙ met.0 in let bad : ⊥ = cc both in bad), typed)

  pub function_differs : (own : FuncTypeValue) → names_types ty ≡ false → exported_type xs name ≡ Some own → own ≢ ty
      → IsUnmetFault r xs recorded (typed_function name ty ∷ []) AdapterExportType
  function_differs own plain there differ =
      inl (λ met. differ (let both : Some own ≡ Some ty = sym there ∙ met.1 in let same : own ≡ ty = cc both in same), (plain, subst IsSome (sym there) refl))

  pub function_absent : (e : AdapterModuleDidNotExport) → names_types ty ≡ false → exported_type xs name ≡ None → name_not_exported e ≡ name
      → IsUnmetFault r xs recorded (typed_function name ty ∷ []) (missing e)
  function_absent e plain none named = inl (λ met. (let both : None ≡ Some ty = sym none ∙ met.1 in let bad : ⊥ = cc both in bad), (plain, none, named))

-- whether an export has its callback
pub called_back_unneeded : (recorded : ExportRecord) (e : List ℕ × ExportView) → needs_callback e.1 ≡ false → true ≡ is_called_back recorded e
unfolding is_called_back
called_back_unneeded recorded e none = sym (ap (λ b. not b || option_map_or (is_callback_for e.1) (lookup (bytes_eq (callback_name e.0)) recorded) false) none)

pub called_back_by : (es : List (String Global × Export)) (name callback : List ℕ) (x : ExportView) (o : Option Export) → needs_callback x ≡ true
    → callback ≡ callback_name name → o ≡ lookup (is_called callback) es
    → option_map_or (λ (y : Export). is_callback_for x (export_view y)) o false ≡ is_called_back (map export_entry es) (name, x)
unfolding is_called_back
called_back_by es name callback x o needed called is =
    viewed o ∙ (ap (λ z. option_map_or (is_callback_for x) z false)
    (ap (option_map export_view) is ∙ (name_viewed export_view es callback ∙ ap (λ z. lookup (bytes_eq z) (map export_entry es)) called))
    ∙ sym (ap (λ b. not b || option_map_or (is_callback_for x) (lookup (bytes_eq (callback_name name)) (map export_entry es)) false) needed)) where
      viewed : (p : Option Export) → option_map_or (λ (y : Export). is_callback_for x (export_view y)) p false ≡ option_map_or (is_callback_for x)
          (option_map export_view p) false
      viewed None = refl
      viewed (Some y) = refl

-- what a key requires
module _ (exports : Entries) (key : KeyView) where
  pub requires_interface : (i : ℕ) (external : Option (List ℕ)) → Some (interface_item i external) ≡ item_under exports key
      → key_requirement exports key ≡ Some (interface_functions i)
  requires_interface i external is = ap (option_and_then item_requirement) (sym is)

  pub requires_function : (f : FunctionView) → Some (function_item f) ≡ item_under exports key → key_requirement exports key ≡ Some (world_function f.name)
  requires_function f is = ap (option_and_then item_requirement) (sym is)

  pub requires_nothing : (t : ℕ) → Some (type_item t) ≡ item_under exports key → key_requirement exports key ≡ None
  requires_nothing t is = ap (option_and_then item_requirement) (sym is)

  pub requires_none : None ≡ item_under exports key → key_requirement exports key ≡ None
  requires_none is = ap (option_and_then item_requirement) (sym is)

module _ (r : ResolveView) (xs : List CoreExport) (recorded : ExportRecord) where
  pub met_none : (o : Option Requirement) → o ≡ None → AreMet r xs recorded (option_to_list o)
  met_none o is = subst (λ z. AreMet r xs recorded (option_to_list z)) (sym is) tt

  pub met_some : (o : Option Requirement) (need : Requirement) → o ≡ Some need → IsMet r xs recorded need → AreMet r xs recorded (option_to_list o)
  met_some o need is h = subst (λ z. AreMet r xs recorded (option_to_list z)) (sym is) (h, tt)

  pub unmet_some : (o : Option Requirement) (need : Requirement) (f : ValidateFault) → o ≡ Some need → ¬ IsMet r xs recorded need → IsShortfall xs need f
      → IsUnmetFault r xs recorded (option_to_list o) f
  unmet_some o need f is unmet short = subst (λ z. IsUnmetFault r xs recorded (option_to_list z) f) (sym is) (unmet_one r xs recorded need f unmet short)

-- one more key
pub keys_next : (exports : Entries) (left rest : List KeyView) (key : KeyView) → left ≡ key ∷ rest
    → key_requirements exports left ≡ option_to_list (key_requirement exports key) ++ key_requirements exports rest
keys_next exports left rest key is = ap (key_requirements exports) is ∙ consed (key_requirement exports key) where
  consed : (o : Option Requirement) → cons_option o (key_requirements exports rest) ≡ option_to_list o ++ key_requirements exports rest
  consed None = refl
  consed (Some need) = refl

-- of two parts of requirements
pub passed_met : {T F : Type 0} (r : ResolveView) (xs : List CoreExport) (recorded : ExportRecord) (ms ns : List Requirement) (p : Result T F)
    → AreMet r xs recorded ms → OnOk p (AreMet r xs recorded ns) → OnOk p (AreMet r xs recorded (ms ++ ns))
passed_met r xs recorded ms ns (Ok x) met h = met_append r xs recorded ms ns met h
passed_met r xs recorded ms ns (Err f) met h = tt

pub at_most_one : (n : ℕ) → ¬ (1 < n) → n ≤ 1
at_most_one zero h = omega arith
at_most_one (suc zero) h = omega arith
at_most_one (suc (suc n)) h = absurd (h (omega arith))

-- what is found under a key
pub item_is : (key : WorldKey) (es : List (WorldKey × WorldItem)) (i : WorldItem) → Some i ≡ lookup (world_key_eq.it key) es
    → Some (item_view i) ≡ item_under (map world_entry es) (key_view key)
item_is key es i is = ap (option_map item_view) is ∙ item_viewed key es

pub no_item : (key : WorldKey) (es : List (WorldKey × WorldItem)) → None ≡ lookup (world_key_eq.it key) es
    → None ≡ item_under (map world_entry es) (key_view key)
no_item key es is = ap (option_map item_view) is ∙ item_viewed key es

pub interface_here : (r : ResolveView) (exports : Entries) (key : KeyView) (i : ℕ) (external : Option (List ℕ))
    → All (λ (x : KeyView × ItemView). IsItemIn r x.1) exports → Some (interface_item i external) ≡ item_under exports key → i < length r.interfaces
interface_here r exports key i external all is =
    (holds_of_found (λ (x : KeyView × ItemView). IsItemIn r x.1) (key_eq key) exports (interface_item i external) all (sym is)).1
