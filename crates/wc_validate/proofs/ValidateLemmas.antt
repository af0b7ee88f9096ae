-- Modules that are validated for an encoder.
use Rattle.std.proofs.Common.{◌≡◌, ◌≢◌, ◌↔◌, ◌⊎◌, ℕ, suc, ◌<◌, Bool, List, [], ◌∷◌, ◌++◌, length, map, All, Option, Some, None, option_copied, IfOk, IfErr, Result, Ok, Err, String, arith, refl, sym, ap, subst, ◌∙◌, inl, inr}
use Rattle.std.specs.List.{cons_option, slice_get}
use Rattle.std.specs.Option.{IfSome, option_map, option_map_or}
use Rattle.std.specs.declared.alloc.Global.{Global}
use Rattle.std.proofs.lemmas.List.{length-map}
use Rattle.std.proofs.lemmas.List.Elements.{All-cons, All-nil}
use Rattle.wc_read.specs.declared.fault.ReadFault.{ReadFault}
use Rattle.wc_read.specs.declared.fault.ReadFault.TheVariants as read
use Rattle.wc_read.specs.declared.types.FuncType.{FuncType}
use Rattle.wc_read.specs.declared.types.Import.{Import}
use Rattle.wc_read.specs.declared.core_module.Module.{Module}
use Rattle.wc_read.specs.Fault.{SpellsNothing}
use Rattle.wc_read.specs.Imports.{ImportValue, import_value, import_values}
use Rattle.wc_read.specs.Items.{FuncValue, imported}
use Rattle.wc_read.specs.Modules.{ModuleValue, SpellsModule, module_value}
use Rattle.wc_read.specs.Sections.{IsComponent}
use Rattle.wc_read.specs.Spaces.{func_of, imported_item, imported_items, local_funcs}
use Rattle.wc_read.specs.declared.exports.Export.{Export}
use Rattle.wc_read.specs.Types.{func_type_value}
use Rattle.wc_resolve.specs.Ranges.{IsItemIn}
use Rattle.wc_resolve.specs.Views.{ItemView, KeyView, WorldView, key_view}
use Rattle.wc_resolve.specs.WellFormed.{IsWellFormed}
use Rattle.wc_resolve.proofs.WellFormedLemmas.{export_items_in}
use Rattle.wc_resolve.specs.Kinds.{ResolveView}
use Rattle.wc_dedupe.specs.Renaming.{RenameView}
use Rattle.wc_adapters.specs.declared.adapters.Adapter.{Adapter}
use Rattle.wc_adapters.specs.Adapters.{AdapterView, LibraryView, adapter_entry}
use Rattle.wc_encoder.specs.EncoderParts.{EncoderView}
use Rattle.wc_names.specs.declared.export_names.ExportSyntax.{ExportSyntax}
use Rattle.wc_names.specs.ExportIndex.{ExportNamesView, names_view}
use Rattle.wc_names.specs.ExportNames.{export_syntax, world_exports}
use Rattle.wc_names.specs.Exports.{CoreExport}
use Rattle.wc_names.specs.Imports.{CoreImport, NameScope}
use Rattle.wc_names.specs.Mangling.{Scheme}
use Rattle.wc_validate.specs.declared.fault.ValidateFault.{ValidateFault}
use Rattle.wc_validate.specs.declared.fault.ValidateFault.TheVariants.{Memory, Read, NotAModule}
use Rattle.wc_validate.specs.declared.imports.record.ImportContext.{ImportContext}
use Rattle.wc_validate.specs.declared.imports.recorder.Recorder.{Recorder}
use Rattle.wc_validate.specs.Private.Explain.{IsStopAt}
use Rattle.wc_validate.specs.Private.Imports.Contexts.{AreRecorded, IsTypeIn, import_scope}
use Rattle.wc_validate.specs.Imports.Entries.{Entry, Records}
use Rattle.wc_validate.specs.Fault.{import_fault_kind, of_read}
use Rattle.wc_validate.specs.Imports.Record.{ImportScope, IsEntryFault, IsImportFault}
use Rattle.wc_validate.specs.Imports.Instances.{instance_entry}
use Rattle.wc_validate.specs.Imports.Classify.{IsNameFault}
use Rattle.wc_validate.specs.Imports.Map.{memory_in}
use Rattle.wc_validate.specs.NameScope.{HasItsWorld, adapter_name, name_scope_of}
use Rattle.wc_names.specs.declared.exports.Export.{Export as ClassifiedExport}
use Rattle.wc_validate.specs.declared.exports.classify.ExportContext.{ExportContext}
use Rattle.wc_validate.specs.declared.requirements.RequiredExports.{RequiredExports}
use Rattle.wc_validate.specs.declared.validate.ValidatedModule.{ValidatedModule}
use Rattle.wc_validate.specs.Exports.Map.{ExportRecord, export_entry}
use Rattle.wc_validate.specs.Private.Exports.Classify.{AreNamesBy}
use Rattle.wc_validate.specs.Exports.Record.{AreExports, AreRecordedBy, IsExportsFault, core_exports, exports_in}
use Rattle.wc_validate.specs.Requirements.{IsFirstUnmet, IsShortfall, IsUnmetFault, Requirement, callbacks, interface_functions, one_memory, requirements, typed_function, world_function}
use Rattle.wc_validate.specs.Private.ValidationInputs.{HasRecordedExports, HasRefusedExports}
use Rattle.wc_validate.specs.Private.Requirements.{AreMetBy, IsUnmetBy}
use Rattle.wc_validate.specs.Place.{DifferenceView}
use Rattle.wc_validate.specs.Refused.{IsMemoryRefusal, RefusedModule}
use Rattle.wc_validate.specs.Validate.{IsCauseOfExports, IsCauseOfImports, IsValidateCause, IsExportsRecord, IsImportsCause, IsImportsRecord, IsModuleCause, IsRecordOf, IsImportScopeFor, IsNameScopeOf, ValidationInput, module_record}
use Rattle.wc_validate.proofs.ImportRecordLemmas.{refused_after}

-- what names are looked up in, for an encoder
names_are : (es : List (String Global × Adapter)) → map adapter_name es ≡ map (λ (a : List ℕ × AdapterView). a.0) (map adapter_entry es)
names_are [] = refl
names_are (e ∷ es) = ap (λ z. adapter_name e ∷ z) (names_are es)

abbrev pub scope_by : ResolveView → WorldView → List (List ℕ) → Bool → List ℕ → NameScope
scope_by r w a b h = record { resolve = r; world = w; adapters = a; reject_legacy_names = b; hook = h }

pub scope_is : (e : EncoderView) (r : ResolveView) (w : WorldView) (es : List (String Global × Adapter)) (b : Bool) (h : List ℕ) (index : ℕ) → r ≡ e.resolve
    → index ≡ e.world → slice_get r.worlds index ≡ Some w → map adapter_entry es ≡ e.adapters
    → b ≡ e.reject_legacy_names → h ≡ e.task_hook → IsNameScopeOf e (scope_by r w (map adapter_name es) b h)
scope_is e r w es b h index resolve at there adapters flag hook =
    let names = names_are es ∙ ap (map (λ (a : List ℕ × AdapterView). a.0)) adapters in
    let world : slice_get e.resolve.worlds e.world ≡ Some w = subst (λ z. slice_get z.worlds e.world ≡ Some w) resolve
    (subst (λ z. slice_get r.worlds z ≡ Some w) at there) in (
      w,
      world,
      ap (λ z. scope_by z w (map adapter_name es) b h) resolve
          ∙ (ap (λ z. scope_by e.resolve w z b h) names
          ∙ (ap (λ z. scope_by e.resolve w (map (λ (a : List ℕ × AdapterView). a.0) e.adapters) z h) flag
          ∙ ap (λ z. scope_by e.resolve w (map (λ (a : List ℕ × AdapterView). a.0) e.adapters) e.reject_legacy_names z) hook)),
    )

-- imports that are recorded, or are not
module _ (e : EncoderView) (c : ImportContext) (renames : Option (List RenameView)) (library : Option LibraryView) (types : List FuncType)
    (passed imports : List Import) (has_name_scope : IsNameScopeOf e (name_scope_of c.names)) (same_renames : option_copied c.renames ≡ renames)
    (same_types : c.types.now ≡ types) (same : passed ≡ imports) where
  import_scope_for : IsImportScopeFor e renames library (map func_type_value types) (import_scope c library)
  import_scope_for = record { has_name_scope = has_name_scope; has_library = refl; has_renames = same_renames; has_types = ap (map func_type_value) same_types }

  pub record_is : (r : Recorder) (records : Records) → AreRecorded (import_scope c library) (import_values passed) r
      → records ≡ map instance_entry r.instances.entries
      → IsImportsRecord e renames library (map func_type_value types) (import_values imports) records
  record_is r records recorded is =
      let h = subst (λ z. AreRecorded (import_scope c library) (import_values z) r) same recorded in
      (import_scope c library, import_scope_for, (h.0, h.1, is ∙ h.2.instances))

  cause_here : (index : ℕ) (f : ValidateFault) (compared : Option DifferenceView) → IsStopAt (import_scope c library) (import_values imports) index f compared
      → IsImportsCause e renames library (map func_type_value types) (import_values imports) f
  cause_here index Memory compared h = tt
  cause_here index f compared h =
      let s = import_scope c library in
      (s, import_scope_for, refused_after s [] (import_values imports) index h.0 h.1 f h.2.there h.2.recorded h.2.refused)

  pub cause_is : (index : ℕ) (f : ValidateFault) (compared : Option DifferenceView) → IsStopAt (import_scope c library) (import_values passed) index f compared
      → IsImportsCause e renames library (map func_type_value types) (import_values imports) f
  cause_is index f compared h = cause_here index f compared (subst (λ z. IsStopAt (import_scope c library) (import_values z) index f compared) same h)

pub recorded_memory : (s : ImportScope) (is : List ImportValue) (r : Recorder) → AreRecorded s is r
    → memory_in (map instance_entry r.instances.entries) ≡ r.memory
recorded_memory s is r h = ap memory_in h.2.instances ∙ h.2.memory_recorded

-- a failed allocation
pub memory_of_imports : (j : ValidationInput) (m : ModuleValue) (x : RefusedModule) → IsMemoryRefusal x → IsCauseOfImports j m x.fault
memory_of_imports j m x h = subst (IsCauseOfImports j m) (sym h.0) tt

pub memory_of_exports : (j : ValidationInput) (m : ModuleValue) (x : RefusedModule) → IsMemoryRefusal x → IsCauseOfExports j m x.fault
memory_of_exports j m x h = subst (IsCauseOfExports j m) (sym h.0) tt

-- what is no fault of imports
fault_not : (s : ImportScope) (before : List Entry) (is : List ImportValue) (f : ValidateFault)
    → ((e : NameScope) (a : CoreImport) → ¬ IsNameFault e a (import_fault_kind f)) → ((b : List Entry) (x : Entry) → ¬ IsEntryFault b x f)
    → ¬ IsImportFault s before is f
fault_not s before [] f name entry h = h
fault_not s before (i ∷ is) f name entry (inl (inl h)) = name s.name_scope h.1 h.3
fault_not s before (i ∷ is) f name entry (inl (inr h)) = entry before h.0 h.2
fault_not s before (i ∷ is) f name entry (inr h) = fault_not s (before ++ h.0 ∷ []) is f name entry h.3

read_entry : (f : ReadFault) (before : List Entry) (x : Entry) → ¬ IsEntryFault before x (Read f)
read_entry f before x (inl h) = let e = h.1 in let bad : ⊥ = cc e in bad
read_entry f before x (inr (_, inl h)) = let e = h.1 in let bad : ⊥ = cc e in bad
read_entry f before x (inr (_, inr (_, inl h))) = let e = h.1 in let bad : ⊥ = cc e in bad
read_entry f before x (inr (_, inr (_, inr (_, inl h)))) = let e = h.1 in let bad : ⊥ = cc e in bad
read_entry f before x (inr (_, inr (_, inr (_, inr (_, inl h))))) = let e = h.1 in let bad : ⊥ = cc e in bad
read_entry f before x (inr (_, inr (_, inr (_, inr (_, inr h))))) = h.1

component_entry : (before : List Entry) (x : Entry) → ¬ IsEntryFault before x NotAModule
component_entry before x (inl h) = let e = h.1 in let bad : ⊥ = cc e in bad
component_entry before x (inr (_, inl h)) = let e = h.1 in let bad : ⊥ = cc e in bad
component_entry before x (inr (_, inr (_, inl h))) = let e = h.1 in let bad : ⊥ = cc e in bad
component_entry before x (inr (_, inr (_, inr (_, inl h)))) = let e = h.1 in let bad : ⊥ = cc e in bad
component_entry before x (inr (_, inr (_, inr (_, inr (_, inl h))))) = let e = h.1 in let bad : ⊥ = cc e in bad
component_entry before x (inr (_, inr (_, inr (_, inr (_, inr h))))) = h.1

-- what is no fault of exports
shortfall_read : (xs : List CoreExport) (need : Requirement) (f : ReadFault) → ¬ IsShortfall xs need (Read f)
shortfall_read xs one_memory f h = h
shortfall_read xs callbacks f h = h
shortfall_read xs (interface_functions i) f h = h
shortfall_read xs (world_function name) f h = h
shortfall_read xs (typed_function name ty) f h = h

shortfall_component : (xs : List CoreExport) (need : Requirement) → ¬ IsShortfall xs need NotAModule
shortfall_component xs one_memory h = h
shortfall_component xs callbacks h = h
shortfall_component xs (interface_functions i) h = h
shortfall_component xs (world_function name) h = h
shortfall_component xs (typed_function name ty) h = h

unmet_not : (r : ResolveView) (xs : List CoreExport) (recorded : ExportRecord) (needs : List Requirement) (f : ValidateFault)
    → ((need : Requirement) → ¬ IsShortfall xs need f) → ¬ IsFirstUnmet r xs recorded needs f
unmet_not r xs recorded [] f none h = h
unmet_not r xs recorded (need ∷ needs) f none (inl h) = none need h.1
unmet_not r xs recorded (need ∷ needs) f none (inr h) = unmet_not r xs recorded needs f none h.1

exports_read : (s : NameScope) (xs : List CoreExport) (keys : List KeyView) (needs : List Requirement) (f : ReadFault)
    → IsExportsFault s keys xs (Read f) ⊎ ((recorded : ExportRecord) × AreExports s keys xs recorded × IsUnmetFault s.resolve xs recorded needs (Read f)) → ⊥
exports_read s xs keys needs f (inl h) = h
exports_read s xs keys needs f (inr h) = unmet_not s.resolve xs h.0 needs (Read f) (λ need. shortfall_read xs need f) h.2

exports_component : (s : NameScope) (xs : List CoreExport) (keys : List KeyView) (needs : List Requirement)
    → IsExportsFault s keys xs NotAModule ⊎ ((recorded : ExportRecord) × AreExports s keys xs recorded × IsUnmetFault s.resolve xs recorded needs NotAModule)
    → ⊥
exports_component s xs keys needs (inl h) = h
exports_component s xs keys needs (inr h) = unmet_not s.resolve xs h.0 needs NotAModule (shortfall_component xs) h.2

module_read : (j : ValidationInput) (m : ModuleValue) (f : ReadFault) → ¬ IsModuleCause j m (Read f)
module_read j m f (inl h) = fault_not h.0 [] m.imports (Read f) (λ e a bad. bad) (read_entry f) h.2
module_read j m f (inr h) = exports_read h.2.0 (core_exports m m.exports) j.keys (requirements (h.2.0).world.exports j.keys j.required) f h.2.2

module_component : (j : ValidationInput) (m : ModuleValue) → ¬ IsModuleCause j m NotAModule
module_component j m (inl h) = fault_not h.0 [] m.imports NotAModule (λ e a bad. bad) component_entry h.2
module_component j m (inr h) = exports_component h.2.0 (core_exports m m.exports) j.keys (requirements (h.2.0).world.exports j.keys j.required) h.2.2

cause_at : (j : ValidationInput) (bytes : List ℕ) (m : ModuleValue) (f : ValidateFault) → SpellsModule bytes m → IsModuleCause j m f → IsValidateCause j bytes f
cause_at j bytes m Memory spelled h = tt
cause_at j bytes m (Read f) spelled h = absurd (module_read j m f h)
cause_at j bytes m NotAModule spelled h = absurd (module_component j m h)
cause_at j bytes m f spelled h = (m, spelled, h)

pub record_of : (r : Result ValidatedModule RefusedModule) (j : ValidationInput) (bytes : List ℕ) (m : ModuleValue) → SpellsModule bytes m
    → IfOk r (λ v. IsImportsRecord j.encoder j.renames j.library m.types m.imports v.imports)
    → IfOk r (λ v. IsExportsRecord j.encoder j.keys j.required m v.exports) → IfOk r (λ v. IsRecordOf j bytes (module_record v))
record_of (Ok v) j bytes m spelled imports exports = record { value = m; spelled = spelled; imports = imports; exports = exports }
record_of (Err f) j bytes m spelled imports exports = tt

pub cause_of : (r : Result ValidatedModule RefusedModule) (j : ValidationInput) (bytes : List ℕ) (m : ModuleValue) → SpellsModule bytes m
    → IfErr r (λ (x : RefusedModule). IsModuleCause j m x.fault) → IfErr r (λ (x : RefusedModule). IsValidateCause j bytes x.fault)
cause_of (Ok v) j bytes m spelled h = tt
cause_of (Err x) j bytes m spelled h = cause_at j bytes m x.fault spelled h

-- why bytes are not read
pub read_cause : (j : ValidationInput) (bytes : List ℕ) (f : ReadFault) → (f ≢ read.Memory → SpellsNothing SpellsModule bytes)
    → (f ≡ read.Component) ↔ IsComponent bytes → IsValidateCause j bytes (of_read f)
read_cause j bytes read.Memory refused component = tt
read_cause j bytes read.Component refused component = component.0 refl
read_cause j bytes f refused component =
    (refl, λ is. (let same = component.1 is in let bad : ⊥ = cc same in bad), refused (λ same. let bad : ⊥ = cc same in bad))

-- what the names of exports are looked up in, for an encoder
pub world_of_name_scope : (e : EncoderView) (s : NameScope) → IsNameScopeOf e s → HasItsWorld s
world_of_name_scope e s h = subst HasItsWorld (sym h.2) (e.world, h.1)

names_view_of : (e : EncoderView) (s : NameScope) (x : ExportSyntax) (ks : List KeyView) → IsNameScopeOf e s
    → names_view x e.resolve (world_exports e.resolve e.world) ks ≡ names_view x s.resolve s.world.exports ks
names_view_of e s x ks h =
    ap (λ z. names_view x e.resolve z ks) (ap (λ o. option_map_or (λ (w : WorldView). w.exports) o []) h.1)
    ∙ sym (ap (λ (z : NameScope). names_view x z.resolve z.world.exports ks) h.2)

pub names_by : (e : EncoderView) (s : NameScope) (x : Scheme) (names : ExportNamesView) (r : ResolveView) (index : ℕ) (ks : List KeyView) → IsNameScopeOf e s
    → r ≡ e.resolve → index ≡ e.world → names ≡ names_view (export_syntax x) r (world_exports r index) ks
    → AreNamesBy x s names
names_by e s x names r index ks h resolve world is =
    let here = is ∙ (ap (λ z. names_view (export_syntax x) z (world_exports z index) ks) resolve
    ∙ (ap (λ z. names_view (export_syntax x) e.resolve (world_exports e.resolve z) ks) world ∙ names_view_of e s (export_syntax x) ks h)) in
    here ∙ ap (λ z. names_view (export_syntax x) s.resolve s.world.exports z) (sym (ap (λ (z : ExportNamesView). z.keys) here))

-- what the world of a scope exports is in range
pub world_items : (s : NameScope) → IsWellFormed s.resolve → HasItsWorld s → All (λ (x : KeyView × ItemView). IsItemIn s.resolve x.1) s.world.exports
world_items s formed world = export_items_in s.resolve formed world.0 s.world world.1

-- exports that are recorded, with all that is required
module _ (e : EncoderView) (q : RequiredExports) (m : Module) (c : ExportContext) (has : IsNameScopeOf e (name_scope_of c.names))
    (same_keys : c.standard.keys ≡ map key_view q.keys.now.keys) where
  abbrev keys_of : List KeyView
  keys_of = map key_view q.keys.now.keys

  module _ (recorded : List (String Global × ClassifiedExport)) (passed : List Export) (same : passed ≡ m.exports.items)
      (exports : AreRecordedBy c (exports_in m passed) (map export_entry recorded)) where
    are_exports : AreExports (name_scope_of c.names) keys_of (exports_in m m.exports.items) (map export_entry recorded)
    are_exports =
        subst (λ z. AreExports (name_scope_of c.names) keys_of (exports_in m z) (map export_entry recorded)) same
        (subst (λ z. AreExports (name_scope_of c.names) z (exports_in m passed) (map export_entry recorded)) same_keys exports)

    pub exports_record : (x : ExportRecord) → AreMetBy c.names q m recorded → x ≡ map export_entry recorded → HasRecordedExports e q (module_value m) x
    exports_record x met is = subst (HasRecordedExports e q (module_value m)) (sym is) (name_scope_of c.names, has, are_exports, met)

    pub missing_cause : (f : ValidateFault) → IsUnmetBy c.names q m recorded f → HasRefusedExports e q (module_value m) f
    missing_cause Memory h = tt
    missing_cause f h = (name_scope_of c.names, has, inr (map export_entry recorded, are_exports, h))

  pub exports_cause : (passed : List Export) → passed ≡ m.exports.items → (f : ValidateFault)
      → IsExportsFault (name_scope_of c.names) c.standard.keys (exports_in m passed) f
      → HasRefusedExports e q (module_value m) f
  exports_cause passed same Memory h = tt
  exports_cause passed same f h = (
    name_scope_of c.names,
    has,
    inl (subst (λ z. IsExportsFault (name_scope_of c.names) keys_of (exports_in m z) f) same
        (subst (λ z. IsExportsFault (name_scope_of c.names) z (exports_in m passed) f) same_keys h)),
  )

-- the types of imported functions are in range
module _ (n : ℕ) where
  abbrev IsTypedFunc : FuncValue → Type 0
  IsTypedFunc f = f.ty < n

  abbrev AreTypedFuncs : List FuncValue → Type 0
  AreTypedFuncs [] = Unit {0}
  AreTypedFuncs (f ∷ fs) = IsTypedFunc f × AreTypedFuncs fs

  funcs_typed : (fs : List FuncValue) → All IsTypedFunc fs → AreTypedFuncs fs
  funcs_typed [] h = tt
  funcs_typed (f ∷ fs) h = (h 0 f (omega arith), funcs_typed fs (λ k d below. h (suc k) d (omega (arith, below))))

  typed_at : (i : ImportValue) (o : Option ℕ) (rest : List FuncValue)
      → AreTypedFuncs (cons_option (option_map (λ t. record { ty = t; def = imported i.module_name i.name }) o) rest) → IfSome o (λ index. index < n)
      × AreTypedFuncs rest
  typed_at i None rest h = (tt, h)
  typed_at i (Some t) rest h = (h.0, h.1)

  appended : (o : Option FuncValue) (xs ys : List FuncValue) → cons_option o xs ++ ys ≡ cons_option o (xs ++ ys)
  appended None xs ys = refl
  appended (Some x) xs ys = refl

  typed : (is : List Import) (locals : List FuncValue) → AreTypedFuncs (imported_items func_of (import_values is) ++ locals)
      → All (λ (i : Import). IsTypeIn n i.ty) is
  typed [] locals h = All-nil (λ (i : Import). IsTypeIn n i.ty)
  typed (i ∷ is) locals h =
      let split = typed_at (import_value i) (func_of i.ty) (imported_items func_of (import_values is) ++ locals)
      (subst AreTypedFuncs (appended (imported_item func_of (import_value i)) (imported_items func_of (import_values is)) locals) h) in
      All-cons (λ (i : Import). IsTypeIn n i.ty) i is split.0 (typed is locals split.1)

pub typed_imports : (bytes : List ℕ) (m : Module) → SpellsModule bytes (module_value m)
    → All (λ (i : Import). IsTypeIn (length m.types.items) i.ty) m.imports.items
typed_imports bytes m spelled =
    let whole = spelled.has_sections in
    let is = whole.assembled.is in
    let funcs = ap (λ z. z.funcs) is ∙ ap (λ z. imported_items func_of z ++ local_funcs whole.parts.func_types whole.parts.bodies)
    (sym (ap (λ z. z.imports) is)) in
    let all = subst (λ z. All (λ (f : FuncValue). f.ty < z) (module_value m).funcs) (length-map m.types.items func_type_value) whole.valid.typed in
    typed (length m.types.items) m.imports.items (local_funcs whole.parts.func_types whole.parts.bodies)
    (funcs_typed (length m.types.items) _ (subst (All (λ (f : FuncValue). f.ty < length m.types.items)) funcs all))
