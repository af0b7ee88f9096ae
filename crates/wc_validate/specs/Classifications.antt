-- What a part of the classification of imports or exports answers, whatever its faults are.
use Rattle.std.specs.Prelude.{◌≡◌, ◌≢◌, IsSomeAnd, Option, Some, None, Result, Ok, Err}
use Rattle.std.specs.Option.{IfSome}
use Rattle.wc_read.specs.Types.{FuncTypeValue}
use Rattle.wc_names.specs.declared.exports.Export.{Export}
use Rattle.wc_names.specs.declared.imports.Import.{Import}
use Rattle.wc_names.specs.Exports.{ExportMeaning, is_export}
use Rattle.wc_names.specs.ExportViews.{ExportView, export_view}
use Rattle.wc_names.specs.Imports.{ExternType, func_type}
use Rattle.wc_names.specs.Meanings.{Refusal, Meaning, means, refuses}
use Rattle.wc_names.specs.Views.{ImportView, import_view}

-- what a fault says of a name: that an allocation failed; that the type is not the signature that the name fixes, with that
-- signature, if the fault says it; or that the name is refused
pub data FaultKind : Type 0 where
  out_of_memory : FaultKind
  wrong_signature : Option FuncTypeValue → FaultKind
  refused_name : Refusal → FaultKind
  other_fault : FaultKind

-- what is classified, imports or exports: how contracts see a value; what a name means that is this value, with the
-- signature that the name fixes, if it fixes one; what a name means that is refused, if it means anything; and the type of
-- an item that is a function of a type
pub record ItemKind (V W M T : Type 0) : Type 0 where
  pub view : V → W
  pub meaning : W → Option FuncTypeValue → M
  pub refusal : Refusal → Option M
  pub function_type : FuncTypeValue → T

-- imports: all that are classified by their names are functions
abbrev pub of_imports : ItemKind Import ImportView Meaning FuncTypeValue
of_imports = record {
  view = import_view;
  meaning = λ (i : ImportView) (required : Option FuncTypeValue). means i required;
  refusal = λ (why : Refusal). Some (refuses why);
  function_type = λ (ty : FuncTypeValue). ty;
}

-- exports: none is refused for its name
abbrev pub of_exports : ItemKind Export ExportView ExportMeaning ExternType
of_exports = record {
  view = export_view;
  meaning = λ (x : ExportView) (required : Option FuncTypeValue). is_export x required;
  refusal = λ (why : Refusal). None;
  function_type = λ (ty : FuncTypeValue). func_type ty;
}

-- the fault of a type that is not the one that it must be, which the fault says; or an allocation failed
abbrev pub IsTypeFault : FaultKind → FuncTypeValue → FuncTypeValue → Type 0
IsTypeFault out_of_memory ty required = Unit {0}
IsTypeFault (wrong_signature (Some wanted)) ty required = (wanted ≡ required) × (ty ≢ required)
IsTypeFault k ty required = ⊥

-- the value where its type is the one that it must have, else the fault of a wrong signature
abbrev pub IsTypeChecked : {F V : Type 0} → (F → FaultKind) → Result (Option V) F → V → FuncTypeValue → FuncTypeValue → Type 0
IsTypeChecked kind (Ok None) v ty required = ⊥
IsTypeChecked kind (Ok (Some w)) v ty required = (w ≡ v) × (ty ≡ required)
IsTypeChecked kind (Err f) v ty required = IsTypeFault (kind f) ty required

-- a fault's reason, by what the name means
abbrev pub IsReason : {V W M T : Type 0} → ItemKind V W M T → (M → Type 0) → T → FaultKind → Type 0
IsReason items Means ty out_of_memory = Unit {0}
IsReason {V} {W} items Means ty (wrong_signature (Some wanted)) =
    (v : W) × Means (items.meaning v (Some wanted)) × (ty ≢ items.function_type wanted)
IsReason {V} {W} items Means ty (wrong_signature None) =
    (v : W) × (required : FuncTypeValue) × Means (items.meaning v (Some required)) × (ty ≢ items.function_type required)
IsReason items Means ty (refused_name why) = IsSomeAnd (items.refusal why) Means
IsReason items Means ty other_fault = ⊥

-- what is answered of a name, by what it means: None only where it means nothing; a value only where it means that one, with this type as its
-- signature or without a signature; a fault only for its reason
unfoldable pub IsClassification : {V W M T F : Type 0} → ItemKind V W M T → (F → FaultKind) → (M → Type 0) → T → Result (Option V) F → Type 0
IsClassification {V} {W} {M} items kind Means ty (Ok None) = (m : M) → ¬ Means m
IsClassification items kind Means ty (Ok (Some v)) =
    (required : Option FuncTypeValue) × Means (items.meaning (items.view v) required)
    × IfSome required (λ (t : FuncTypeValue). ty ≡ items.function_type t)
IsClassification items kind Means ty (Err f) = IsReason items Means ty (kind f)

-- what is answered of the name of a function that is imported
abbrev pub IsImportClassification : {F : Type 0} → (F → FaultKind) → (Meaning → Type 0) → FuncTypeValue → Result (Option Import) F → Type 0
IsImportClassification kind Means ty result = IsClassification of_imports kind Means ty result

-- what is answered of the name of an export of any type
abbrev pub IsExportClassification : {F : Type 0} → (F → FaultKind) → (ExportMeaning → Type 0) → ExternType → Result (Option Export) F → Type 0
IsExportClassification kind Means ty result = IsClassification of_exports kind Means ty result
