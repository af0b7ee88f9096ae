-- What a module is validated for, as the code has it.
use Rattle.std.specs.Prelude.{◌≡◌, List, None, Option, String, map, option_copied, IfErr, IfOk, Result, Ok, Err}
use Rattle.std.specs.declared.alloc.Global.{Global}
use Rattle.wc_read.specs.declared.types.FuncType.{FuncType}
use Rattle.wc_dedupe.specs.Renaming.{RenameView}
use Rattle.wc_read.specs.Modules.{ModuleValue}
use Rattle.wc_resolve.specs.Views.{key_view}
use Rattle.wc_encoder.specs.EncoderParts.{EncoderView}
use Rattle.wc_validate.specs.declared.fault.ValidateFault.{ValidateFault}
use Rattle.wc_validate.specs.declared.requirements.RequiredExports.{RequiredExports}
use Rattle.wc_validate.specs.declared.validate.ValidationInput.{ValidationInput as CodeInput}
use Rattle.wc_validate.specs.Exports.Map.{ExportRecord}
use Rattle.wc_validate.specs.Imports.Map.{required_entry}
use Rattle.wc_validate.specs.Validate.{IsExportsCause, IsExportsRecord, ValidationInput, validation_input_by, library_of, IsNameScopeOf}
use Rattle.wc_validate.specs.declared.exports.classify.ExportContext.{ExportContext}
use Rattle.wc_validate.specs.NameScope.{name_scope_of}
use Rattle.wc_validate.specs.Refused.{RefusedModule}

abbrev pub validation_input_of : CodeInput → ValidationInput
validation_input_of j = validation_input_by j.encoder.now (library_of j.library) (option_copied j.renames) (map key_view j.required.keys.now.keys) (map required_entry j.required.functions.now.entries)

-- the validation input of a main module that has to export these functions
abbrev pub main_input_requiring : EncoderView → Option (List RenameView) → List (String Global × FuncType) → ValidationInput
main_input_requiring e renames functions = validation_input_by e None renames e.main_module_exports (map required_entry functions)

-- the exports of a module, recorded, with all that is required among them; and the cause of their fault
abbrev pub HasRecordedExports : EncoderView → RequiredExports → ModuleValue → ExportRecord → Type 0
HasRecordedExports e q m recorded = IsExportsRecord e (map key_view q.keys.now.keys) (map required_entry q.functions.now.entries) m recorded

abbrev pub HasRefusedExports : EncoderView → RequiredExports → ModuleValue → ValidateFault → Type 0
HasRefusedExports e q m f = IsExportsCause e (map key_view q.keys.now.keys) (map required_entry q.functions.now.entries) m f

-- the exports of a module, recorded, by what names are looked up in, for whichever encoder that is
abbrev pub AreExportsRecorded : {F : Type 0} → ExportContext → RequiredExports → ModuleValue → Result ExportRecord F → Type 0
AreExportsRecorded c q m result = (e : EncoderView) → IsNameScopeOf e (name_scope_of c.names) → IfOk result (HasRecordedExports e q m)

abbrev pub AreExportsRefused : {T : Type 0} → ExportContext → RequiredExports → ModuleValue → Result T RefusedModule → Type 0
AreExportsRefused c q m result =
    (e : EncoderView) → IsNameScopeOf e (name_scope_of c.names) → IfErr result (λ (x : RefusedModule). HasRefusedExports e q m x.fault)

-- what is answered, without the place of a refusal
abbrev pub IsWithoutPlace : {T : Type 0} → Result T RefusedModule → Result T ValidateFault → Type 0
IsWithoutPlace (Ok x) result = result ≡ Ok x
IsWithoutPlace (Err x) result = result ≡ Err x.fault
