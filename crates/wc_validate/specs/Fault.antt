-- Faults: which are of names, and which come of reading; what a part of the classification answers; and their texts and
-- numbers.
use Rattle.std.specs.Prelude.{ℕ, List, Option, Some, None, Result, codes}
use Rattle.wc_read.specs.declared.fault.ReadFault.{ReadFault}
use Rattle.wc_read.specs.declared.fault.ReadFault.TheVariants as read
use Rattle.wc_read.specs.declared.types.FuncType.{FuncType}
use Rattle.wc_read.specs.Types.{FuncTypeValue, func_type_value}
use Rattle.wc_validate.specs.declared.fault.ValidateFault.{ValidateFault}
use Rattle.wc_validate.specs.declared.name_fault.NameFault.{NameFault}
use Rattle.wc_validate.specs.declared.name_fault.NameFault.TheVariants as naming
use Rattle.wc_names.specs.declared.imports.Import.{Import}
use Rattle.wc_names.specs.Meanings.{Meaning, not_a_function, no_root_import, root_not_function, bad_syntax, unknown_interface, unknown_intrinsic, missing_function, no_such_export, typed_reference}
use Rattle.wc_validate.specs.Classifications.{FaultKind, out_of_memory, wrong_signature, refused_name, other_fault, IsImportClassification}
use Rattle.wc_read.specs.Fault.{read_fault_number, read_fault_text}
use Rattle.wc_texts.specs.FaultNumbers.{carrying}
use Rattle.wc_texts.specs.FaultTexts.{carried_text, memory_text}
use Rattle.wc_validate.specs.Texts.{name_not_exported, not_exported_text}
use Rattle.wc_validate.specs.declared.fault.ValidateFault.TheVariants.{Memory, Read, NotAModule, NotAFunction, SignatureMismatch, NoRootImport, RootNotFunction, BadSyntax, UnknownInterface, UnknownIntrinsic, MissingFunction, NoSuchExport, WholeDiffers, Mixed, SeveralMemoryImports, DuplicateImport, AdapterTypesDiffer, SeveralMemoryExports, MissingCallback, MissingInterfaceExport, MissingWorldExport, AdapterModuleDidNotExport, AdapterExportType, TypedReference}

-- the fault that a fault of reading is: a component is no module
abbrev pub of_read : ReadFault → ValidateFault
of_read read.Memory = Memory
of_read read.Component = NotAModule
of_read f = Read f

-- what a fault says of an import's name; not which signature the name fixes
abbrev pub import_fault_kind : ValidateFault → FaultKind
import_fault_kind Memory = out_of_memory
import_fault_kind SignatureMismatch = wrong_signature None
import_fault_kind NotAFunction = refused_name not_a_function
import_fault_kind NoRootImport = refused_name no_root_import
import_fault_kind RootNotFunction = refused_name root_not_function
import_fault_kind BadSyntax = refused_name bad_syntax
import_fault_kind UnknownInterface = refused_name unknown_interface
import_fault_kind UnknownIntrinsic = refused_name unknown_intrinsic
import_fault_kind MissingFunction = refused_name missing_function
import_fault_kind NoSuchExport = refused_name no_such_export
import_fault_kind TypedReference = refused_name typed_reference
import_fault_kind f = other_fault

-- what a fault of a name says of it, with the signature that the name fixes, where the type is another
abbrev pub fault_kind : NameFault → FaultKind
fault_kind naming.Memory = out_of_memory
fault_kind (naming.SignatureMismatch wanted) = wrong_signature (Some (func_type_value wanted))
fault_kind naming.NotAFunction = refused_name not_a_function
fault_kind naming.NoRootImport = refused_name no_root_import
fault_kind naming.RootNotFunction = refused_name root_not_function
fault_kind naming.BadSyntax = refused_name bad_syntax
fault_kind naming.UnknownInterface = refused_name unknown_interface
fault_kind naming.UnknownIntrinsic = refused_name unknown_intrinsic
fault_kind naming.MissingFunction = refused_name missing_function
fault_kind naming.NoSuchExport = refused_name no_such_export
fault_kind naming.TypedReference = refused_name typed_reference

-- the fault that a fault of a name is
abbrev pub of_name : NameFault → ValidateFault
of_name naming.Memory = Memory
of_name (naming.SignatureMismatch wanted) = SignatureMismatch
of_name naming.NotAFunction = NotAFunction
of_name naming.NoRootImport = NoRootImport
of_name naming.RootNotFunction = RootNotFunction
of_name naming.BadSyntax = BadSyntax
of_name naming.UnknownInterface = UnknownInterface
of_name naming.UnknownIntrinsic = UnknownIntrinsic
of_name naming.MissingFunction = MissingFunction
of_name naming.NoSuchExport = NoSuchExport
of_name naming.TypedReference = TypedReference

-- a function is classified by what its name means: as the import of a function of a type, or None, or a fault for its
-- reason
abbrev pub IsClassifiedBy : (Meaning → Type 0) → FuncType → Result (Option Import) NameFault → Type 0
IsClassifiedBy Means ty result = IsImportClassification fault_kind Means (func_type_value ty) result

-- a function is classified where its type is part of what the name means
abbrev pub IsFunctionClassified : (FuncTypeValue → Meaning → Type 0) → FuncType → Result (Option Import) NameFault → Type 0
IsFunctionClassified MeansOf ty result = IsClassifiedBy (MeansOf (func_type_value ty)) ty result

-- the text of a fault
abbrev pub validate_fault_text : ValidateFault → List ℕ
validate_fault_text Memory = memory_text
validate_fault_text (Read f) = carried_text (codes "Read") (read_fault_text f)
validate_fault_text NotAModule = codes "NotAModule"
validate_fault_text NotAFunction = codes "NotAFunction"
validate_fault_text SignatureMismatch = codes "SignatureMismatch"
validate_fault_text NoRootImport = codes "NoRootImport"
validate_fault_text RootNotFunction = codes "RootNotFunction"
validate_fault_text BadSyntax = codes "BadSyntax"
validate_fault_text UnknownInterface = codes "UnknownInterface"
validate_fault_text UnknownIntrinsic = codes "UnknownIntrinsic"
validate_fault_text MissingFunction = codes "MissingFunction"
validate_fault_text NoSuchExport = codes "NoSuchExport"
validate_fault_text WholeDiffers = codes "WholeDiffers"
validate_fault_text Mixed = codes "Mixed"
validate_fault_text SeveralMemoryImports = codes "SeveralMemoryImports"
validate_fault_text DuplicateImport = codes "DuplicateImport"
validate_fault_text AdapterTypesDiffer = codes "AdapterTypesDiffer"
validate_fault_text SeveralMemoryExports = codes "SeveralMemoryExports"
validate_fault_text MissingCallback = codes "MissingCallback"
validate_fault_text MissingInterfaceExport = codes "MissingInterfaceExport"
validate_fault_text MissingWorldExport = codes "MissingWorldExport"
validate_fault_text (AdapterModuleDidNotExport missing) = not_exported_text (name_not_exported missing)
validate_fault_text AdapterExportType = codes "AdapterExportType"
validate_fault_text TypedReference = codes "TypedReference"

-- the number of a fault, its position in the enum; where it carries another fault, that and 256 times the number of the other
abbrev pub validate_fault_number : ValidateFault → ℕ
validate_fault_number Memory = 0
validate_fault_number (Read f) = carrying 1 (read_fault_number f)
validate_fault_number NotAModule = 2
validate_fault_number NotAFunction = 3
validate_fault_number SignatureMismatch = 4
validate_fault_number NoRootImport = 5
validate_fault_number RootNotFunction = 6
validate_fault_number BadSyntax = 7
validate_fault_number UnknownInterface = 8
validate_fault_number UnknownIntrinsic = 9
validate_fault_number MissingFunction = 10
validate_fault_number NoSuchExport = 11
validate_fault_number WholeDiffers = 12
validate_fault_number Mixed = 13
validate_fault_number SeveralMemoryImports = 14
validate_fault_number DuplicateImport = 15
validate_fault_number AdapterTypesDiffer = 16
validate_fault_number SeveralMemoryExports = 17
validate_fault_number MissingCallback = 18
validate_fault_number MissingInterfaceExport = 19
validate_fault_number MissingWorldExport = 20
validate_fault_number (AdapterModuleDidNotExport missing) = 21
validate_fault_number AdapterExportType = 22
validate_fault_number TypedReference = 23
