-- What exports are recorded by, as the code has it.
use Rattle.std.specs.Prelude.{◌≡◌, ℕ, List, Option, Result}
use Rattle.wc_names.specs.Exports.{ClassifiedExport, CoreExport, ExportKind, ExportMeaning}
use Rattle.wc_names.specs.Imports.{ExternType}
use Rattle.wc_names.specs.Mangling.{Scheme, standard, legacy}
use Rattle.wc_validate.specs.declared.exports.classify.ExportContext.{ExportContext}
use Rattle.wc_validate.specs.declared.exports.classify.ExportLookup.{ExportLookup}
use Rattle.wc_validate.specs.declared.externs.Extern.{Extern}
use Rattle.wc_validate.specs.Private.Exports.Classify.{AreNamesBy, IsExportOfKind, MeansExport, IsExportFunction, IsTypedExport}
use Rattle.wc_validate.specs.Private.Externs.{extern_view}
use Rattle.wc_validate.specs.NameScope.{HasItsWorld, name_scope_of}
use Rattle.wc_names.specs.declared.exports.Export.{Export}
use Rattle.wc_read.specs.declared.types.FuncType.{FuncType}
use Rattle.wc_validate.specs.declared.name_fault.NameFault.{NameFault}

-- an export of this name and type
abbrev pub core_export : List ℕ → ExternType → CoreExport
core_export name ty = record { name = name; ty = ty }

-- an export of what has this type
abbrev pub extern_export : List ℕ → Extern → CoreExport
extern_export name ty = core_export name (extern_view ty)

-- the names are those of one export set of the world, by both schemes
pub record IsExportContext (c : ExportContext) : Type 0 where
  pub has_world : HasItsWorld (name_scope_of c.names)
  pub has_standard : AreNamesBy standard (name_scope_of c.names) c.standard
  pub has_legacy : AreNamesBy (legacy c.names.task_hook.now) (name_scope_of c.names) c.legacy
  pub has_keys : c.legacy.keys ≡ c.standard.keys

-- the names of a look-up are those of an export set of the world, by a scheme
abbrev pub HasNamesBy : Scheme → ExportLookup → Type 0
HasNamesBy s l = AreNamesBy s (name_scope_of l.names.now) l.exports.now

-- what an export's name means by a look-up, of some of the kinds, or of one
abbrev pub MeansByLookup : Scheme → ExportLookup → List ExportKind → List ℕ → ExternType → ExportMeaning → Type 0
MeansByLookup s l some_kinds name ty m = MeansExport s (name_scope_of l.names.now) l.exports.now.keys some_kinds name ty m

abbrev pub IsOfKind : Scheme → ExportLookup → ExportKind → List ℕ → ExternType → ExportMeaning → Type 0
IsOfKind s l kind name ty m = IsExportOfKind s (name_scope_of l.names.now) l.exports.now.keys kind name ty m

-- what a name means by a context, of an export of a type
abbrev pub MeansExportBy : ExportContext → List ℕ → ExternType → ExportMeaning → Type 0
MeansExportBy c name ty m = ClassifiedExport (name_scope_of c.names) c.standard.keys (core_export name ty) m

-- what an export is by a look-up, of some of the kinds, or of one
abbrev pub IsExportBy : Scheme → ExportLookup → List ExportKind → List ℕ → Extern → Result (Option Export) NameFault → Type 0
IsExportBy s l some_kinds name ty result = IsTypedExport (MeansByLookup s l some_kinds name) (extern_view ty) result

abbrev pub IsFunctionBy : Scheme → ExportLookup → List ExportKind → List ℕ → FuncType → Result (Option Export) NameFault → Type 0
IsFunctionBy s l some_kinds name ty result = IsExportFunction (MeansByLookup s l some_kinds name) ty result

abbrev pub IsFunctionOfKind : Scheme → ExportLookup → ExportKind → List ℕ → FuncType → Result (Option Export) NameFault → Type 0
IsFunctionOfKind s l kind name ty result = IsExportFunction (IsOfKind s l kind name) ty result
