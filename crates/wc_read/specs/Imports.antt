-- Imports (WebAssembly core specification, 2.5.11 and 5.5.5).
use Rattle.std.specs.Prelude.{◌≡◌, ℕ, List, ◌++◌, map}
use Rattle.wc_read.specs.Formats.{Format, SpellsNumber, SpellsName, SpellsVector, Tagged}
use Rattle.wc_read.specs.Types.{SpellsGlobal}
use Rattle.wc_read.specs.Limits.{SpellsTable, SpellsMemory}
use Rattle.wc_read.specs.declared.types.ImportType.{ImportType}
use Rattle.wc_read.specs.declared.types.ImportType.TheVariants.{Func, Table, Memory, Global}
use Rattle.wc_read.specs.declared.types.Import.{Import}

-- an import: its module and its name as bytes, and what is imported
pub record ImportValue : Type 0 where
  pub module_name : List ℕ
  pub name : List ℕ
  pub ty : ImportType

abbrev pub import_value : Import → ImportValue
import_value i = record { module_name = i.module.now; name = i.name.now; ty = i.ty }

abbrev pub import_values : List Import → List ImportValue
import_values is = map import_value is

-- what is imported: its kind, and then a type's index or a type
abbrev pub SpellsImportType : Format ImportType
SpellsImportType bytes (Func index) = Tagged 0 (SpellsNumber 32) bytes index
SpellsImportType bytes (Table t) = Tagged 1 SpellsTable bytes t
SpellsImportType bytes (Memory m) = Tagged 2 SpellsMemory bytes m
SpellsImportType bytes (Global g) = Tagged 3 SpellsGlobal bytes g

pub record SpellsImport (bytes : List ℕ) (i : ImportValue) : Type 0 where
  pub module_bytes : List ℕ
  pub name_bytes : List ℕ
  pub type_bytes : List ℕ
  pub cut : bytes ≡ module_bytes ++ (name_bytes ++ type_bytes)
  pub has_module : SpellsName module_bytes i.module_name
  pub has_name : SpellsName name_bytes i.name
  pub has_type : SpellsImportType type_bytes i.ty

-- the content of an import section
abbrev pub SpellsImports : Format (List ImportValue)
SpellsImports bytes is = SpellsVector SpellsImport bytes is
