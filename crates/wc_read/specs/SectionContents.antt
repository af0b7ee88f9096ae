-- The contents of a module's sections, each section by its id (WebAssembly core specification, 5.5.2 to 5.5.13).
use Rattle.std.specs.Prelude.{◌≡◌, ℕ, List, [], Option, Some, None, MatchOption}
use Rattle.wc_read.specs.Formats.{Format, SpellsVector}
use Rattle.wc_read.specs.Globals.{LocalGlobalValue, SpellsLocalGlobal}
use Rattle.wc_read.specs.Types.{FuncTypeValue}
use Rattle.wc_read.specs.Imports.{ImportValue, SpellsImports}
use Rattle.wc_read.specs.Exports.{ExportValue, SpellsExports}
use Rattle.wc_read.specs.Sections.{SectionValue, type_id, import_id, function_id, table_id, memory_id, global_id, export_id, start_id, code_id}
use Rattle.wc_read.specs.Contents.{SpellsFuncTypes, SpellsIndices, SpellsTables, SpellsMemories, SpellsStart, SpellsBodies}
use Rattle.wc_read.specs.Order.{content_of}
use Rattle.wc_read.specs.declared.types.TableType.{TableType}
use Rattle.wc_read.specs.declared.types.MemoryType.{MemoryType}

-- what the sections hold; the indices of functions' types and the functions' bodies are in two of them
pub record SectionContentsValue : Type 0 where
  pub types : List FuncTypeValue
  pub imports : List ImportValue
  pub func_types : List ℕ
  pub tables : List TableType
  pub memories : List MemoryType
  pub globals : List LocalGlobalValue
  pub exports : List ExportValue
  pub start : Option ℕ
  pub bodies : List (List ℕ)

-- the items of the section with an id, none where there is no such section
abbrev pub HasItems : {A : Type 0} → ℕ → Format (List A) → List SectionValue → List A → Type 0
HasItems id Spells sections xs = MatchOption (content_of id sections) (xs ≡ []) (λ content. Spells content xs)

-- what the section with an id holds, if there is such a section
abbrev pub HasContent : {A : Type 0} → ℕ → Format A → List SectionValue → Option A → Type 0
HasContent {A} id Spells sections x = MatchOption (content_of id sections) (x ≡ None) (λ content. (y : A) × (x ≡ Some y) × Spells content y)

pub record HaveSectionContents (sections : List SectionValue) (p : SectionContentsValue) : Type 0 where
  pub has_types : HasItems type_id SpellsFuncTypes sections p.types
  pub has_imports : HasItems import_id SpellsImports sections p.imports
  pub has_func_types : HasItems function_id SpellsIndices sections p.func_types
  pub has_tables : HasItems table_id SpellsTables sections p.tables
  pub has_memories : HasItems memory_id SpellsMemories sections p.memories
  pub has_globals : HasItems global_id (SpellsVector SpellsLocalGlobal) sections p.globals
  pub has_exports : HasItems export_id SpellsExports sections p.exports
  pub has_start : HasContent start_id SpellsStart sections p.start
  pub has_bodies : HasItems code_id SpellsBodies sections p.bodies
