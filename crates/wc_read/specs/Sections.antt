-- A module's header and its sections, cut by their sizes alone (WebAssembly core specification, 5.5.2 and 5.5.16).
use Rattle.std.specs.Prelude.{◌≡◌, ℕ, List, [], ◌∷◌, ◌++◌, map, length}
use Rattle.wc_read.specs.Formats.{Format, SpellsNumber, SpellsItems}
use Rattle.wc_read.specs.declared.sections.Section.{Section}

-- `\0asm`, version 1
abbrev pub module_header : List ℕ
module_header = 0x00 ∷ 0x61 ∷ 0x73 ∷ 0x6d ∷ 0x01 ∷ 0x00 ∷ 0x00 ∷ 0x00 ∷ []

-- `\0asm`, version 13 of layer 1
abbrev pub component_header : List ℕ
component_header = 0x00 ∷ 0x61 ∷ 0x73 ∷ 0x6d ∷ 0x0d ∷ 0x00 ∷ 0x01 ∷ 0x00 ∷ []

-- bytes that begin as a component does
abbrev pub IsComponent : List ℕ → Type 0
IsComponent bytes = (rest : List ℕ) × (bytes ≡ component_header ++ rest)

-- a section: its id and its content
pub record SectionValue : Type 0 where
  pub id : ℕ
  pub content : List ℕ

abbrev pub section_value : Section → SectionValue
section_value s = record { id = s.id; content = s.content.now }

abbrev pub section_values : List Section → List SectionValue
section_values ss = map section_value ss

-- the ids of sections (5.5.2)

abbrev pub custom_id : ℕ
custom_id = 0

abbrev pub type_id : ℕ
type_id = 1

abbrev pub import_id : ℕ
import_id = 2

abbrev pub function_id : ℕ
function_id = 3

abbrev pub table_id : ℕ
table_id = 4

abbrev pub memory_id : ℕ
memory_id = 5

abbrev pub global_id : ℕ
global_id = 6

abbrev pub export_id : ℕ
export_id = 7

abbrev pub start_id : ℕ
start_id = 8

abbrev pub element_id : ℕ
element_id = 9

abbrev pub code_id : ℕ
code_id = 10

abbrev pub data_id : ℕ
data_id = 11

abbrev pub data_count_id : ℕ
data_count_id = 12

-- an id, the content's size, the content
pub record SpellsSection (bytes : List ℕ) (s : SectionValue) : Type 0 where
  pub size : List ℕ
  pub cut : bytes ≡ s.id ∷ (size ++ s.content)
  pub has_size : SpellsNumber 32 size (length s.content)

-- a module's header, and sections to the end
abbrev pub SpellsFrames : Format (List SectionValue)
SpellsFrames bytes sections = (rest : List ℕ) × (bytes ≡ module_header ++ rest) × SpellsItems SpellsSection rest sections
