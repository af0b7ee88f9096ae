-- The order of a module's sections (WebAssembly core specification, 5.5.2 and 5.5.16).
use Rattle.std.specs.Prelude.{◌≡◌, ◌≢◌, ℕ, ◌<◌, ◌≤◌, List, ◌++◌, All, ◌==◌, if◌then◌else◌, Option}
use Rattle.std.specs.List.{AllPairs, find}
use Rattle.std.specs.Option.{option_map}
use Rattle.wc_read.specs.Formats.{SpellsName}
use Rattle.wc_read.specs.Sections.{SectionValue, custom_id, code_id, data_id, data_count_id}

-- the position of a section by its id: the data count is before the code, and the data last
abbrev pub section_position : ℕ → ℕ
section_position id =
    if id == data_count_id then 10 else if id == code_id then 11 else if id == data_id then 12 else id

-- the section at the front is before the other; custom sections may occur anywhere
abbrev pub ComesBefore : SectionValue → SectionValue → Type 0
ComesBefore s t = s.id ≢ custom_id → t.id ≢ custom_id → section_position s.id < section_position t.id

-- a name, and anything after it
abbrev pub BeginsWithName : List ℕ → Type 0
BeginsWithName bytes = (name text rest : List ℕ) × (bytes ≡ text ++ rest) × SpellsName text name

-- a section has one of the ids of the format, and a custom section begins with a name
pub record IsSection (s : SectionValue) : Type 0 where
  pub known : s.id ≤ data_count_id
  pub named : s.id ≡ custom_id → BeginsWithName s.content

-- the sections of a module: all but the custom ones are in their order, so none of them is twice
pub record AreInOrder (sections : List SectionValue) : Type 0 where
  pub each : All IsSection sections
  pub ordered : AllPairs ComesBefore sections

-- the content of the first section with an id
abbrev pub content_of : ℕ → List SectionValue → Option (List ℕ)
content_of id sections = option_map (λ s. s.content) (find (λ s. s.id == id) sections)
