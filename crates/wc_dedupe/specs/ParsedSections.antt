-- A module as its import sections, which are read, and all other sections, which are unchanged.
use Rattle.std.specs.Prelude.{◌≡◌, ◌≢◌, ℕ, ◌^◌, ◌<◌, ◌≤◌, List, [], ◌∷◌, ◌++◌, length, map, take, drop, Option}
use Rattle.std.specs.List.{flat_map}
use Rattle.wc_read.specs.Formats.{Format}
use Rattle.wc_read.specs.Imports.{ImportValue, import_values, SpellsImports}
use Rattle.wc_read.specs.Sections.{SectionValue, section_value, SpellsFrames, module_header}
use Rattle.wc_write.specs.Text.{imports_text, section_text}
use Rattle.wc_dedupe.specs.Renaming.{RenameView, renamed_imports}
use Rattle.wc_dedupe.specs.declared.parsed_sections.ParsedSection.{ParsedSection}
use Rattle.wc_dedupe.specs.declared.parsed_sections.ParsedSection.TheVariants.{Imports, Other}

-- a section: an import section as its imports, any other one as its id and content
pub data ParsedSectionValue : Type 0 where
  import_section : List ImportValue → ParsedSectionValue
  other_section : SectionValue → ParsedSectionValue

abbrev pub parsed_section_value : ParsedSection → ParsedSectionValue
parsed_section_value (Imports is) = import_section (import_values is.items)
parsed_section_value (Other s) = other_section (section_value s)

abbrev pub parsed_values : List ParsedSection → List ParsedSectionValue
parsed_values ss = map parsed_section_value ss

-- how a section spells a part: an import section by its imports, any other one by itself
abbrev pub SpellsParsedSection : SectionValue → ParsedSectionValue → Type 0
SpellsParsedSection s (import_section is) = (s.id ≡ 2) × SpellsImports s.content is
SpellsParsedSection s (other_section t) = (s.id ≢ 2) × (s ≡ t)

abbrev pub AreSpelled : List SectionValue → List ParsedSectionValue → Type 0
AreSpelled [] [] = Unit {0}
AreSpelled [] (p ∷ ps) = ⊥
AreSpelled (s ∷ ss) [] = ⊥
AreSpelled (s ∷ ss) (p ∷ ps) = SpellsParsedSection s p × AreSpelled ss ps

-- a module: its header, and sections of which each spells its part
abbrev pub SpellsParsedSections : Format (List ParsedSectionValue)
SpellsParsedSections bytes parts = (sections : List SectionValue) × SpellsFrames bytes sections × AreSpelled sections parts

-- the imports of a part, and those of all parts, in order
abbrev pub imports_in : ParsedSectionValue → List ImportValue
imports_in (import_section is) = is
imports_in (other_section s) = []

abbrev pub imports_of : List ParsedSectionValue → List ImportValue
imports_of ps = flat_map imports_in ps

-- the content of a part as it is written, and the part with its id and size
abbrev pub content_text : ParsedSectionValue → List ℕ
content_text (import_section is) = imports_text is
content_text (other_section s) = s.content

abbrev pub parsed_section_id : ParsedSectionValue → ℕ
parsed_section_id (import_section is) = 2
parsed_section_id (other_section s) = s.id

abbrev pub parsed_section_text : ParsedSectionValue → List ℕ
parsed_section_text p = section_text (parsed_section_id p) (content_text p)

-- the module of these parts, with sizes, and the numbers of import sections, as minimal LEB128
abbrev pub parsed_module_text : List ParsedSectionValue → List ℕ
parsed_module_text ps = module_header ++ flat_map parsed_section_text ps

-- a content whose size is a number of 32 bits, and one that is larger
abbrev pub Fits : ParsedSectionValue → Type 0
Fits p = length (content_text p) < 2 ^ 32

abbrev pub IsTooLarge : ParsedSectionValue → Type 0
IsTooLarge p = 2 ^ 32 ≤ length (content_text p)

-- an import under another name: its module and its type stay the same
abbrev pub IsUnderName : ImportValue → ImportValue → Type 0
IsUnderName i j = (j.module_name ≡ i.module_name) × (j.ty ≡ i.ty)

abbrev pub AreUnderNames : List ImportValue → List ImportValue → Type 0
AreUnderNames [] [] = Unit {0}
AreUnderNames [] (j ∷ js) = ⊥
AreUnderNames (i ∷ is) [] = ⊥
AreUnderNames (i ∷ is) (j ∷ js) = IsUnderName i j × AreUnderNames is js

-- a part that is the same but for the names of imports
abbrev pub KeepsAllButNames : ParsedSectionValue → ParsedSectionValue → Type 0
KeepsAllButNames (import_section is) (import_section js) = AreUnderNames is js
KeepsAllButNames (import_section is) (other_section t) = ⊥
KeepsAllButNames (other_section s) (import_section js) = ⊥
KeepsAllButNames (other_section s) (other_section t) = s ≡ t

abbrev pub KeepAllButNames : List ParsedSectionValue → List ParsedSectionValue → Type 0
KeepAllButNames [] [] = Unit {0}
KeepAllButNames [] (q ∷ qs) = ⊥
KeepAllButNames (p ∷ ps) [] = ⊥
KeepAllButNames (p ∷ ps) (q ∷ qs) = KeepsAllButNames p q × KeepAllButNames ps qs

-- parts whose imports have their new names, by the indices of their renames
abbrev pub renamed_section : List RenameView → ParsedSectionValue → List (Option ℕ) → ParsedSectionValue
renamed_section rs (import_section is) indices = import_section (renamed_imports rs is indices)
renamed_section rs (other_section s) indices = other_section s

abbrev pub import_count : ParsedSectionValue → ℕ
import_count p = length (imports_in p)

abbrev pub renamed_sections : List RenameView → List ParsedSectionValue → List (Option ℕ) → List ParsedSectionValue
renamed_sections rs [] indices = []
renamed_sections rs (p ∷ ps) indices = renamed_section rs p (take (import_count p) indices) ∷ renamed_sections rs ps (drop (import_count p) indices)
