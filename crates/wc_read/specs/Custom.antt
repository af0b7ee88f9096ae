-- Custom sections by their names (WebAssembly core specification, 5.5.3).
use Rattle.std.specs.Prelude.{◌≡◌, ℕ, List, ◌++◌}
use Rattle.wc_read.specs.Formats.{SpellsName}
use Rattle.wc_read.specs.Sections.{SectionValue, custom_id}

-- a custom section with a name, and the bytes after its name
pub record IsCustomSection (name : List ℕ) (s : SectionValue) (rest : List ℕ) : Type 0 where
  pub is_custom : s.id ≡ custom_id
  pub text : List ℕ
  pub cut : s.content ≡ text ++ rest
  pub has_name : SpellsName text name
