-- Custom sections by their names (5.5.3).
use Rattle.std.specs.Prelude.{ℕ, List, Option, Some, None}
use Rattle.std.specs.Option.{option_map}
use Rattle.std.specs.Borrow.{Bor}
use Rattle.wc_read.specs.Sections.{SectionValue}
use Rattle.wc_read.specs.Custom.{IsCustomSection}

-- the bytes after the name, where the section is a custom section with that name
abbrev pub ContentAfterName : List ℕ → SectionValue → Option (List ℕ) → Type 0
ContentAfterName name s (Some rest) = IsCustomSection name s rest
ContentAfterName name s None = (rest : List ℕ) → IsCustomSection name s rest → ⊥

-- bytes that may be left out
abbrev pub optional_bytes : Option (Bor (List ℕ)) → Option (List ℕ)
optional_bytes o = option_map (λ b. b.now) o
