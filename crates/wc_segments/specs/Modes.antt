-- How segments are used (WebAssembly core specification, 2.5.7 and 2.5.8), and how bytes spell that (5.5.12 and 5.5.14).
use Rattle.std.specs.Prelude.{◌≡◌, ℕ, List, [], ◌++◌}
use Rattle.wc_read.specs.Formats.{Format, SpellsNumber}
use Rattle.wc_read.specs.Inits.{SpellsInit}
use Rattle.wc_read.specs.Operators.{InstrValue}
use Rattle.wc_segments.specs.declared.modes.ModeForm.{ModeForm}
use Rattle.wc_segments.specs.declared.modes.ModeForm.TheVariants.{First, Named, Passive as form_passive, Declarative as form_declarative}
use Rattle.wc_segments.specs.declared.modes.SegmentMode.{SegmentMode}
use Rattle.wc_segments.specs.declared.modes.SegmentMode.TheVariants.{Passive, Active, Declarative}

-- a segment fills the table or the memory of an index from an offset on, which is the bytes of an initialiser; or operators
-- copy it; or it only declares functions
pub data ModeValue : Type 0 where
  passive : ModeValue
  active : ℕ → List ℕ → ModeValue
  declarative : ModeValue

abbrev pub mode_value : SegmentMode → ModeValue
mode_value Passive = passive
mode_value (Active index offset) = active index offset.now
mode_value Declarative = declarative

-- an initialiser, as its bytes
abbrev pub IsInitialiser : Format (List ℕ)
IsInitialiser bytes init = (bytes ≡ init) × ((operators : List InstrValue) × SpellsInit init operators)

-- what bytes have of a mode: an offset in table or memory 0; an index and an offset; nothing
abbrev pub SpellsMode : ModeForm → Format ModeValue
SpellsMode First bytes mode = (offset : List ℕ) × IsInitialiser bytes offset × (mode ≡ active 0 offset)
SpellsMode Named bytes mode =
    (index : ℕ) × (a b : List ℕ) × (bytes ≡ a ++ b) × SpellsNumber 32 a index × ((offset : List ℕ) × IsInitialiser b offset × (mode ≡ active index offset))
SpellsMode form_passive bytes mode = (bytes ≡ []) × (mode ≡ passive)
SpellsMode form_declarative bytes mode = (bytes ≡ []) × (mode ≡ declarative)
