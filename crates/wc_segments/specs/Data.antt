-- Data segments (WebAssembly core specification, 2.5.8), and how bytes spell them (5.5.14).
use Rattle.std.specs.Prelude.{◌≡◌, ℕ, ◌==◌, if◌then◌else◌, List, ◌++◌, Option, Some, None}
use Rattle.wc_read.specs.Formats.{SpellsNumber}
use Rattle.wc_read.specs.Contents.{SpellsSizePrefixed}
use Rattle.wc_segments.specs.Modes.{ModeValue, mode_value, SpellsMode}
use Rattle.wc_segments.specs.declared.modes.ModeForm.{ModeForm}
use Rattle.wc_segments.specs.declared.modes.ModeForm.TheVariants.{First, Named, Passive}
use Rattle.wc_segments.specs.declared.data.DataSegment.{DataSegment}

-- a data segment: how it is used, and its bytes
pub record DataValue : Type 0 where
  pub mode : ModeValue
  pub bytes : List ℕ

abbrev pub data_value : DataSegment → DataValue
data_value d = record { mode = mode_value d.mode; bytes = d.bytes.now }

-- the forms, by their flags
unfoldable pub data_form_of : ℕ → Option ModeForm
data_form_of flags = if flags == 0 then Some First else if flags == 1 then Some Passive else if flags == 2 then Some Named else None

-- flags, the mode in its form, bytes after their number
pub record SpellsData (bytes : List ℕ) (d : DataValue) : Type 0 where
  pub flags : ℕ
  pub form : ModeForm
  pub flags_bytes : List ℕ
  pub mode_bytes : List ℕ
  pub content_bytes : List ℕ
  pub cut : bytes ≡ flags_bytes ++ (mode_bytes ++ content_bytes)
  pub has_flags : SpellsNumber 32 flags_bytes flags
  pub is_form : data_form_of flags ≡ Some form
  pub has_mode : SpellsMode form mode_bytes d.mode
  pub has_content : SpellsSizePrefixed content_bytes d.bytes
