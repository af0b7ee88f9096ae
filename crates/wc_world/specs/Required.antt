-- The exports that are required of an adapter in a component's world.
use Rattle.std.specs.Prelude.{◌≡◌, ◌↔◌, ℕ, List, Contains}
use Rattle.wc_encoder.specs.EncoderParts.{EncoderView}
use Rattle.wc_validate.specs.Validate.{ModuleRecord}
use Rattle.wc_world.specs.Trimming.{NamedAdapter}
use Rattle.wc_world.specs.Views.{WorldAdapterView}
use Rattle.wc_world.specs.World.{IsTrimmedAdapter, adapter_trim_input}

-- the same names, in whatever order
abbrev pub AreSameNames : List (List ℕ) → List (List ℕ) → Type 0
AreSameNames names others = (name : List ℕ) → Contains names name ↔ Contains others name

-- an adapter of this name, of which this is recorded, was trimmed for exports of these names
abbrev pub IsTrimmedFor : ModuleRecord → List ℕ → ModuleRecord → List (List ℕ) → Type 0
IsTrimmedFor main name info names =
    (e : EncoderView) (x : NamedAdapter) (y : WorldAdapterView) → (t : IsTrimmedAdapter e main x y) → x.0 ≡ name → y.info ≡ info
    → AreSameNames names (adapter_trim_input main x t.first).required
