-- Modes of segments are read as they are spelled.
use Rattle.std.proofs.Common.{ℕ, List}
use Rattle.wc_read.specs.Formats.{SpellsNumber}
use Rattle.wc_read.specs.Options.{◌>>=◌}
use Rattle.wc_read.specs.Reading.Inits.{init_bytes_at}
use Rattle.wc_read.specs.Reading.Reader.{number_at}
use Rattle.wc_read.proofs.MeetsLemmas.{Meets, bind_meets, made_meets, made_at, number_meets, Made}
use Rattle.wc_read.proofs.InitsLemmas.{init_bytes_meet}
use Rattle.wc_segments.specs.Modes.{passive, active, declarative, IsInitialiser, SpellsMode}
use Rattle.wc_segments.specs.Reading.Modes.{mode_at}
use Rattle.wc_segments.specs.declared.modes.ModeForm.{ModeForm}
use Rattle.wc_segments.specs.declared.modes.ModeForm.TheVariants.{First, Named, Passive, Declarative}
use Rattle.wc_segments.proofs.FormsLemmas.{nothing_meets}

pub mode_meets : (form : ModeForm) → Meets (SpellsMode form) (mode_at form)
unfolding mode_at
mode_meets First = made_meets IsInitialiser init_bytes_at (active 0) init_bytes_meet
mode_meets Named =
    bind_meets (SpellsNumber 32) (number_at 32) (λ (index : ℕ). Made IsInitialiser (active index))
    (λ (index : ℕ) (bytes : List ℕ). init_bytes_at bytes >>= made_at (active index)) (number_meets 32)
    (λ index. made_meets IsInitialiser init_bytes_at (active index) init_bytes_meet)
mode_meets Passive = nothing_meets passive
mode_meets Declarative = nothing_meets declarative
