-- Modes of segments in their forms (5.5.12 and 5.5.14).
use Rattle.std.specs.Prelude.{Some}
use Rattle.wc_read.specs.Options.{◌>>=◌}
use Rattle.wc_read.specs.Reading.Inits.{init_bytes_at}
use Rattle.wc_read.specs.Reading.Reader.{Read, as_made, number_at}
use Rattle.wc_segments.specs.Modes.{ModeValue, passive, active, declarative}
use Rattle.wc_segments.specs.declared.modes.ModeForm.{ModeForm}
use Rattle.wc_segments.specs.declared.modes.ModeForm.TheVariants.{First, Named, Passive, Declarative}

unfoldable pub mode_at : ModeForm → Read ModeValue
mode_at First bytes = init_bytes_at bytes >>= as_made (active 0)
mode_at Named bytes = number_at 32 bytes >>= λ index. init_bytes_at index.1 >>= as_made (active index.0)
mode_at Passive bytes = Some (passive, bytes)
mode_at Declarative bytes = Some (declarative, bytes)
