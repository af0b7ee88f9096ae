-- Data segments (5.5.14).
use Rattle.std.specs.Prelude.{Some}
use Rattle.wc_read.specs.Options.{◌>>=◌}
use Rattle.wc_read.specs.Reading.Reader.{Read, bytes_at, number_at}
use Rattle.wc_segments.specs.Data.{DataValue, data_form_of}
use Rattle.wc_segments.specs.Reading.Modes.{mode_at}
use Rattle.wc_segments.specs.declared.modes.ModeForm.{ModeForm}

unfoldable pub data_form_at : Read ModeForm
data_form_at bytes = number_at 32 bytes >>= λ flags. data_form_of flags.0 >>= λ form. Some (form, flags.1)

unfoldable pub data_at : Read DataValue
data_at bytes = do
  form ← data_form_at bytes
  mode ← mode_at form.0 form.1
  size ← number_at 32 mode.1
  content ← bytes_at size.0 size.1
  Some (record { mode = mode.0; bytes = content.0 }, content.1)
