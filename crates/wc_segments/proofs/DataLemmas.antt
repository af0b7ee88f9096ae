-- Data segments are read as they are spelled.
use Rattle.std.proofs.Common.{ℕ, List, ◌++◌, length, refl, sym, ◌∙◌, ap, subst}
use Rattle.wc_read.specs.Formats.{Format, SpellsNumber, Joined}
use Rattle.wc_read.specs.Options.{◌>>=◌}
use Rattle.wc_read.specs.Reading.Reader.{Read, bytes_at, number_at}
use Rattle.wc_read.proofs.MeetsLemmas.{Meets, same_meets, bind_meets, made_meets, made_at, number_meets, bytes_meet, AreBytes, Made}
use Rattle.wc_segments.specs.Modes.{ModeValue, SpellsMode}
use Rattle.wc_segments.specs.Data.{DataValue, data_form_of, SpellsData}
use Rattle.wc_segments.specs.Reading.Modes.{mode_at}
use Rattle.wc_segments.specs.Reading.Data.{data_form_at, data_at}
use Rattle.wc_segments.specs.declared.modes.ModeForm.{ModeForm}
use Rattle.wc_segments.proofs.FormsLemmas.{looked_meets, Looked}
use Rattle.wc_segments.proofs.ModesLemmas.{mode_meets}

abbrev IsForm : Format ModeForm
IsForm = Looked (SpellsNumber 32) data_form_of

form_meets : Meets IsForm data_form_at
unfolding data_form_at
form_meets = looked_meets (SpellsNumber 32) (number_at 32) data_form_of (number_meets 32)

made_data : ModeValue → List ℕ → DataValue
made_data mode content = record { mode = mode; bytes = content }

abbrev AfterSize : ModeValue → ℕ → Format DataValue
AfterSize mode size = Made (AreBytes size) (made_data mode)

abbrev AfterMode : ModeValue → Format DataValue
AfterMode mode = Joined (SpellsNumber 32) (AfterSize mode)

abbrev AfterForm : ModeForm → Format DataValue
AfterForm f = Joined (SpellsMode f) AfterMode

abbrev after_size_at : ModeValue → ℕ → Read DataValue
after_size_at mode size bytes = bytes_at size bytes >>= made_at (made_data mode)

abbrev after_mode_at : ModeValue → Read DataValue
after_mode_at mode bytes = number_at 32 bytes >>= λ size. after_size_at mode size.0 size.1

abbrev after_form_at : ModeForm → Read DataValue
after_form_at f bytes = mode_at f bytes >>= λ mode. after_mode_at mode.0 mode.1

data_to : (bytes : List ℕ) (d : DataValue) → Joined IsForm AfterForm bytes d → SpellsData bytes d
unfolding made_data
data_to bytes d j =
    let m = j.5 in
    let z = m.5 in
    let x = z.5 in
    rw x.2 (record {
      flags = j.4.0;
      form = j.0;
      flags_bytes = j.1;
      mode_bytes = m.1;
      content_bytes = m.2;
      cut = j.3 ∙ ap (λ (r : List ℕ). j.1 ++ r) m.3;
      has_flags = j.4.1;
      is_form = j.4.2;
      has_mode = m.4;
      has_content = (z.1, z.3 ∙ ap (λ (r : List ℕ). z.1 ++ r) x.1.0, subst (λ (n : ℕ). SpellsNumber 32 z.1 n) (sym x.1.1) z.4);
    })

data_from : (bytes : List ℕ) (d : DataValue) → SpellsData bytes d → Joined IsForm AfterForm bytes d
unfolding made_data
data_from bytes d s =
    let c = s.has_content in (
      s.form,
      s.flags_bytes,
      s.mode_bytes ++ s.content_bytes,
      s.cut,
      (s.flags, s.has_flags, s.is_form),
      (d.mode, s.mode_bytes, s.content_bytes, refl, s.has_mode, (length d.bytes, c.0, d.bytes, c.1, c.2, (d.bytes, (refl, refl), refl))),
    )

pub data_meets : Meets SpellsData data_at
unfolding data_at made_data
data_meets =
    same_meets (Joined IsForm AfterForm) SpellsData data_at
    (bind_meets IsForm data_form_at AfterForm after_form_at form_meets
    (λ f. bind_meets (SpellsMode f) (mode_at f) AfterMode after_mode_at (mode_meets f)
    (λ mode. bind_meets (SpellsNumber 32) (number_at 32) (AfterSize mode) (after_size_at mode) (number_meets 32)
    (λ size. made_meets (AreBytes size) (bytes_at size) (made_data mode) (bytes_meet size)))))
    data_to data_from
