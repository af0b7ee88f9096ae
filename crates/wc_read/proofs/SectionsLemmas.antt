-- Sections are cut as they are spelled.
use Rattle.std.proofs.Common.{◌≡◌, ℕ, List, [], ◌∷◌, ◌++◌, length, refl, ◌∙◌, sym, subst}
use Rattle.std.proofs.lemmas.List.{append_cancel_left}
use Rattle.wc_read.proofs.ToEndLemmas.{items_unique}
use Rattle.wc_read.specs.Formats.{Format, SpellsNumber, SpellsItems, Joined}
use Rattle.wc_read.specs.Sections.{SectionValue, SpellsSection, SpellsFrames, module_header}
use Rattle.wc_read.specs.Reading.Reader.{byte_at, bytes_at, number_at}
use Rattle.wc_read.specs.Reading.Framing.{section_at}
use Rattle.wc_read.specs.Options.{◌>>=◌}
use Rattle.wc_read.proofs.MeetsLemmas.{Meets, same_meets, bind_meets, made_meets, made_at, number_meets, byte_meets, bytes_meet, IsByte, AreBytes, Made}

made_section : ℕ → List ℕ → SectionValue
made_section id content = record { id = id; content = content }

abbrev SpellsEnd : ℕ → ℕ → Format SectionValue
SpellsEnd id size = Made (AreBytes size) (made_section id)

section_to : (bytes : List ℕ) (s : SectionValue) → Joined IsByte (λ id. Joined (SpellsNumber 32) (SpellsEnd id)) bytes s → SpellsSection bytes s
unfolding made_section
section_to bytes s j =
    let e = j.5.5 in
    rw e.2 (record { size = j.5.1; cut = rw (j.3, j.4, j.5.3, e.1.0) refl; has_size = rw e.1.1 j.5.4 })

section_from : (bytes : List ℕ) (s : SectionValue) → SpellsSection bytes s → Joined IsByte (λ id. Joined (SpellsNumber 32) (SpellsEnd id)) bytes s
unfolding made_section
section_from bytes s t = (s.id, s.id ∷ [], t.size ++ s.content, t.cut, refl, (length s.content, t.size, s.content, refl, t.has_size, (s.content, (refl, refl), refl)))

pub section_meets : Meets SpellsSection section_at
unfolding section_at made_section
section_meets =
    same_meets (Joined IsByte (λ id. Joined (SpellsNumber 32) (SpellsEnd id))) SpellsSection section_at
    (bind_meets IsByte byte_at (λ id. Joined (SpellsNumber 32) (SpellsEnd id)) (λ id bytes. number_at 32 bytes >>= λ size. bytes_at size.0 size.1 >>= made_at (made_section id)) byte_meets
    (λ id. bind_meets (SpellsNumber 32) (number_at 32) (SpellsEnd id) (λ size bytes. bytes_at size bytes >>= made_at (made_section id)) (number_meets 32)
    (λ size. made_meets (AreBytes size) (bytes_at size) (made_section id) (bytes_meet size))))
    section_to section_from

-- a section has bytes
pub section_some : (s : SectionValue) → SpellsSection [] s → ⊥
section_some s t = absurd (cc t.cut)

pub frames_one : (bytes : List ℕ) (xs ys : List SectionValue) → SpellsFrames bytes xs → SpellsFrames bytes ys → xs ≡ ys
frames_one bytes xs ys s t =
    let same : s.0 ≡ t.0 = append_cancel_left module_header s.0 t.0 (sym s.1 ∙ t.1) in
    items_unique SpellsSection section_at section_meets section_some xs ys t.0 (subst (λ (b : List ℕ). SpellsItems SpellsSection b xs) same s.2) t.2
