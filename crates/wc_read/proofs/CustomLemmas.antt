-- Custom sections are found by their names.
use Rattle.std.proofs.Common.{◌≡◌, ℕ, List, true, false, Some, None, sym, ◌∙◌, ap, subst}
use Rattle.std.proofs.lemmas.Bool.{false≢true}
use Rattle.std.proofs.lemmas.Slice.Eq.{bytes_eq-Decides}
use Rattle.std.specs.Str.{bytes_eq}
use Rattle.wc_read.specs.Formats.{SpellsName}
use Rattle.wc_read.specs.Reading.Reader.{name_at}
use Rattle.wc_read.specs.Sections.{SectionValue}
use Rattle.wc_read.specs.Custom.{IsCustomSection}
use Rattle.wc_read.specs.Reading.Custom.{ContentAfterName}
use Rattle.wc_read.proofs.MeetsLemmas.{no_spelling, one_spelling}
use Rattle.wc_read.proofs.OptionsLemmas.{some_pair}
use Rattle.wc_read.proofs.TypesLemmas.{name_meets}

-- what is read before a section with this name
global_name_again : (name : List ℕ) (s : SectionValue) (rest : List ℕ) → IsCustomSection name s rest → name_at s.content ≡ Some (name, rest)
global_name_again name s rest c = ap name_at c.cut ∙ name_meets.again c.text name rest c.has_name

pub no_name : (name : List ℕ) (s : SectionValue) → name_at s.content ≡ None → ContentAfterName name s None
no_name name s none rest c = no_spelling SpellsName name_at name_meets s.content none c.text rest name c.cut c.has_name

pub other_name : (name found rest : List ℕ) (s : SectionValue) → name_at s.content ≡ Some (found, rest) → bytes_eq found name ≡ false → ContentAfterName name s None
other_name name found rest s e other after c =
    let p = some_pair found name rest after (sym e ∙ global_name_again name s after c) in
    absurd (false≢true (sym other ∙ (bytes_eq-Decides found name).1 p.0))

pub this_name : (name found rest : List ℕ) (s : SectionValue) → s.id ≡ 0 → name_at s.content ≡ Some (found, rest) → bytes_eq found name ≡ true → IsCustomSection name s rest
this_name name found rest s custom e this =
    let t = name_meets.parses s.content found rest e in
    let same = (bytes_eq-Decides found name).0 this in
    record { is_custom = custom; text = t.0; cut = t.1; has_name = subst (λ (n : List ℕ). SpellsName t.0 n) same t.2 }

-- the bytes after a name are one
pub after_one : (name : List ℕ) (s : SectionValue) (a b : List ℕ) → IsCustomSection name s a → IsCustomSection name s b → a ≡ b
after_one name s a b c d = (one_spelling SpellsName name_at name_meets c.text d.text name name a b (sym c.cut ∙ d.cut) c.has_name d.has_name).1
