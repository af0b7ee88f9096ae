-- Sections in their order, some of them left out, spell what is in them.
use Rattle.std.proofs.Common.{◌≡◌, ◌≢◌, ℕ, zero, suc, ◌<◌, ◌≤◌, List, [], ◌∷◌, ◌++◌, length, map, Bool, true, false, Option, Some, None, refl, ap, arith}
use Rattle.std.specs.Prelude.{◌==◌, All, IfSome, if◌then◌else◌}
use Rattle.std.specs.List.{AllByRecursion, slice_index, AllPairs, filter, find}
use Rattle.std.specs.Option.{option_map}
use Rattle.std.proofs.lemmas.List.Elements.{All-nil, All-cons, All-weaker}
use Rattle.std.proofs.lemmas.List.Kept.{AllPairs-cons}
use Rattle.wc_read.specs.Formats.{SpellsItems, SpellsName}
use Rattle.wc_read.specs.Sections.{SectionValue, SpellsSection}
use Rattle.wc_read.specs.Order.{section_position, ComesBefore, IsSection, content_of}
use Rattle.wc_read.specs.Custom.{IsCustomSection}
use Rattle.wc_read.specs.Names.{name_text as name_section_text, NamesOf, other_section}
use Rattle.wc_read.specs.Producers.{producers_text, IsProducers, NoneReads, LastProducers}
use Rattle.wc_read.specs.Modules.{is_segments}
use Rattle.wc_read.proofs.MeetsLemmas.{one_spelling}
use Rattle.wc_read.proofs.TypesLemmas.{name_meets}
use Rattle.wc_read.specs.Reading.Reader.{name_at}
use Rattle.std.proofs.lemmas.Str.{IsUtf8-from_ascii}
use Rattle.wc_write.specs.Text.{number_text, name_text}
use Rattle.wc_write.specs.Modules.{OptionalSection, content_text, SizeFits, producers_content}
use Rattle.wc_write.proofs.TextLemmas.{number_32, section_spelled}

-- the sections that have contents

abbrev pub with_section : ℕ → Option (List ℕ) → List SectionValue → List SectionValue
with_section id None ss = ss
with_section id (Some content) ss = record { id = id; content = content } ∷ ss

abbrev pub sections_of : List OptionalSection → List SectionValue
sections_of [] = []
sections_of (p ∷ ps) = with_section p.id p.content (sections_of ps)

-- what sections that are after a position spell, and say besides

abbrev IsAbove : ℕ → SectionValue → Type 0
IsAbove position s = s.id ≢ 0 → position < section_position s.id

pub record SectionsAfter (position : ℕ) (bytes : List ℕ) (ss : List SectionValue) (producers : Option (List ℕ)) : Type 0 where
  pub spelled : SpellsItems SpellsSection bytes ss
  pub each : All IsSection ss
  pub above : All (IsAbove position) ss
  pub ordered : AllPairs ComesBefore ss
  pub unnamed : NamesOf ss []
  pub last : LastProducers ss producers
  pub no_segments : filter is_segments (map (λ s. s.id) ss) ≡ []

none_after : (id : ℕ) (content : List ℕ) (ss : List SectionValue) → id ≢ 0 → NoneReads ss → NoneReads (record { id = id; content = content } ∷ ss)
none_after id content ss other none = (λ bytes r. other r.0.is_custom, none)

last_after : (id : ℕ) (content : List ℕ) (ss : List SectionValue) (producers : Option (List ℕ)) → id ≢ 0 → LastProducers ss producers → LastProducers (record { id = id; content = content } ∷ ss) producers
last_after id content ss None other l = none_after id content ss other l
last_after id content ss (Some bytes) other l = record {
  front = record { id = id; content = content } ∷ l.front;
  section = l.section;
  back = l.back;
  cut = ap (λ (r : List SectionValue). record { id = id; content = content } ∷ r) l.cut;
  reads = l.reads;
  none_after = l.none_after;
}

-- one more at the front
pub sections_after_more : (position id : ℕ) (content : Option (List ℕ)) (bytes : List ℕ) (ss : List SectionValue) (producers : Option (List ℕ)) → id ≢ 0 → id ≤ 12 → position < section_position id → is_segments id ≡ false → SizeFits content → SectionsAfter (section_position id) bytes ss producers → SectionsAfter position (content_text id content ++ bytes) (with_section id content ss) producers
sections_after_more position id None bytes ss producers other known less plain fitting s = record {
  spelled = s.spelled;
  each = s.each;
  above = All-weaker (IsAbove (section_position id)) (IsAbove position) (λ t f ne. let h = f ne in omega (arith, h, less)) ss s.above;
  ordered = s.ordered;
  unnamed = s.unnamed;
  last = s.last;
  no_segments = s.no_segments;
}
sections_after_more position id (Some content) bytes ss producers other known less plain fitting s =
    let section : SectionValue = record { id = id; content = content } in
    record {
      spelled = (content_text id (Some content), bytes, refl, section_spelled section fitting, s.spelled);
      each = All-cons IsSection section ss (record { known = known; named = λ zero. absurd (other zero) }) s.each;
      above = All-cons (IsAbove position) section ss (λ _. less) (All-weaker (IsAbove (section_position id)) (IsAbove position) (λ t f ne. let h = f ne in omega (arith, h, less)) ss s.above);
      ordered = AllPairs-cons ComesBefore section ss (All-weaker (IsAbove (section_position id)) (ComesBefore section) (λ t f _ ne. f ne) ss s.above) s.ordered;
      unnamed = ([], [], refl, other_section (λ rest c. other c.is_custom), s.unnamed);
      last = last_after id content ss producers other s.last;
      no_segments = rw plain s.no_segments;
    }

-- the custom section of producers, after all

bounded : (bs : List ℕ) → AllByRecursion (λ b. b < 128) bs → (i : ℕ) → slice_index bs i < 128
bounded [] h i = omega arith
bounded (b ∷ bs) h zero = h.0
bounded (b ∷ bs) h (suc i) = bounded bs h.1 i

producers_named : SpellsName (name_text producers_text) producers_text
producers_named = (number_text 9, refl, number_32 9 (omega arith), IsUtf8-from_ascii producers_text (bounded producers_text (omega arith, (omega arith, (omega arith, (omega arith, (omega arith, (omega arith, (omega arith, (omega arith, (omega arith, tt)))))))))))

abbrev producers_section : List ℕ → SectionValue
producers_section bytes = record { id = 0; content = producers_content bytes }

no_name_section : (bytes rest : List ℕ) → IsCustomSection name_section_text (producers_section bytes) rest → ⊥
no_name_section bytes rest c =
    let same = one_spelling SpellsName name_at name_meets (name_text producers_text) c.text producers_text name_section_text bytes rest c.cut producers_named c.has_name in
    let sizes : ◌≡◌ {A = ℕ} 9 4 = ap length same.0 in
    absurd (omega arith)

pub sections_after_last : (position : ℕ) (producers : Option (List ℕ)) → IfSome producers IsProducers → SizeFits (option_map producers_content producers) → SectionsAfter position (content_text 0 (option_map producers_content producers) ++ []) (with_section 0 (option_map producers_content producers) []) producers
sections_after_last position None reads fitting = record {
  spelled = refl;
  each = All-nil IsSection;
  above = All-nil (IsAbove position);
  ordered = λ i j d below within. absurd (omega (arith, within));
  unnamed = refl;
  last = tt;
  no_segments = refl;
}
sections_after_last position (Some bytes) reads fitting =
    let section = producers_section bytes in
    record {
      spelled = (content_text 0 (Some (producers_content bytes)), [], refl, section_spelled section fitting, refl);
      each = All-cons IsSection section [] (record { known = omega arith; named = λ _. (producers_text, name_text producers_text, bytes, refl, producers_named) }) (All-nil IsSection);
      above = All-cons (IsAbove position) section [] (λ other. absurd (other refl)) (All-nil (IsAbove position));
      ordered = AllPairs-cons ComesBefore section [] (All-nil (ComesBefore section)) (λ i j d below within. absurd (omega (arith, within)));
      unnamed = ([], [], refl, other_section (no_name_section bytes), refl);
      last = record {
        front = [];
        section = section;
        back = [];
        cut = refl;
        reads = (record { is_custom = refl; text = name_text producers_text; cut = refl; has_name = producers_named }, reads);
        none_after = tt;
      };
      no_segments = refl;
    }

-- the content of an id, by the optional sections

abbrev or_else : {A : Type 0} → Option A → Option A → Option A
or_else None o = o
or_else (Some x) o = Some x

pub or_none : {A : Type 0} (o : Option A) → or_else o None ≡ o
or_none None = refl
or_none (Some x) = refl

abbrev pub first_of : ℕ → List OptionalSection → Option (List ℕ)
first_of id [] = None
first_of id (p ∷ ps) = if p.id == id then or_else p.content (first_of id ps) else first_of id ps

either : {A : Type 0} (test : Bool) (o r : Option A) → o ≡ r → o ≡ (if test then r else r)
either true o r e = e
either false o r e = e

found_first : (test : Bool) (s : SectionValue) (f : Option SectionValue) (r : Option (List ℕ)) → option_map (λ s. s.content) f ≡ r → option_map (λ s. s.content) (if test then Some s else f) ≡ (if test then Some s.content else r)
found_first true s f r e = refl
found_first false s f r e = e

content_more : (k id : ℕ) (o : Option (List ℕ)) (ss : List SectionValue) (r : Option (List ℕ)) → content_of k ss ≡ r → content_of k (with_section id o ss) ≡ (if id == k then or_else o r else r)
content_more k id None ss r e = either (id == k) (content_of k ss) r e
content_more k id (Some content) ss r e = found_first (id == k) (record { id = id; content = content }) (find (λ s. s.id == k) ss) r e

pub content_at : (k : ℕ) (ps : List OptionalSection) → content_of k (sections_of ps) ≡ first_of k ps
content_at k [] = refl
content_at k (p ∷ ps) = content_more k p.id p.content (sections_of ps) (first_of k ps) (content_at k ps)
