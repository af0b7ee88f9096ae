-- The names of core modules: the loops over subsections and sections.
use Rattle.std.proofs.Common.{◌≡◌, ℕ, suc, ◌+◌, ◌-◌, ◌<◌, List, [], ◌∷◌, ◌++◌, length, take, get_or, Bool, true, false, Some, None, refl, sym, ◌∙◌, ap, subst, append_assoc, append-nil, eqb-true, arith}
use Rattle.std.specs.Prelude.{◌==◌}
use Rattle.std.proofs.lemmas.List.{take_more, map-append, nil_from_length}
use Rattle.wc_read.specs.Formats.{SpellsNumber}
use Rattle.wc_read.specs.Names.{GlobalNameValue, SpellsGlobalName}
use Rattle.wc_read.specs.Reading.Custom.{ContentAfterName}
use Rattle.wc_read.specs.Reading.Framing.{section_at}
use Rattle.wc_read.specs.Reading.Names.{global_name_at}
use Rattle.wc_read.specs.Reading.Reader.{number_at}
use Rattle.wc_read.specs.Sections.{SectionValue, SpellsSection}
use Rattle.wc_read.proofs.MeetsLemmas.{number_meets, no_spelling}
use Rattle.wc_read.proofs.NamesLemmas.{global_name_meets}
use Rattle.wc_read.proofs.SectionsLemmas.{section_meets}
use Rattle.wc_component_file.proofs.FramesLemmas.{some_left}
use Rattle.wc_component_file.specs.Frames.{FrameValue, frame_value, frame_values}
use Rattle.wc_component_file.specs.Names.{AllNames, NumberedPairs, no_number, numbered, PairsUpTo, all_there, bytes_follow, none_there, one_there, NamesIn, no_more, other_names, complete, faulty, SectionNames, name_section, other_section, component_name_text}
use Rattle.wc_component_file.specs.Private.Names.{NamesAfterSort}
use Rattle.wc_component_file.specs.declared.frames.Frame.{Frame}

-- pairs of a subsection

-- the pairs that the rest gives, of which as many are left as were not read, come after those at the front
pub record ArePairsTo (bytes : List ℕ) (n : ℕ) (front : List GlobalNameValue) (counter : ℕ) (rest : List ℕ) : Type 0 where
  pub to_all : (left : ℕ) (others : List GlobalNameValue) (whole : Bool) → left + counter ≡ n → PairsUpTo left rest others whole → NumberedPairs bytes (front ++ others) whole

pub pairs_begin : (bytes : List ℕ) (n : ℕ) (rest : List ℕ) → number_at 32 bytes ≡ Some (n, rest) → ArePairsTo bytes n [] 0 rest
pairs_begin bytes n rest e =
    let t = (number_meets 32).parses bytes n rest e in
    record { to_all = λ left others whole all p. let same : left ≡ n = omega (arith, all) in numbered n t.0 rest t.1 t.2 (subst (λ (k : ℕ). PairsUpTo k rest others whole) same p) }

pub pairs_more : (bytes : List ℕ) (n : ℕ) (front : List GlobalNameValue) (counter : ℕ) (rest : List ℕ) (p : GlobalNameValue) (after : List ℕ) → ArePairsTo bytes n front counter rest → global_name_at rest ≡ Some (p, after)
    → ArePairsTo bytes n (front ++ p ∷ []) (counter + 1) after
pairs_more bytes n front counter rest p after a e =
    let t = global_name_meets.parses rest p after e in
    record { to_all = λ left others whole all q. rw append_assoc (a.to_all (suc left) (p ∷ others) whole (omega (arith, all)) (one_there p t.0 after t.1 t.2 q)) }

pub pairs_none : (bytes : List ℕ) → number_at 32 bytes ≡ None → NumberedPairs bytes [] false
pairs_none bytes none = no_number (no_spelling (SpellsNumber 32) (number_at 32) (number_meets 32) bytes none)

pub pairs_missing : (bytes : List ℕ) (n : ℕ) (front : List GlobalNameValue) (counter : ℕ) (rest : List ℕ) → ArePairsTo bytes n front counter rest → counter < n → global_name_at rest ≡ None → NumberedPairs bytes front false
pairs_missing bytes n front counter rest a less none =
    rw append-nil at (a.to_all (suc (n - counter - 1)) [] false (omega (arith, less)) (none_there (no_spelling SpellsGlobalName global_name_at global_name_meets rest none)))

pub pairs_end : (bytes : List ℕ) (n : ℕ) (front : List GlobalNameValue) (counter : ℕ) (rest : List ℕ) (whole : Bool) → ArePairsTo bytes n front counter rest → counter ≡ n → whole ≡ (length rest == 0) → NumberedPairs bytes front whole
pairs_end bytes n front counter rest true a all is =
    let empty : rest ≡ [] = nil_from_length rest (eqb-true (length rest) 0 (sym is)) in
    rw append-nil at (a.to_all 0 [] true (omega (arith, all)) (subst (λ (r : List ℕ). PairsUpTo 0 r [] true) (sym empty) all_there))
pairs_end bytes n front counter rest false a all is = rw append-nil at (a.to_all 0 [] false (omega (arith, all)) (bytes_follow (some_left rest is)))

-- subsections of a section

-- the pairs that the rest gives, after those at the front, are those of all of the bytes
pub record AreNamesTo (bytes : List ℕ) (front : List GlobalNameValue) (rest : List ℕ) : Type 0 where
  pub to_all : (others : List GlobalNameValue) → NamesIn rest others → NamesIn bytes (front ++ others)

pub names_begin : (bytes : List ℕ) → AreNamesTo bytes [] bytes
names_begin bytes = record { to_all = λ others n. n }

pub names_other : (bytes : List ℕ) (front : List GlobalNameValue) (rest : List ℕ) (s : SectionValue) (after : List ℕ) → AreNamesTo bytes front rest → section_at rest ≡ Some (s, after) → NamesAfterSort s None → AreNamesTo bytes front after
names_other bytes front rest s after a e other =
    let t = section_meets.parses rest s after e in
    record { to_all = λ others n. a.to_all others (other_names s after (record { text = t.0; cut = t.1; spelled = t.2 }) other n) }

pub names_more : (bytes : List ℕ) (front : List GlobalNameValue) (rest : List ℕ) (s : SectionValue) (after names : List ℕ) (pairs : List GlobalNameValue) → AreNamesTo bytes front rest → section_at rest ≡ Some (s, after)
    → NamesAfterSort s (Some names) → NumberedPairs names pairs true → AreNamesTo bytes (front ++ pairs) after
names_more bytes front rest s after names pairs a e this p =
    let t = section_meets.parses rest s after e in
    record { to_all = λ others n. rw append_assoc (a.to_all (pairs ++ others) (complete pairs others s names after (record { text = t.0; cut = t.1; spelled = t.2 }) this p n)) }

pub names_faulty : (bytes : List ℕ) (front : List GlobalNameValue) (rest : List ℕ) (s : SectionValue) (after names : List ℕ) (pairs : List GlobalNameValue) → AreNamesTo bytes front rest → section_at rest ≡ Some (s, after)
    → NamesAfterSort s (Some names) → NumberedPairs names pairs false → NamesIn bytes (front ++ pairs)
names_faulty bytes front rest s after names pairs a e this p =
    let t = section_meets.parses rest s after e in
    a.to_all pairs (faulty s names after (record { text = t.0; cut = t.1; spelled = t.2 }) this p)

pub names_end : (bytes : List ℕ) (front : List GlobalNameValue) (rest : List ℕ) → AreNamesTo bytes front rest → section_at rest ≡ None → NamesIn bytes front
names_end bytes front rest a none = rw append-nil at (a.to_all [] (no_more (no_spelling SpellsSection section_at section_meets rest none)))

-- sections

names_push : (fs : List FrameValue) (f : FrameValue) (front these : List GlobalNameValue) → AllNames fs front → SectionNames f.section these → AllNames (fs ++ f ∷ []) (front ++ these)
names_push [] f front these n o = rw n (these, [], sym (append-nil these), o, refl)
names_push (x ∷ xs) f front these n o = (n.0, n.1 ++ these, ap (λ (r : List GlobalNameValue). r ++ these) n.2 ∙ append_assoc n.0 n.1 these, n.3, names_push xs f n.1 these n.4 o)

one_more : (fs : List Frame) (index : ℕ) (front these : List GlobalNameValue) (d : Frame) → AllNames (frame_values (take index fs)) front → index < length fs → SectionNames (frame_value (get_or fs index d)).section these
    → AllNames (frame_values (take (index + 1) fs)) (front ++ these)
one_more fs index front these d a less o = rw (take_more fs index d less, map-append) (names_push (frame_values (take index fs)) (frame_value (get_or fs index d)) front these a o)

pub frames_more : (fs : List Frame) (index : ℕ) (front these : List GlobalNameValue) (d : Frame) (bytes : List ℕ) → AllNames (frame_values (take index fs)) front → index < length fs
    → ContentAfterName component_name_text (frame_value (get_or fs index d)).section (Some bytes) → NamesIn bytes these → AllNames (frame_values (take (index + 1) fs)) (front ++ these)
frames_more fs index front these d bytes a less c n = one_more fs index front these d a less (name_section bytes c n)

pub frames_other : (fs : List Frame) (index : ℕ) (front : List GlobalNameValue) (d : Frame) → AllNames (frame_values (take index fs)) front → index < length fs
    → ContentAfterName component_name_text (frame_value (get_or fs index d)).section None → AllNames (frame_values (take (index + 1) fs)) front
frames_other fs index front d a less none = rw append-nil at (one_more fs index front [] d a less (other_section none))
