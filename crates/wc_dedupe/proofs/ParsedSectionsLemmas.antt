-- Sections and the parts that they spell.
use Rattle.std.proofs.Common.{◌≡◌, ℕ, zero, suc, ◌+◌, ◌<◌, List, [], ◌∷◌, ◌++◌, length, get_or, map, take, subst, arith}
use Rattle.std.proofs.lemmas.List.{map-append, take_more, length-map}
use Rattle.std.proofs.Math.ListN.{get_or-map}
use Rattle.wc_read.specs.Imports.{ImportValue, SpellsImports}
use Rattle.wc_read.specs.Sections.{SectionValue, section_value}
use Rattle.wc_read.specs.declared.sections.Section.{Section}
use Rattle.wc_dedupe.specs.declared.parsed_sections.ParsedSection.{ParsedSection}
use Rattle.wc_dedupe.specs.ParsedSections.{ParsedSectionValue, parsed_section_value, import_section, other_section, SpellsParsedSection, AreSpelled}

-- an import section that spells no imports spells no part
pub no_section : (s : SectionValue) → s.id ≡ 2 → ((is : List ImportValue) → ¬ (SpellsImports s.content is)) → (p : ParsedSectionValue) → ¬ (SpellsParsedSection s p)
no_section s two none (import_section is) h = none is h.1
no_section s two none (other_section t) h = h.0 two

pub AreSpelled-push : (ss : List SectionValue) (ps : List ParsedSectionValue) (s : SectionValue) (p : ParsedSectionValue) → AreSpelled ss ps → SpellsParsedSection s p → AreSpelled (ss ++ s ∷ []) (ps ++ p ∷ [])
AreSpelled-push [] [] s p h here = (here, tt)
AreSpelled-push [] (q ∷ qs) s p h here = absurd h
AreSpelled-push (t ∷ ts) [] s p h here = absurd h
AreSpelled-push (t ∷ ts) (q ∷ qs) s p h here = (h.0, AreSpelled-push ts qs s p h.1 here)

-- a section among them spells a part
AreSpelled-get : (ss : List SectionValue) (ps : List ParsedSectionValue) (i : ℕ) (d : SectionValue) → AreSpelled ss ps → i < length ss → (p : ParsedSectionValue) × SpellsParsedSection (get_or ss i d) p
AreSpelled-get [] ps i d h lt = absurd (omega (arith, lt))
AreSpelled-get (t ∷ ts) [] i d h lt = absurd h
AreSpelled-get (t ∷ ts) (q ∷ qs) zero d h lt = (q, h.0)
AreSpelled-get (t ∷ ts) (q ∷ qs) (suc i) d h lt = AreSpelled-get ts qs i d h.1 (omega (arith, lt))

-- the same of the code's sections, by the index of one
pub spelled_at : (sections : List Section) (ps : List ParsedSectionValue) (i : ℕ) (d : Section) → AreSpelled (map section_value sections) ps → i < length sections → (p : ParsedSectionValue) × SpellsParsedSection (section_value (get_or sections i d)) p
spelled_at sections ps i d h lt =
    let as_many_indices : i < length (map section_value sections) = omega (arith, length-map sections section_value) in
    subst (λ (s : SectionValue). (p : ParsedSectionValue) × SpellsParsedSection s p) (get_or-map section_value sections i d) (AreSpelled-get (map section_value sections) ps i (section_value d) h as_many_indices)

pub spelled_push : (sections : List Section) (parts : List ParsedSection) (i : ℕ) (d : Section) (part : ParsedSection) → i < length sections → AreSpelled (map section_value (take i sections)) (map parsed_section_value parts) → SpellsParsedSection (section_value (get_or sections i d)) (parsed_section_value part) → AreSpelled (map section_value (take (i + 1) sections)) (map parsed_section_value (parts ++ part ∷ []))
spelled_push sections parts i d part lt h here =
    let more = take_more sections i d lt in
    rw (more, map-append, map-append) (AreSpelled-push _ _ _ _ h here)
