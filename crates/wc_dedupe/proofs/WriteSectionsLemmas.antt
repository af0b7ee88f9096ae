-- Parts that are written one after another.
use Rattle.std.proofs.Common.{◌≡◌, ℕ, ◌+◌, ◌<◌, ◌≤◌, List, [], ◌∷◌, ◌++◌, length, get_or, map, take, drop, Option, Result, Err, refl, sym, ◌∙◌, ap, append_assoc, append-nil, subst, arith}
use Rattle.std.specs.Prelude.{All, Any}
use Rattle.std.proofs.Math.ListN.{length-append}
use Rattle.std.proofs.lemmas.Grind.{flat_map-append}
use Rattle.std.proofs.lemmas.List.{length-drop, length-map, drop_more}
use Rattle.std.proofs.Math.Seq.{get_or-append_seam}
use Rattle.std.proofs.lemmas.List.Elements.{All-push}
use Rattle.wc_read.specs.Sections.{module_header}
use Rattle.wc_read.specs.Imports.{import_value, import_values}
use Rattle.wc_read.specs.declared.types.Import.{Import}
use Rattle.wc_dedupe.specs.declared.parsed_sections.ParsedSection.{ParsedSection}
use Rattle.wc_dedupe.specs.Renaming.{RenameView}
use Rattle.wc_dedupe.specs.ParsedSections.{ParsedSectionValue, parsed_section_value, imports_in, imports_of, import_count, renamed_section, renamed_sections, parsed_section_text, parsed_module_text, Fits, IsTooLarge}

-- parts were written up to here: what is after them, with the indices that are left, makes all parts
pub record AreWritten (rs : List RenameView) (parts : List ParsedSectionValue) (indices : List (Option ℕ)) (after : List ParsedSectionValue) (left : List (Option ℕ)) (out : List ℕ) : Type 0 where
  pub front : List ParsedSectionValue
  pub cut : renamed_sections rs parts indices ≡ front ++ renamed_sections rs after left
  pub written : out ≡ parsed_module_text front
  pub fits : All Fits front
  pub enough : length left ≡ length (imports_of after)

pub written_start : (rs : List RenameView) (parts : List ParsedSectionValue) (indices : List (Option ℕ)) → length indices ≡ length (imports_of parts) → AreWritten rs parts indices parts indices module_header
written_start rs parts indices enough = record { front = []; cut = refl; written = sym (append-nil module_header); fits = λ k d lt. absurd (omega (arith, lt)); enough = enough }

pub written_room : (rs : List RenameView) (parts : List ParsedSectionValue) (indices : List (Option ℕ)) (p : ParsedSectionValue) (after : List ParsedSectionValue) (left : List (Option ℕ)) (out : List ℕ) → AreWritten rs parts indices (p ∷ after) left out → import_count p ≤ length left
written_room rs parts indices p after left out w = omega (arith, w.enough, length-append (imports_in p) (imports_of after))

pub written_more : (rs : List RenameView) (parts : List ParsedSectionValue) (indices : List (Option ℕ)) (p : ParsedSectionValue) (after : List ParsedSectionValue) (left : List (Option ℕ)) (out more : List ℕ) → AreWritten rs parts indices (p ∷ after) left out → more ≡ out ++ parsed_section_text (renamed_section rs p (take (import_count p) left)) → Fits (renamed_section rs p (take (import_count p) left)) → AreWritten rs parts indices after (drop (import_count p) left) more
written_more rs parts indices p after left out more w e fit =
    let q = renamed_section rs p (take (import_count p) left) in
    record {
      front = w.front ++ q ∷ [];
      cut = w.cut ∙ sym (append_assoc w.front (q ∷ []) (renamed_sections rs after (drop (import_count p) left)));
      written = e ∙ rw (w.written, flat_map-append, append_assoc, append-nil) refl;
      fits = All-push Fits w.front q w.fits fit;
      enough = rw length-drop (omega (arith, w.enough, length-append (imports_in p) (imports_of after)));
    }

pub written_end : (rs : List RenameView) (parts : List ParsedSectionValue) (indices left : List (Option ℕ)) (out : List ℕ) → AreWritten rs parts indices [] left out → out ≡ parsed_module_text (renamed_sections rs parts indices)
written_end rs parts indices left out w = w.written ∙ ap parsed_module_text (sym (w.cut ∙ append-nil w.front))

-- a part that is too large is one of all parts
pub written_too_large : (rs : List RenameView) (parts : List ParsedSectionValue) (indices : List (Option ℕ)) (p : ParsedSectionValue) (after : List ParsedSectionValue) (left : List (Option ℕ)) (out : List ℕ) → AreWritten rs parts indices (p ∷ after) left out → IsTooLarge (renamed_section rs p (take (import_count p) left)) → Any IsTooLarge (renamed_sections rs parts indices)
written_too_large rs parts indices p after left out w large =
    let q = renamed_section rs p (take (import_count p) left) in
    let others = renamed_sections rs after (drop (import_count p) left) in
    rw w.cut (length w.front, q, omega (arith, length-append w.front (q ∷ others)), get_or-append_seam w.front q others q, large)

-- the code's parts from one of them on
pub after_cut : (parts : List ParsedSection) (i : ℕ) (part : ParsedSection) → i < length parts → part ≡ get_or parts i part → map parsed_section_value (drop i parts) ≡ parsed_section_value part ∷ map parsed_section_value (drop (i + 1) parts)
after_cut parts i part lt is = ap (map parsed_section_value) (drop_more parts i part lt) ∙ rw (← is) refl

-- how many imports a part has
pub count_is : (imports : List Import) (p : ParsedSectionValue) → import_values imports ≡ imports_in p → length imports ≡ import_count p
count_is imports p e = sym (length-map imports import_value) ∙ ap length e

-- a fault as the error of another type
pub err_of : {T U E : Type 0} (a b : E) → ◌≡◌ {A = Result T E} (Err a) (Err b) → ◌≡◌ {A = Result U E} (Err a) (Err b)
err_of a b e = let same : a ≡ b = cc in ap Err same

pub written_fits : (rs : List RenameView) (parts : List ParsedSectionValue) (indices left : List (Option ℕ)) (out : List ℕ) → AreWritten rs parts indices [] left out → All Fits (renamed_sections rs parts indices)
written_fits rs parts indices left out w = subst (λ (ps : List ParsedSectionValue). All Fits ps) (sym (w.cut ∙ append-nil w.front)) w.fits
