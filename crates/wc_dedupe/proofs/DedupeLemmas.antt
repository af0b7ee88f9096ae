-- A module's parts under the names of a renaming.
use Rattle.std.proofs.Common.{◌≡◌, ℕ, ◌+◌, List, [], ◌∷◌, ◌++◌, length, take, drop, Option, Result, Err, refl, sym, ◌∙◌, ap, subst, arith, inl, inr, true, false, eqb-true}
use Rattle.std.specs.Prelude.{◌≢◌, ◌==◌, All, Any}
use Rattle.std.proofs.lemmas.Bool.{false≢true}
use Rattle.std.proofs.Math.ListN.{length-append}
use Rattle.std.proofs.lemmas.List.{length-drop, length-take-le, length-map}
use Rattle.wc_read.specs.Imports.{ImportValue}
use Rattle.wc_dedupe.specs.Renaming.{RenameView, IsRenaming, import_name, originals, renamed_names, renamed_import, renamed_imports}
use Rattle.wc_dedupe.specs.ParsedSections.{ParsedSectionValue, import_section, other_section, SpellsParsedSections, imports_in, imports_of, AreUnderNames, KeepsAllButNames, KeepAllButNames, renamed_section, renamed_sections, import_count, parsed_module_text, Fits, IsTooLarge}
use Rattle.wc_dedupe.proofs.RenamedLemmas.{originals-renamed_imports}
use Rattle.wc_dedupe.specs.Dedupe.{IsRenamedModule, IsDeduped, IsDedupeCause}
use Rattle.wc_dedupe.specs.Fault.{of_read, of_write}
use Rattle.wc_dedupe.specs.declared.fault.DedupeFault.TheVariants.{TooLarge}
use Rattle.wc_read.specs.declared.fault.ReadFault.{ReadFault}
use Rattle.wc_read.specs.declared.fault.ReadFault.TheVariants.{Memory as read_memory, Component as read_component}
use Rattle.wc_write.specs.declared.fault.WriteFault.{WriteFault}
use Rattle.wc_write.specs.declared.fault.WriteFault.TheVariants.{Memory as write_memory, TooLarge as write_large}
use Rattle.wc_read.specs.Sections.{IsComponent}

renamed_imports-none : (rs : List RenameView) (is : List ImportValue) → renamed_imports rs is [] ≡ []
renamed_imports-none rs [] = refl
renamed_imports-none rs (i ∷ is) = refl

renamed_imports-append : (rs : List RenameView) (xs ys : List ImportValue) (indices : List (Option ℕ)) → renamed_imports rs (xs ++ ys) indices ≡ renamed_imports rs xs (take (length xs) indices) ++ renamed_imports rs ys (drop (length xs) indices)
renamed_imports-append rs [] ys indices = refl
renamed_imports-append rs (x ∷ xs) ys [] = sym (renamed_imports-none rs ys)
renamed_imports-append rs (x ∷ xs) ys (p ∷ ps) = ap (λ (is : List ImportValue). renamed_import rs x p ∷ is) (renamed_imports-append rs xs ys ps)

-- the imports of a part, and of parts, under their names
imports_in-renamed_section : (rs : List RenameView) (p : ParsedSectionValue) (indices : List (Option ℕ)) → imports_in (renamed_section rs p indices) ≡ renamed_imports rs (imports_in p) indices
imports_in-renamed_section rs (import_section is) indices = refl
imports_in-renamed_section rs (other_section s) indices = refl

imports_of-renamed_sections : (rs : List RenameView) (parts : List ParsedSectionValue) (indices : List (Option ℕ)) → imports_of (renamed_sections rs parts indices) ≡ renamed_imports rs (imports_of parts) indices
imports_of-renamed_sections rs [] indices = refl
imports_of-renamed_sections rs (p ∷ ps) indices =
    let here = imports_in-renamed_section rs p (take (import_count p) indices) in
    let after = imports_of-renamed_sections rs ps (drop (import_count p) indices) in
    rw (here, after) (sym (renamed_imports-append rs (imports_in p) (imports_of ps) indices))

-- imports keep all but their names
under_names : (rs : List RenameView) (is : List ImportValue) (indices : List (Option ℕ)) → length indices ≡ length is → AreUnderNames is (renamed_imports rs is indices)
under_names rs [] indices e = tt
under_names rs (i ∷ is) [] e = absurd (omega (arith, e))
under_names rs (i ∷ is) (p ∷ ps) e = ((refl, refl), under_names rs is ps (omega (arith, e)))

kept_section : (rs : List RenameView) (p : ParsedSectionValue) (indices : List (Option ℕ)) → length indices ≡ import_count p → KeepsAllButNames p (renamed_section rs p indices)
kept_section rs (import_section is) indices e = under_names rs is indices e
kept_section rs (other_section s) indices e = refl

kept_sections : (rs : List RenameView) (parts : List ParsedSectionValue) (indices : List (Option ℕ)) → length indices ≡ length (imports_of parts) → KeepAllButNames parts (renamed_sections rs parts indices)
kept_sections rs [] indices e = tt
kept_sections rs (p ∷ ps) indices e =
    let n = import_count p in
    let all : length indices ≡ n + length (imports_of ps) = e ∙ length-append (imports_in p) (imports_of ps) in
    let mine : length (take n indices) ≡ n = length-take-le n indices (omega (arith, all)) in
    let others : length (drop n indices) ≡ length (imports_of ps) = rw length-drop (omega (arith, all)) in
    (kept_section rs p (take n indices) mine, kept_sections rs ps (drop n indices) others)

-- the renamed module
pub renamed_module : (bytes : List ℕ) (parts : List ParsedSectionValue) (imports : List ImportValue) (indices : List (Option ℕ)) (rs : List RenameView) → SpellsParsedSections bytes parts → imports ≡ imports_of parts → IsRenaming (originals imports) indices rs → IsRenamedModule bytes (renamed_sections rs parts indices) rs
renamed_module bytes parts imports indices rs spelled same r =
    let as_many_indices : length indices ≡ length (imports_of parts) = r.as_long ∙ length-map imports import_name ∙ ap length same in
    let names : renamed_names rs (originals imports) indices ≡ originals (imports_of (renamed_sections rs parts indices)) =
    sym (originals-renamed_imports rs imports indices) ∙ ap (λ (is : List ImportValue). originals (renamed_imports rs is indices)) same ∙ ap originals (sym (imports_of-renamed_sections rs parts indices)) in
    let from : originals imports ≡ originals (imports_of parts) = ap originals same in
    record {
      parts = parts;
      spelled = spelled;
      kept = kept_sections rs parts indices as_many_indices;
      named = rw (← from, ← names) r.renamed;
      listed = r.listed ∙ rw (names, from) refl;
    }

-- the bytes stay where nothing was renamed
pub same_bytes : (bytes : List ℕ) (parts : List ParsedSectionValue) (imports : List ImportValue) (indices : List (Option ℕ)) (rs : List RenameView) → SpellsParsedSections bytes parts → imports ≡ imports_of parts → IsRenaming (originals imports) indices rs → rs ≡ [] → IsDeduped bytes bytes []
same_bytes bytes parts imports indices rs spelled same r none =
    let module_of : IsRenamedModule bytes (renamed_sections rs parts indices) rs = renamed_module bytes parts imports indices rs spelled same r in
    inr (renamed_sections rs parts indices, subst (λ (renames : List RenameView). IsRenamedModule bytes (renamed_sections rs parts indices) renames) none module_of, inl (refl, refl))

pub other_bytes : (bytes out : List ℕ) (parts : List ParsedSectionValue) (imports : List ImportValue) (indices : List (Option ℕ)) (rs : List RenameView) → SpellsParsedSections bytes parts → imports ≡ imports_of parts → IsRenaming (originals imports) indices rs → rs ≢ [] → out ≡ parsed_module_text (renamed_sections rs parts indices) → All Fits (renamed_sections rs parts indices) → IsDeduped bytes out rs
other_bytes bytes out parts imports indices rs spelled same r some text fits =
    inr (renamed_sections rs parts indices, renamed_module bytes parts imports indices rs spelled same r, inr (some, text, fits))

pub too_large : (bytes : List ℕ) (parts : List ParsedSectionValue) (imports : List ImportValue) (indices : List (Option ℕ)) (rs : List RenameView) → SpellsParsedSections bytes parts → imports ≡ imports_of parts → IsRenaming (originals imports) indices rs → rs ≢ [] → Any IsTooLarge (renamed_sections rs parts indices) → IsDedupeCause bytes TooLarge
too_large bytes parts imports indices rs spelled same r some large =
    (renamed_sections rs parts indices, rs, renamed_module bytes parts imports indices rs spelled same r, some, large)

-- the fault of a read that failed
pub cause_of_read : (bytes : List ℕ) (f : ReadFault) → f ≢ read_component → ¬ (IsComponent bytes) → (f ≢ read_memory → (parts : List ParsedSectionValue) → ¬ (SpellsParsedSections bytes parts)) → IsDedupeCause bytes (of_read f)
cause_of_read bytes read_memory other outside refused = tt
cause_of_read bytes f other outside refused = (λ e. absurd cc, other, outside, refused (λ e. absurd cc))

-- the fault of a write that failed
pub cause_of_write : (bytes : List ℕ) (f : WriteFault) → (f ≡ write_large → IsDedupeCause bytes TooLarge) → IsDedupeCause bytes (of_write f)
cause_of_write bytes write_memory large = tt
cause_of_write bytes write_large large = large refl

-- where bytes are left and where not
pub some_of : {X : Type 0} (xs rs : List X) → xs ≡ rs → false ≡ (length xs == 0) → rs ≢ []
some_of [] rs e t none = false≢true t
some_of (x ∷ xs) rs e t none = absurd cc

pub none_of : {X : Type 0} (xs rs : List X) → xs ≡ rs → true ≡ (length xs == 0) → rs ≡ []
none_of [] rs e t = sym e
none_of (x ∷ xs) rs e t = let h : length (x ∷ xs) ≡ 0 = eqb-true (length (x ∷ xs)) 0 (sym t) in absurd (omega arith)

-- a fault that is not Component comes from no component
pub no_component : {T : Type 0} (bytes : List ℕ) (f : ReadFault) → (IsComponent bytes → ◌≡◌ {A = Result T ReadFault} (Err f) (Err read_component)) → f ≢ read_component → ¬ (IsComponent bytes)
no_component bytes f always other is = let e = always is in let same : f ≡ read_component = cc in other same
