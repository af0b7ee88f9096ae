-- Sizes of texts: what grows with what, and sums.
use Rattle.std.proofs.Common.{◌≡◌, ℕ, zero, suc, ◌+◌, ◌/◌, ◌≤◌, List, [], ◌∷◌, ◌++◌, length, Bool, true, false, Option, Some, refl, arith, inl, inr}
use Rattle.std.specs.Prelude.{◌==◌, if◌then◌else◌}
use Rattle.std.specs.List.{find, flat_map}
use Rattle.std.specs.Option.{option_map}
use Rattle.std.proofs.lemmas.Bool.{cases_lt}
use Rattle.std.proofs.lemmas.Bool.Decides.{nat_tests}
use Rattle.std.proofs.lemmas.List.{length-append}
use Rattle.wc_read.specs.Sections.{SectionValue, SpellsSection, SpellsFrames, module_header}
use Rattle.wc_read.specs.Order.{content_of}
use Rattle.wc_write.specs.Text.{digits, number_text, section_text}
use Rattle.wc_write.specs.Modules.{content_text}
use Rattle.wc_write.specs.Values.{AreBytes}
use Rattle.wc_write.proofs.ByteLemmas.{back_bytes}
use Rattle.wc_write.proofs.DigitLemmas.{digits_none, digits_last, digits_more}
use Rattle.wc_write.proofs.NumberTextLemmas.{number_some}
use Rattle.wc_write.proofs.ShortestTextLemmas.{section_shortest}
use Rattle.wc_write.proofs.VectorTextLemmas.{items_shortest}

-- a larger number has no fewer digits, and a longer content no shorter section

digit_count_mono : (left n m : ℕ) → n ≤ m → length (digits left n) ≤ length (digits left m)
digit_count_mono zero n m le = rw (digits_none n, digits_none m) (omega arith)
digit_count_mono (suc left) n m le = elim (cases_lt n 128) [
  | inl small ↦ rw (digits_last (suc left) n small) (let some = number_some (suc left) m in omega (arith, some))
  | inr large ↦ let rest = digit_count_mono left (n / 128) (m / 128) (omega arith) in rw (digits_more left n large, digits_more left m (omega arith)) (omega (arith, rest))
]

pub number_grows : (n m : ℕ) → n ≤ m → length (number_text n) ≤ length (number_text m)
number_grows n m le = digit_count_mono 9 n m le

pub section_grows : (id : ℕ) (a b : List ℕ) → length a ≤ length b → length (section_text id a) ≤ length (section_text id b)
unfolding section_text
section_grows id a b le = omega (arith, le, number_grows (length a) (length b) le, length-append (number_text (length a)) a, length-append (number_text (length b)) b)

-- sums

abbrev pub total : {A : Type 0} → (A → ℕ) → List A → ℕ
total f [] = 0
total f (x ∷ xs) = f x + total f xs

pub flat_total : {A : Type 0} (text : A → List ℕ) (xs : List A) → length (flat_map text xs) ≡ total (λ x. length (text x)) xs
flat_total text [] = refl
flat_total text (x ∷ xs) = omega (arith, length-append (text x) (flat_map text xs), flat_total text xs)

pub total_append : {A : Type 0} (f : A → ℕ) (xs ys : List A) → total f (xs ++ ys) ≡ total f xs + total f ys
total_append f [] ys = omega arith
total_append f (x ∷ xs) ys = omega (arith, total_append f xs ys)

pub total_one : {A : Type 0} (xs : List A) → total (λ x. 1) xs ≡ length xs
total_one [] = refl
total_one (x ∷ xs) = omega (arith, total_one xs)

-- the sizes of sections, and of those with an id

abbrev pub size_of : SectionValue → ℕ
size_of s = length (section_text s.id s.content)

abbrev pub size_if : ℕ → SectionValue → ℕ
size_if id s = if s.id == id then size_of s else 0

pub frames_total : (bytes : List ℕ) (ss : List SectionValue) → SpellsFrames bytes ss → AreBytes bytes → length module_header + total size_of ss ≤ length bytes
frames_total bytes ss f all =
    let e = flat_total (λ s. section_text s.id s.content) ss in
    let h = items_shortest SpellsSection (λ s. section_text s.id s.content) (λ b s t some. section_shortest b s some t) f.0 ss f.2 (back_bytes module_header f.0 (rw f.1 at all)) in
    rw f.1 (omega (arith, e, h, length-append module_header f.0))

-- an id is one of ten at most
one_id : (id size : ℕ) → (if id == 1 then size else 0) + ((if id == 2 then size else 0) + ((if id == 3 then size else 0) + ((if id == 4 then size else 0) + ((if id == 5 then size else 0) + ((if id == 6 then size else 0) + ((if id == 7 then size else 0) + ((if id == 8 then size else 0) + ((if id == 10 then size else 0) + (if id == 0 then size else 0))))))))) ≤ size
one_id id size = grind (arith, nat_tests)

pub ids_total : (ss : List SectionValue) → total (size_if 1) ss + (total (size_if 2) ss + (total (size_if 3) ss + (total (size_if 4) ss + (total (size_if 5) ss + (total (size_if 6) ss + (total (size_if 7) ss + (total (size_if 8) ss + (total (size_if 10) ss + total (size_if 0) ss)))))))) ≤ total size_of ss
ids_total [] = omega arith
ids_total (s ∷ ss) = omega (arith, one_id s.id (size_of s), ids_total ss)

-- the first section with an id is one of them

same_id : (n m : ℕ) → (n == m) ≡ true → n ≡ m
same_id n m e = grind (arith, nat_tests)

found_size : (id : ℕ) (s : SectionValue) (f : Option SectionValue) (rest : ℕ) (test : Bool) → (test ≡ true → s.id ≡ id) → length (content_text id (option_map (λ s. s.content) f)) ≤ rest → length (content_text id (option_map (λ s. s.content) (if test then Some s else f))) ≤ (if test then size_of s else 0) + rest
found_size id s f rest true same h = rw (← same refl) (omega arith)
found_size id s f rest false same h = omega (arith, h)

pub first_size : (id : ℕ) (ss : List SectionValue) → length (content_text id (content_of id ss)) ≤ total (size_if id) ss
first_size id [] = omega arith
first_size id (s ∷ ss) = found_size id s (find (λ s. s.id == id) ss) (total (size_if id) ss) (s.id == id) (same_id s.id id) (first_size id ss)
