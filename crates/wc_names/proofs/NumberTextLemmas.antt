-- Texts that spell a number: what `parse` reads as one.
use Rattle.std.proofs.Common.{◌≡◌, ◌≢◌, ℕ, zero, suc, ◌<◌, ◌^◌, List, [], ◌∷◌, ◌++◌, get_or, replicate, Result, Ok, Err, inl, inr, refl, sym, ap, ◌∙◌, subst, arith, codes}
use Rattle.std.specs.Char.{digit_value}
use Rattle.std.specs.Fmt.{decimal}
use Rattle.std.specs.Result.{OkIff, result_ok}
use Rattle.std.specs.Str.Parse.{AllDigits, IsNumeral, digits_value, without_leading_plus}
use Rattle.std.proofs.lemmas.Bool.{cases_eq}
use Rattle.std.proofs.lemmas.Fmt.{decimal_is_IsNumeral, decimal-digits_value}
use Rattle.std.proofs.lemmas.Str.Parse.{IsNumeralModel, digit_from_value, without_leading_plus_none, without_leading_plus_plus}
use Rattle.wc_names.specs.Finds.{Finds}
use Rattle.wc_names.specs.Texts.{SpellsNumber}

own_words : IsNumeralModel (AllDigits 10) (digits_value 10)
own_words = record { to = λ ds d. d; from = λ ds d. d; same = λ ds d. refl }

-- digits are zeros, and the decimal of their number
pub record IsZerosAndDecimal (ds : List ℕ) (n : ℕ) : Type 0 where
  pub zeros : ℕ
  pub is_text : ds ≡ replicate zeros 48 ++ decimal n

no_zero : (c : ℕ) (cs : List ℕ) (n : ℕ) → AllDigits 10 (c ∷ cs) → digits_value 10 (c ∷ cs) ≡ n → n < 2 ^ 32 → c ≢ 48 → IsZerosAndDecimal (c ∷ cs) n
no_zero c cs n digits is fits other =
    let small : digits_value 10 (c ∷ cs) < 2 ^ 64 = omega arith in
    record {
      zeros = 0;
      is_text = sym (decimal-digits_value own_words (c ∷ cs) digits (omega arith) (λ e. absurd (other e)) small) ∙ ap decimal is;
    }

one_more : (ds : List ℕ) (n : ℕ) → IsZerosAndDecimal ds n → IsZerosAndDecimal (48 ∷ ds) n
one_more ds n r = record { zeros = suc r.zeros; is_text = ap (λ (z : List ℕ). 48 ∷ z) r.is_text }

pub zeros_and_decimal : (ds : List ℕ) (n : ℕ) → IsNumeral 10 ds → digits_value 10 ds ≡ n → n < 2 ^ 32 → IsZerosAndDecimal ds n
zeros_and_decimal [] n numeral is fits = absurd (let bad : 0 < 0 = numeral.0 in omega (arith, bad))
zeros_and_decimal (c ∷ []) n numeral is fits =
    let small : digits_value 10 (c ∷ []) < 2 ^ 64 = omega arith in
    record { zeros = 0; is_text = sym (decimal-digits_value own_words (c ∷ []) numeral.1 (omega arith) (λ e. refl) small) ∙ ap decimal is }
zeros_and_decimal (c ∷ d ∷ ds) n numeral is fits = elim (cases_eq c 48) [
  | inl same ↦
      subst (λ (z : ℕ). IsZerosAndDecimal (z ∷ d ∷ ds) n) (sym same)
      (one_more (d ∷ ds) n (zeros_and_decimal (d ∷ ds) n (omega arith, numeral.1.1) (subst (λ (z : ℕ). digits_value 10 (z ∷ d ∷ ds) ≡ n) same is) fits))
  | inr other ↦ no_zero c (d ∷ ds) n numeral.1 is fits other
]

-- what `parse` reads is spelled: without a plus, or after one
spelled_bare : (text : List ℕ) (n : ℕ) → n < 2 ^ 32 → IsZerosAndDecimal text n → SpellsNumber n text
spelled_bare text n fits r = record { plus = []; zeros = r.zeros; one_or_none = inl refl; fits = fits; is_text = r.is_text }

spelled_plus : (ds : List ℕ) (n : ℕ) → n < 2 ^ 32 → IsZerosAndDecimal ds n → SpellsNumber n (43 ∷ ds)
spelled_plus ds n fits r =
    record { plus = codes "+"; zeros = r.zeros; one_or_none = inr refl; fits = fits; is_text = ap (λ (z : List ℕ). 43 ∷ z) r.is_text }

pub number_spelled : (text : List ℕ) (n : ℕ) → IsNumeral 10 (without_leading_plus text) → digits_value 10 (without_leading_plus text) ≡ n → n < 2 ^ 32
    → SpellsNumber n text
number_spelled [] n numeral is fits = absurd (let bad : 0 < 0 = numeral.0 in omega (arith, bad))
number_spelled (c ∷ cs) n numeral is fits = elim (cases_eq c 43) [
  | inl plus ↦
      (let same = without_leading_plus_plus (c ∷ cs) plus in
      subst (λ (z : ℕ). SpellsNumber n (z ∷ cs)) (sym plus)
      (spelled_plus cs n fits (zeros_and_decimal cs n (subst (IsNumeral 10) same numeral) (subst (λ (z : List ℕ). digits_value 10 z ≡ n) same is) fits)))
  | inr other ↦
      (let same = without_leading_plus_none (c ∷ cs) other in
      spelled_bare (c ∷ cs) n fits (zeros_and_decimal (c ∷ cs) n (subst (IsNumeral 10) same numeral)
      (subst (λ (z : List ℕ). digits_value 10 z ≡ n) same is) fits))
]

-- zeros and a decimal are digits of this value
pub digits_spelled : (zeros n : ℕ) → n < 2 ^ 32 → IsNumeral 10 (replicate zeros 48 ++ decimal n) × (digits_value 10 (replicate zeros 48 ++ decimal n) ≡ n)
digits_spelled zero n fits = decimal_is_IsNumeral n (omega arith)
digits_spelled (suc zeros) n fits =
    let rest = digits_spelled zeros n fits in
    ((omega arith, (omega arith, rest.0.1)), rest.1)

-- the first of digits is no plus
no_plus : (ds : List ℕ) → IsNumeral 10 ds → get_or ds 0 0 ≢ 43
no_plus [] numeral e = absurd (let bad : 0 < 0 = numeral.0 in omega (arith, bad))
no_plus (c ∷ cs) numeral e = let digit = digit_from_value c numeral.1.0 in omega (arith, digit, e)

-- a number that is spelled is read
pub number_read : (text : List ℕ) (n : ℕ) → SpellsNumber n text → IsNumeral 10 (without_leading_plus text) × (digits_value 10 (without_leading_plus text) ≡ n)
number_read text n s = elim s.one_or_none [
  | inl none ↦ subst Reads (sym (s.is_text ∙ ap (λ (z : List ℕ). z ++ ds) none)) (subst Is (sym (without_leading_plus_none ds (no_plus ds read.0))) read)
  | inr plus ↦ subst Reads (sym (s.is_text ∙ ap (λ (z : List ℕ). z ++ ds) plus)) read
] where
  ds : List ℕ
  ds = replicate s.zeros 48 ++ decimal n

  read : IsNumeral 10 ds × (digits_value 10 ds ≡ n)
  read = digits_spelled s.zeros n s.fits

  Is : List ℕ → Type 0
  Is z = IsNumeral 10 z × (digits_value 10 z ≡ n)

  Reads : List ℕ → Type 0
  Reads z = Is (without_leading_plus z)

-- a text spells one number
pub number_unique : (text : List ℕ) (n m : ℕ) → SpellsNumber n text → SpellsNumber m text → n ≡ m
number_unique text n m s t = sym (number_read text n s).1 ∙ (number_read text m t).1

-- a text that spells a number doesn't begin with an `i`
pub no_letter_first : (n : ℕ) (text rest : List ℕ) → SpellsNumber n text → ¬ (text ≡ codes "i" ++ rest)
no_letter_first n text rest s is =
    let digits = (number_read (codes "i" ++ rest) n (subst (SpellsNumber n) is s)).0.1 in
    let digit : digit_value 105 < 10 = digits.0 in omega (arith, digit)

-- `unit` is no number
pub no_unit : (n : ℕ) → ¬ SpellsNumber n (codes "unit")
no_unit n s =
    let digits = (number_read (codes "unit") n s).0.1 in
    let digit : digit_value 117 < 10 = digits.0 in omega (arith, digit)

-- the answer of `parse`
pub number_parsed : {E : Type 0} (text : List ℕ) (r : Result ℕ E)
    → OkIff r (IsNumeral 10 (without_leading_plus text) × (digits_value 10 (without_leading_plus text) < 2 ^ 32)) (digits_value 10 (without_leading_plus text))
    → Finds (result_ok r) (λ (n : ℕ). SpellsNumber n text)
number_parsed text (Ok n) parsed =
    number_spelled text n parsed.0.0 (sym parsed.1) (subst (λ (z : ℕ). z < 2 ^ 32) (sym parsed.1) parsed.0.1)
number_parsed text (Err e) refused = λ n s.
    let read = number_read text n s in refused (read.0, subst (λ (z : ℕ). z < 2 ^ 32) (sym read.1) s.fits)
