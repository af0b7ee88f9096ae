-- Texts as keys: the index that a text is.
use Rattle.std.proofs.Common.{◌≡◌, ℕ, ◌<◌, ◌^◌, List, Bool, cond, Some, None, Ok, Err, decimal, sym, ap, ◌∙◌, arith}
use Rattle.std.specs.Str.{bytes_eq}
use Rattle.std.specs.Str.Parse.{IsNumeral, ParsesUnsigned, digits_value, without_leading_plus}
use Rattle.std.proofs.lemmas.Bool.{lt-ltb}
use Rattle.wc_json.specs.Fault.{refusal}
use Rattle.wc_json.specs.Ids.{index_of_digits}
use Rattle.wc_json.specs.Keys.{canonical_index, index_written_as}
use Rattle.wc_json.specs.declared.fault.Problem.TheVariants.{NotAnIndex}
use Rattle.wc_json.proofs.IdLemmas.{index_of_digits-refused, is_numeral-IsNumeral}

-- a number of 32 bits that was parsed is an index
pub index_of_digits-parsed : (text : List ℕ) (n : ℕ)
    → (IsNumeral 10 (without_leading_plus text) × (digits_value 10 (without_leading_plus text) < 2 ^ 32)) ×
    (n ≡ digits_value 10 (without_leading_plus text)) → index_of_digits (without_leading_plus text) ≡ Ok n
index_of_digits-parsed text n h =
    rw (is_numeral-IsNumeral (without_leading_plus text) h.0.0, lt-ltb (digits_value 10 (without_leading_plus text)) (2 ^ 32) h.0.1) (ap Ok (sym h.1))

-- a text that is no number of 32 bits is no index
pub index_of_digits-unparsed : {E : Type 0} (text : List ℕ) (e : E) → ParsesUnsigned {E = E} 32 10 text (Err e)
    → index_of_digits (without_leading_plus text) ≡ refusal NotAnIndex
index_of_digits-unparsed text e h = index_of_digits-refused (without_leading_plus text) (2 ^ 32) (omega arith) h

-- an index that was parsed is canonical where its decimal text is the same
pub canonical_index-parsed : (text written : List ℕ) (n : ℕ) (same : Bool) → index_of_digits (without_leading_plus text) ≡ Ok n → written ≡ decimal n
    → same ≡ bytes_eq written text → canonical_index text ≡ cond same (Some n) None
canonical_index-parsed text written n same e is tested =
    ap (index_written_as text) e ∙ ap (λ (w : List ℕ). cond (bytes_eq w text) (Some n) None) (sym is) ∙ ap (λ (b : Bool). cond b (Some n) None) (sym tested)
