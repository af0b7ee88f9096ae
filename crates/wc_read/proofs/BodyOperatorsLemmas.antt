-- A body's operators by the reader of frequent ones.
use Rattle.std.proofs.Common.{◌≡◌, ◌≢◌, ℕ, List, [], ◌∷◌, length, Bool, true, false, Option, Some, None, refl, sym, ◌∙◌, arith}
use Rattle.std.proofs.lemmas.Bool.Decides.{nat_tests}
use Rattle.std.specs.Prelude.{◌==◌, ◌↔◌, IsTrue}
use Rattle.std.proofs.lemmas.Bool.{false≢true}
use Rattle.std.specs.Option.{option_map}
use Rattle.wc_read.specs.Operators.{InstrValue}
use Rattle.wc_read.specs.Reading.Instructions.{instr_at, opcode_at}
use Rattle.wc_read.specs.Nesting.{token_of}
use Rattle.wc_read.specs.Reading.Nesting.{step}
use Rattle.wc_read.specs.BodyOperators.{operators_in}
use Rattle.wc_read.proofs.DecodingLemmas.{left_end, left_more, left_none, left_not, left_open}
use Rattle.wc_read.proofs.OptionsLemmas.{some_none}

nothing_at : instr_at [] ≡ None
unfolding instr_at opcode_at
nothing_at = refl

some_bytes : (rest : List ℕ) (i : InstrValue) (left : List ℕ) → instr_at rest ≡ Some (i, left) → false ≡ (length rest == 0)
some_bytes [] i left e = some_none (i, left) (sym e ∙ nothing_at)
some_bytes (b ∷ rest) i left e = grind (arith, nat_tests)

pub left_read : (blocks others : List Bool) (rest : List ℕ) (i : InstrValue) (left : List ℕ) → instr_at rest ≡ Some (i, left) → step blocks (token_of i.opcode) ≡ Some others
    → operators_in blocks rest ≡ option_map (λ is. i ∷ is) (operators_in others left)
left_read blocks others rest i left e s = left_more blocks others rest i left (some_bytes rest i left e) e s

pub left_stopped : (blocks : List Bool) (rest : List ℕ) (i : InstrValue) (left : List ℕ) → instr_at rest ≡ Some (i, left) → step blocks (token_of i.opcode) ≡ None → operators_in blocks rest ≡ None
left_stopped blocks rest i left e s = left_not blocks rest i left (some_bytes rest i left e) e s

pub left_not_read : (blocks : List Bool) (rest : List ℕ) → rest ≢ [] → instr_at rest ≡ None → operators_in blocks rest ≡ None
left_not_read blocks [] some e = absurd (some refl)
left_not_read blocks (b ∷ rest) some e = left_none blocks (b ∷ rest) (grind (arith, nat_tests)) e

-- where a byte is left, or a block is open, that is no end of a body

no_end : {P : Type 0} → ◌≡◌ {A = Option (List InstrValue)} None (Some []) → P
no_end e = absurd cc

no_end_after : {P : Type 0} (i : InstrValue) (left : Option (List InstrValue)) → option_map (λ is. i ∷ is) left ≡ Some [] → P
no_end_after i None e = absurd cc
no_end_after i (Some is) e = absurd cc

left_by_step : {P : Type 0} (blocks : List Bool) (b : ℕ) (bytes : List ℕ) (i : InstrValue) (after : List ℕ) (others : Option (List Bool)) → instr_at (b ∷ bytes) ≡ Some (i, after) → step blocks (token_of i.opcode) ≡ others
    → operators_in blocks (b ∷ bytes) ≡ Some [] → P
left_by_step blocks b bytes i after None e s end = no_end (sym (left_stopped blocks (b ∷ bytes) i after e s) ∙ end)
left_by_step blocks b bytes i after (Some others) e s end = no_end_after i (operators_in others after) (sym (left_read blocks others (b ∷ bytes) i after e s) ∙ end)

left_by_read : {P : Type 0} (blocks : List Bool) (b : ℕ) (bytes : List ℕ) (read : Option (InstrValue × List ℕ)) → instr_at (b ∷ bytes) ≡ read → operators_in blocks (b ∷ bytes) ≡ Some [] → P
left_by_read blocks b bytes None e end = no_end (sym (left_none blocks (b ∷ bytes) (grind (arith, nat_tests)) e) ∙ end)
left_by_read blocks b bytes (Some (i, after)) e end = left_by_step blocks b bytes i after (step blocks (token_of i.opcode)) e refl end

bytes_left_over : {P : Type 0} (blocks : List Bool) (rest : List ℕ) → false ≡ (length rest == 0) → operators_in blocks rest ≡ Some [] → P
bytes_left_over blocks [] some end = absurd (false≢true some)
bytes_left_over blocks (b ∷ bytes) some end = left_by_read blocks b bytes (instr_at (b ∷ bytes)) refl end

pub done_is : (blocks : List Bool) (rest : List ℕ) (closed : Bool) → true ≡ (length rest == 0) → closed ≡ (length blocks == 0) → IsTrue closed ↔ (operators_in blocks rest ≡ Some [])
done_is blocks rest true none e = ((λ _. left_end blocks rest none e), (λ _. refl))
done_is blocks rest false none e = ((λ h. absurd (false≢true h)), (λ end. no_end (sym (left_open blocks rest none e) ∙ end)))

pub done_is_not : (blocks : List Bool) (rest : List ℕ) (ended : Bool) → ended ≡ (length rest == 0) → false ≡ (length rest == 0) → IsTrue ended ↔ (operators_in blocks rest ≡ Some [])
done_is_not blocks rest ended is some = ((λ h. absurd (false≢true (some ∙ (sym is ∙ h)))), (λ end. bytes_left_over blocks rest some end))
