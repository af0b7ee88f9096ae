-- What the operator table says of codes.
use Rattle.std.proofs.Common.{◌≡◌, ℕ, ◌^◌, ◌<◌, ◌≤◌, List, [], ◌∷◌, Bool, true, false, Option, Some, None, refl, sym, ◌∙◌, ap, arith, inl, inr, eqb-true}
use Rattle.std.specs.Prelude.{◌==◌}
use Rattle.std.proofs.lemmas.Bool.{cases_lt}
use Rattle.std.proofs.lemmas.Bool.Decides.{nat_tests}
use Rattle.wc_read.specs.Operators.{byte_form, misc_form, vector_form, atomic_form, form_of, is_prefix, SpellsOpcode}
use Rattle.wc_read.specs.declared.operators.Opcode.{Opcode}
use Rattle.wc_read.specs.declared.operators.Opcode.TheVariants.{Byte, Misc, Vector, Atomic}
use Rattle.wc_read.specs.declared.operators.Form.{Form}
use Rattle.wc_read.specs.declared.operators.Form.TheVariants.{None as form_none, Block as form_block, Index as form_index, Indices as form_indices, Labels as form_labels, ValTypes as form_val_types, RefType as form_ref_type, MemArg as form_mem_arg, MemArgLane as form_mem_arg_lane, I32 as form_i32, I64 as form_i64, Bytes as form_bytes, Lane as form_lane, Zero as form_zero}
use Rattle.wc_read.proofs.OptionsLemmas.{some_none}
use Rattle.wc_write.specs.Operators.{opcode_text, fence_text}
use Rattle.wc_write.proofs.TextLemmas.{number_32}

-- the byte that a shape itself has
abbrev pub zero_text : Form → List ℕ
zero_text form_none = []
zero_text form_block = []
zero_text (form_index k) = []
zero_text (form_indices k l) = []
zero_text form_labels = []
zero_text form_val_types = []
zero_text form_ref_type = []
zero_text form_mem_arg = []
zero_text form_mem_arg_lane = []
zero_text form_i32 = []
zero_text form_i64 = []
zero_text (form_bytes n) = []
zero_text form_lane = []
zero_text form_zero = 0 ∷ []

abbrev zero_of : Option Form → List ℕ
zero_of None = []
zero_of (Some f) = zero_text f

-- no other operator has it
byte_plain : (b : ℕ) → zero_of (byte_form b) ≡ []
unfolding byte_form
byte_plain b = grind (arith, nat_tests)

misc_plain : (n : ℕ) → zero_of (misc_form n) ≡ []
unfolding misc_form
misc_plain n = grind (arith, nat_tests)

vector_plain : (n : ℕ) → zero_of (vector_form n) ≡ []
unfolding vector_form
vector_plain n = grind (arith, nat_tests)

atomic_zero : (n : ℕ) → zero_of (atomic_form n) ≡ fence_text (Atomic n)
unfolding atomic_form
atomic_zero n = grind (arith, nat_tests)

-- a fence has the byte of its shape
pub fence_is : (o : Opcode) (f : Form) → form_of o ≡ Some f → fence_text o ≡ zero_text f
fence_is (Byte b) f e = sym (byte_plain b) ∙ ap zero_of e
fence_is (Misc n) f e = sym (misc_plain n) ∙ ap zero_of e
fence_is (Vector n) f e = sym (vector_plain n) ∙ ap zero_of e
fence_is (Atomic n) f e = sym (atomic_zero n) ∙ ap zero_of e

-- no prefix is an operator's code
none_at : (b n : ℕ) → byte_form n ≡ None → (b == n) ≡ true → byte_form b ≡ None
none_at b n none e = ap byte_form (eqb-true b n e) ∙ none

no_prefix : (b : ℕ) (f : Form) → byte_form b ≡ Some f → is_prefix b ≡ false
unfolding byte_form
no_prefix b f e = by (b == 0xfc) (b == 0xfd) (b == 0xfe) refl refl refl
  where
    by : (x y z : Bool) → (b == 0xfc) ≡ x → (b == 0xfd) ≡ y → (b == 0xfe) ≡ z → is_prefix b ≡ false
    by true y z p q r = absurd (some_none f (sym e ∙ none_at b 0xfc refl p))
    by false true z p q r = absurd (some_none f (sym e ∙ none_at b 0xfd refl q))
    by false false true p q r = absurd (some_none f (sym e ∙ none_at b 0xfe refl r))
    by false false false p q r = rw (p, q, r) refl

-- a number in the table has 32 bits
misc_high : (n : ℕ) → 2 ^ 32 ≤ n → misc_form n ≡ None
unfolding misc_form
misc_high n high = grind (arith, nat_tests)

vector_high : (n : ℕ) → 2 ^ 32 ≤ n → vector_form n ≡ None
unfolding vector_form
vector_high n high = grind (arith, nat_tests)

atomic_high : (n : ℕ) → 2 ^ 32 ≤ n → atomic_form n ≡ None
unfolding atomic_form
atomic_high n high = grind (arith, nat_tests)

below : (n : ℕ) (o : Option Form) (f : Form) → (2 ^ 32 ≤ n → o ≡ None) → o ≡ Some f → n < 2 ^ 32
below n o f none e = elim (cases_lt n (2 ^ 32)) [
  | inl lt ↦ lt
  | inr le ↦ absurd (some_none f (sym e ∙ none le))
]

pub opcode_spelled : (o : Opcode) (f : Form) → form_of o ≡ Some f → SpellsOpcode (opcode_text o) o
opcode_spelled (Byte b) f e = (refl, no_prefix b f e)
opcode_spelled (Misc n) f e = (_, refl, number_32 n (below n (misc_form n) f (misc_high n) e))
opcode_spelled (Vector n) f e = (_, refl, number_32 n (below n (vector_form n) f (vector_high n) e))
opcode_spelled (Atomic n) f e = (_, refl, number_32 n (below n (atomic_form n) f (atomic_high n) e))
