-- Operators are read as they are spelled.
use Rattle.std.proofs.Common.{◌≡◌, ℕ, ◌+◌, ◌%◌, ◌<◌, ◌≤◌, List, [], ◌∷◌, ◌++◌, true, false, Option, Some, None, refl, sym, ◌∙◌, ap, arith, inl, inr, ◌⊎◌, subst, ltb-true, leb-true, eqb-true}
use Rattle.std.specs.Prelude.{nat_le, ◌==◌, is_some, unwrap_or, if◌then◌else◌}
use Rattle.std.proofs.lemmas.Bool.{false≢true}
use Rattle.std.proofs.lemmas.Bool.Decides.{nat_tests}
use Rattle.wc_read.specs.Formats.{Format, SpellsNumber, SpellsVector, Joined}
use Rattle.wc_read.specs.Types.{SpellsTypeIndex, SpellsValType}
use Rattle.wc_read.specs.Signed.{SpellsSigned}
use Rattle.wc_read.specs.Reading.Signed.{signed_at}
use Rattle.wc_read.specs.Reading.Reader.{Read, byte_at, bytes_at, number_at, vector_at, where_at, optional_at}
use Rattle.wc_read.specs.Options.{◌>>=◌}
use Rattle.wc_read.specs.Reading.Types.{type_index_at, reference_at, val_type_at}
use Rattle.wc_read.specs.Operators.{form_of, index_of, is_prefix, SpellsOpcode, SpellsBlockType, SpellsMemArg, SpellsRefType, SpellsImmediates, SpellsInstr, ImmediatesValue, WithNone, WithBlock, WithIndex, WithIndices, WithLabels, WithValTypes, WithRefType, WithMemArg, WithMemArgLane, WithI32, WithI64, WithBytes, WithLane, InstrValue}
use Rattle.wc_read.specs.Reading.Instructions.{opcode_after, opcode_at, is_value, block_type_after, block_type_at, are_flags, mem_arg_at, is_zero, immediates_at, instr_of, instr_at}
use Rattle.wc_read.specs.declared.types.ValType.{ValType}
use Rattle.wc_read.specs.declared.types.ValType.TheVariants.{I32, I64, F32, F64, V128, FuncRef, ExternRef, FuncRefNonNull, ExternRefNonNull, TypeRef}
use Rattle.wc_read.specs.declared.operators.Opcode.{Opcode}
use Rattle.wc_read.specs.declared.operators.Opcode.TheVariants.{Byte, Misc, Vector, Atomic}
use Rattle.wc_read.specs.declared.operators.BlockType.{BlockType}
use Rattle.wc_read.specs.declared.operators.BlockType.TheVariants.{Empty, Value, FuncType}
use Rattle.wc_read.specs.declared.operators.MemArg.{MemArg}
use Rattle.wc_read.specs.declared.operators.Form.{Form}
use Rattle.wc_read.specs.declared.operators.Form.TheVariants.{None as form_none, Block as form_block, Index as form_index, Indices as form_indices, Labels as form_labels, ValTypes as form_val_types, RefType as form_ref_type, MemArg as form_mem_arg, MemArgLane as form_mem_arg_lane, I32 as form_i32, I64 as form_i64, Bytes as form_bytes, Lane as form_lane, Zero as form_zero}
use Rattle.wc_read.proofs.OptionsLemmas.{some_same, some_none, some_pair}
use Rattle.wc_read.proofs.MeetsLemmas.{Meets, same_meets, bind_meets, made_meets, made_at, where_meets, number_meets, byte_meets, bytes_meet, choice_meets, peek_meets, chosen, vector_meets, optional_meets, IsByte, AreBytes, IsOptional, Where, Made}
use Rattle.wc_read.proofs.TypesLemmas.{cons_same, first_is, type_index_meets, SpellsReference, reference_meets, val_type_some, val_type_first, val_type_meets}
use Rattle.wc_read.proofs.SignedLemmas.{signed_meets}

-- Codes.

-- what is after the first byte of a code
abbrev After : ℕ → Format Opcode
After b bytes (Byte c) = (bytes ≡ []) × (b ≡ c) × (is_prefix b ≡ false)
After b bytes (Misc n) = SpellsNumber 32 bytes n × (b ≡ 0xfc)
After b bytes (Vector n) = SpellsNumber 32 bytes n × (b ≡ 0xfd)
After b bytes (Atomic n) = SpellsNumber 32 bytes n × (b ≡ 0xfe)

prefix_is : (b n : ℕ) → b ≡ n → is_prefix n ≡ true → is_prefix b ≡ false → ⊥
prefix_is b n e t f = absurd (false≢true (sym f ∙ ap is_prefix e ∙ t))

from_misc : (k : ℕ) → k ≡ 0xfc → (bytes : List ℕ) (o : Opcode) → After k bytes o → Made (SpellsNumber 32) Misc bytes o
from_misc k e bytes (Misc n) s = (n, s.0, refl)
from_misc k e bytes (Byte c) s = absurd (prefix_is k 0xfc e refl s.2)
from_misc k e bytes (Vector n) s = absurd (omega (arith, s.1))
from_misc k e bytes (Atomic n) s = absurd (omega (arith, s.1))

from_vector : (k : ℕ) → k ≡ 0xfd → (bytes : List ℕ) (o : Opcode) → After k bytes o → Made (SpellsNumber 32) Vector bytes o
from_vector k e bytes (Vector n) s = (n, s.0, refl)
from_vector k e bytes (Byte c) s = absurd (prefix_is k 0xfd e refl s.2)
from_vector k e bytes (Misc n) s = absurd (omega (arith, s.1))
from_vector k e bytes (Atomic n) s = absurd (omega (arith, s.1))

from_atomic : (k : ℕ) → k ≡ 0xfe → (bytes : List ℕ) (o : Opcode) → After k bytes o → Made (SpellsNumber 32) Atomic bytes o
from_atomic k e bytes (Atomic n) s = (n, s.0, refl)
from_atomic k e bytes (Byte c) s = absurd (prefix_is k 0xfe e refl s.2)
from_atomic k e bytes (Misc n) s = absurd (omega (arith, s.1))
from_atomic k e bytes (Vector n) s = absurd (omega (arith, s.1))

no_prefix : (k : ℕ) → (k ≡ 0xfc → ⊥) → (k ≡ 0xfd → ⊥) → (k ≡ 0xfe → ⊥) → is_prefix k ≡ false
no_prefix k a b c = grind (arith, nat_tests)

alone_meets : (k : ℕ) → (k ≡ 0xfc → ⊥) → (k ≡ 0xfd → ⊥) → (k ≡ 0xfe → ⊥) → Meets (After k) (λ bytes. Some (Byte k, bytes))
alone_meets k a b c = record {
  parses = λ bytes o rest e. let p = some_pair (Byte k) o bytes rest e in ([], p.1, subst (λ (w : Opcode). After k [] w) p.0 (refl, refl, no_prefix k a b c));
  again = back;
}
  where
    back : (text : List ℕ) (o : Opcode) (rest : List ℕ) → After k text o → ◌≡◌ {A = Option (Opcode × List ℕ)} (Some (Byte k, text ++ rest)) (Some (o, rest))
    back text (Byte d) rest s = rw (s.0, s.1) refl
    back text (Misc n) rest s = absurd (a s.1)
    back text (Vector n) rest s = absurd (b s.1)
    back text (Atomic n) rest s = absurd (c s.1)

after_meets : (k : ℕ) → Meets (After k) (opcode_after k)
after_meets k =
    choice_meets (After k) k 0xfc _ _ (λ e. same_meets (Made (SpellsNumber 32) Misc) (After k) _ (made_meets (SpellsNumber 32) (number_at 32) Misc (number_meets 32)) (λ bytes o s. rw s.2 (s.1, e)) (from_misc k e)) (λ a.
    choice_meets (After k) k 0xfd _ _ (λ e. same_meets (Made (SpellsNumber 32) Vector) (After k) _ (made_meets (SpellsNumber 32) (number_at 32) Vector (number_meets 32)) (λ bytes o s. rw s.2 (s.1, e)) (from_vector k e)) (λ b.
    choice_meets (After k) k 0xfe _ _ (λ e. same_meets (Made (SpellsNumber 32) Atomic) (After k) _ (made_meets (SpellsNumber 32) (number_at 32) Atomic (number_meets 32)) (λ bytes o s. rw s.2 (s.1, e)) (from_atomic k e))
    (alone_meets k a b)))

opcode_to : (bytes : List ℕ) (o : Opcode) → Joined IsByte After bytes o → SpellsOpcode bytes o
opcode_to bytes (Byte c) j = (rw (j.3, j.4, j.5.0, j.5.1) refl, rw j.5.1 at j.5.2)
opcode_to bytes (Misc n) j = (j.2, rw (j.3, j.4, j.5.1) refl, j.5.0)
opcode_to bytes (Vector n) j = (j.2, rw (j.3, j.4, j.5.1) refl, j.5.0)
opcode_to bytes (Atomic n) j = (j.2, rw (j.3, j.4, j.5.1) refl, j.5.0)

opcode_from : (bytes : List ℕ) (o : Opcode) → SpellsOpcode bytes o → Joined IsByte After bytes o
opcode_from bytes (Byte c) s = (c, c ∷ [], [], s.0, refl, (refl, refl, s.1))
opcode_from bytes (Misc n) s = (0xfc, 0xfc ∷ [], s.0, s.1, refl, (s.2, refl))
opcode_from bytes (Vector n) s = (0xfd, 0xfd ∷ [], s.0, s.1, refl, (s.2, refl))
opcode_from bytes (Atomic n) s = (0xfe, 0xfe ∷ [], s.0, s.1, refl, (s.2, refl))

pub opcode_meets : Meets SpellsOpcode opcode_at
unfolding opcode_at
opcode_meets = same_meets (Joined IsByte After) SpellsOpcode opcode_at (bind_meets IsByte byte_at After opcode_after byte_meets after_meets) opcode_to opcode_from

-- Block types.

beside : (b : ℕ) → (b < 64) ⊎ (128 ≤ b) → ((b == 0x40) ≡ false) × (is_value b ≡ false)
beside b (inl small) = (grind (arith, nat_tests), grind (arith, nat_tests))
beside b (inr large) = (grind (arith, nat_tests), grind (arith, nat_tests))

block_some : (x : BlockType) → SpellsBlockType [] x → ⊥
block_some Empty s = absurd cc
block_some (Value t) s = val_type_some t s
block_some (FuncType n) s = first_is s

block_taken : (b : ℕ) (bytes : List ℕ) (x : BlockType) (rest : List ℕ) → block_type_after b (b ∷ bytes) ≡ Some (x, rest) → (text : List ℕ) × (b ∷ bytes ≡ text ++ rest) × SpellsBlockType text x
block_taken b bytes x rest e =
    elim (chosen (b == 0x40) _ _ (Some (x, rest)) e) [
      | inl p ↦
          let q = some_pair Empty x bytes rest p.1 in
          (b ∷ [], ap (λ (r : List ℕ). b ∷ r) q.1, subst (λ (w : BlockType). SpellsBlockType (b ∷ []) w) q.0 (ap (λ (n : ℕ). n ∷ []) (eqb-true b 0x40 p.0)))
      | inr p ↦ elim (chosen (is_value b) _ _ (Some (x, rest)) p.1) [
        | inl q ↦
            let t = (made_meets SpellsValType val_type_at Value val_type_meets).parses (b ∷ bytes) x rest q.1 in
            (t.0, t.1, subst (λ (w : BlockType). SpellsBlockType t.0 w) (sym t.2.2) t.2.1)
        | inr q ↦
            let t = (made_meets SpellsTypeIndex type_index_at FuncType type_index_meets).parses (b ∷ bytes) x rest q.1 in
            (t.0, t.1, subst (λ (w : BlockType). SpellsBlockType t.0 w) (sym t.2.2) t.2.1)
      ]
    ]

-- the first byte of a value type
value_first : (b : ℕ) → (0x63 ≤ b) × (b ≤ 0x7f) → ((b == 0x40) ≡ false) × (is_value b ≡ true)
value_first b h = let low = h.0 in let high = h.1 in (grind (arith, nat_tests), grind (arith, nat_tests))

block_again : (b : ℕ) (text : List ℕ) (x : BlockType) (rest : List ℕ) → SpellsBlockType (b ∷ text) x → block_type_after b (b ∷ (text ++ rest)) ≡ Some (x, rest)
block_again b text Empty rest s = let p = cons_same b 0x40 text [] s in rw (p.0, p.1) refl
block_again b text (Value t) rest s =
    let p = value_first b (val_type_first b text t s) in
    rw (p.0, p.1) ((made_meets SpellsValType val_type_at Value val_type_meets).again (b ∷ text) (Value t) rest (t, s, refl))
block_again b text (FuncType n) rest s =
    let p = beside b (first_is s) in
    rw (p.0, p.1) ((made_meets SpellsTypeIndex type_index_at FuncType type_index_meets).again (b ∷ text) (FuncType n) rest (n, s, refl))

pub block_type_meets : Meets SpellsBlockType block_type_at
unfolding block_type_at
block_type_meets = peek_meets SpellsBlockType block_type_after block_some block_taken block_again

-- Memory arguments.

arg_of : ℕ → Option ℕ → ℕ → MemArg
arg_of f named offset = record { align = f % 64; memory = unwrap_or named 0; offset = offset }

abbrev SpellsParts : Format MemArg
SpellsParts = Joined (Where (SpellsNumber 32) are_flags) (λ f. Joined (IsOptional (SpellsNumber 32) (nat_le 64 f)) (λ o. Made (SpellsNumber 64) (arg_of f o)))

flags_back : (f : ℕ) (o : Option ℕ) → are_flags f ≡ true → is_some o ≡ nat_le 64 f → f % 64 + (if is_some o then 64 else 0) ≡ f
flags_back f None low there = let h : f < 64 = grind (arith, nat_tests) in omega arith
flags_back f (Some n) low there = let h : f < 128 = ltb-true f 128 low in let k : 64 ≤ f = leb-true 64 f (sym there) in omega arith

flags_there : (align : ℕ) (o : Option ℕ) → align < 64 → (are_flags (align + (if is_some o then 64 else 0)) ≡ true) × (is_some o ≡ nat_le 64 (align + (if is_some o then 64 else 0))) × (align ≡ (align + (if is_some o then 64 else 0)) % 64)
flags_there align None low = (grind (arith, nat_tests), grind (arith, nat_tests), omega arith)
flags_there align (Some n) low = (grind (arith, nat_tests), grind (arith, nat_tests), omega arith)

mem_arg_to : (bytes : List ℕ) (m : MemArg) → SpellsParts bytes m → SpellsMemArg bytes m
unfolding arg_of
mem_arg_to bytes m j =
    let k = j.5 in
    rw k.5.2 (record {
      flags = j.1;
      memory = k.1;
      offset = k.2;
      named = k.0;
      cut = j.3 ∙ ap (λ (r : List ℕ). j.1 ++ r) k.3;
      aligned = omega arith;
      has_flags = subst (λ (n : ℕ). SpellsNumber 32 j.1 n) (sym (flags_back j.0 k.0 j.4.1 k.4.1)) j.4.0;
      has_memory = k.4.0;
      memory_is = refl;
      has_offset = k.5.1;
    })

made_arg : ℕ → ℕ → ℕ → MemArg
made_arg a m o = record { align = a; memory = m; offset = o }

arg_is : (m : MemArg) (f : ℕ) (named : Option ℕ) → m.align ≡ f % 64 → m.memory ≡ unwrap_or named 0 → m ≡ arg_of f named m.offset
unfolding arg_of made_arg
arg_is m f named a e = ap (λ (x : ℕ). made_arg x m.memory m.offset) a ∙ ap (λ (y : ℕ). made_arg (f % 64) y m.offset) e

mem_arg_from : (bytes : List ℕ) (m : MemArg) → SpellsMemArg bytes m → SpellsParts bytes m
mem_arg_from bytes m s =
    let t = flags_there m.align s.named s.aligned in (
      m.align + (if is_some s.named then 64 else 0),
      s.flags,
      s.memory ++ s.offset,
      s.cut,
      (s.has_flags, t.0),
      (s.named, s.memory, s.offset, refl, (s.has_memory, t.1), (m.offset, s.has_offset, arg_is m _ s.named t.2 s.memory_is)),
    )

pub mem_arg_meets : Meets SpellsMemArg mem_arg_at
unfolding mem_arg_at arg_of
mem_arg_meets =
    same_meets SpellsParts SpellsMemArg mem_arg_at
    (bind_meets (Where (SpellsNumber 32) are_flags) (where_at are_flags (number_at 32)) (λ f. Joined (IsOptional (SpellsNumber 32) (nat_le 64 f)) (λ o. Made (SpellsNumber 64) (arg_of f o)))
    (λ f bytes. optional_at (nat_le 64 f) (number_at 32) bytes >>= λ o. number_at 64 o.1 >>= made_at (arg_of f o.0))
    (where_meets (SpellsNumber 32) (number_at 32) are_flags (number_meets 32))
    (λ f. bind_meets (IsOptional (SpellsNumber 32) (nat_le 64 f)) (optional_at (nat_le 64 f) (number_at 32)) (λ o. Made (SpellsNumber 64) (arg_of f o)) (λ o bytes. number_at 64 bytes >>= made_at (arg_of f o))
    (optional_meets (SpellsNumber 32) (number_at 32) (number_meets 32) (nat_le 64 f))
    (λ o. made_meets (SpellsNumber 64) (number_at 64) (arg_of f o) (number_meets 64))))
    mem_arg_to mem_arg_from

-- Immediates.

ref_type_to : (bytes : List ℕ) (t : ValType) → SpellsReference true bytes t → SpellsRefType bytes t
ref_type_to bytes FuncRef s = s.1
ref_type_to bytes ExternRef s = s.1
ref_type_to bytes FuncRefNonNull s = absurd (cc s.0)
ref_type_to bytes ExternRefNonNull s = absurd (cc s.0)
ref_type_to bytes (TypeRef nullable index) s = (sym s.0, s.1)
ref_type_to bytes I32 s = s
ref_type_to bytes I64 s = s
ref_type_to bytes F32 s = s
ref_type_to bytes F64 s = s
ref_type_to bytes V128 s = s

ref_type_from : (bytes : List ℕ) (t : ValType) → SpellsRefType bytes t → SpellsReference true bytes t
ref_type_from bytes FuncRef s = (refl, s)
ref_type_from bytes ExternRef s = (refl, s)
ref_type_from bytes FuncRefNonNull s = absurd s
ref_type_from bytes ExternRefNonNull s = absurd s
ref_type_from bytes (TypeRef nullable index) s = (sym s.0, s.1)
ref_type_from bytes I32 s = s
ref_type_from bytes I64 s = s
ref_type_from bytes F32 s = s
ref_type_from bytes F64 s = s
ref_type_from bytes V128 s = s

ref_type_meets : Meets SpellsRefType (reference_at true)
ref_type_meets = same_meets (SpellsReference true) SpellsRefType (reference_at true) (reference_meets true) ref_type_to ref_type_from

nothing_meets : {A : Type 0} (v : A) → Meets (λ bytes w. (bytes ≡ []) × (w ≡ v)) (λ bytes. Some (v, bytes))
nothing_meets v = record {
  parses = λ bytes w rest e. let p = some_pair v w bytes rest e in ([], p.1, (refl, sym p.0));
  again = λ text w rest s. rw (s.0, s.1) refl;
}

abbrev IsZero : Format ImmediatesValue
IsZero bytes v = (bytes ≡ 0 ∷ []) × (v ≡ WithNone)

zero_meets : Meets IsZero (λ bytes. where_at is_zero byte_at bytes >>= made_at (λ _. WithNone))
zero_meets =
    same_meets (Made (Where IsByte is_zero) (λ _. WithNone)) IsZero (λ bytes. where_at is_zero byte_at bytes >>= made_at (λ _. WithNone)) (made_meets (Where IsByte is_zero) (where_at is_zero byte_at) (λ _. WithNone) (where_meets IsByte byte_at is_zero byte_meets))
    (λ bytes v j. (j.1.0 ∙ ap (λ (n : ℕ). n ∷ []) (eqb-true j.0 0 j.1.1), j.2))
    (λ bytes v s. (0, (s.0, refl), s.1))

pub immediates_meet : (f : Form) → Meets (SpellsImmediates f) (immediates_at f)
unfolding immediates_at
immediates_meet form_none = nothing_meets WithNone
immediates_meet form_block = made_meets SpellsBlockType block_type_at WithBlock block_type_meets
immediates_meet (form_index kind) = made_meets (SpellsNumber 32) (number_at 32) (λ n. WithIndex (index_of kind n)) (number_meets 32)
immediates_meet (form_indices first second) =
    bind_meets (SpellsNumber 32) (number_at 32) (λ n. Made (SpellsNumber 32) (λ m. WithIndices (index_of first n) (index_of second m))) (λ n bytes. number_at 32 bytes >>= made_at (λ m. WithIndices (index_of first n) (index_of second m)))
    (number_meets 32) (λ n. made_meets (SpellsNumber 32) (number_at 32) (λ m. WithIndices (index_of first n) (index_of second m)) (number_meets 32))
immediates_meet form_labels =
    bind_meets (SpellsVector (SpellsNumber 32)) (vector_at (number_at 32)) (λ ls. Made (SpellsNumber 32) (WithLabels ls)) (λ ls bytes. number_at 32 bytes >>= made_at (WithLabels ls))
    (vector_meets (SpellsNumber 32) (number_at 32) (number_meets 32)) (λ ls. made_meets (SpellsNumber 32) (number_at 32) (WithLabels ls) (number_meets 32))
immediates_meet form_val_types = made_meets (SpellsVector SpellsValType) (vector_at val_type_at) WithValTypes (vector_meets SpellsValType val_type_at val_type_meets)
immediates_meet form_ref_type = made_meets SpellsRefType (reference_at true) WithRefType ref_type_meets
immediates_meet form_mem_arg = made_meets SpellsMemArg mem_arg_at WithMemArg mem_arg_meets
immediates_meet form_mem_arg_lane =
    bind_meets SpellsMemArg mem_arg_at (λ m. Made IsByte (WithMemArgLane m)) (λ m bytes. byte_at bytes >>= made_at (WithMemArgLane m))
    mem_arg_meets (λ m. made_meets IsByte byte_at (WithMemArgLane m) byte_meets)
immediates_meet form_i32 = made_meets (SpellsSigned 32) (signed_at 32) WithI32 (signed_meets 32)
immediates_meet form_i64 = made_meets (SpellsSigned 64) (signed_at 64) WithI64 (signed_meets 64)
immediates_meet (form_bytes n) = made_meets (AreBytes n) (bytes_at n) WithBytes (bytes_meet n)
immediates_meet form_lane = made_meets IsByte byte_at WithLane byte_meets
immediates_meet form_zero = zero_meets

-- Operators.

-- reading that is chosen by what a table gives
given_meets : {F A : Type 0} (o : Option F) (Spells : F → Format A) (read : F → Read A) → ((f : F) → Meets (Spells f) (read f)) → Meets (λ bytes x. (f : F) × (o ≡ Some f) × Spells f bytes x) (λ bytes. o >>= λ f. read f bytes)
given_meets None Spells read m = record { parses = λ bytes x rest e. absurd (some_none (x, rest) (sym e)); again = λ text x rest s. absurd (some_none s.0 (sym s.1)) }
given_meets {F} (Some f) Spells read m = record {
  parses = λ bytes x rest e. let t = (m f).parses bytes x rest e in (t.0, t.1, (f, refl, t.2));
  again = λ text x rest s. (m f).again text x rest (subst (λ (g : F). Spells g text x) (sym (some_same f s.0 s.1)) s.2);
}

abbrev Tabled : Opcode → Format InstrValue
Tabled code bytes i = (f : Form) × (form_of code ≡ Some f) × Made (SpellsImmediates f) (instr_of code) bytes i

instr_to : (bytes : List ℕ) (i : InstrValue) → Joined SpellsOpcode Tabled bytes i → SpellsInstr bytes i
instr_to bytes i j =
    let k = j.5 in
    rw k.2.2 (record { code = j.1; others = j.2; form = k.0; cut = j.3; has_code = j.4; in_table = k.1; has_immediates = k.2.1 })

instr_from : (bytes : List ℕ) (i : InstrValue) → SpellsInstr bytes i → Joined SpellsOpcode Tabled bytes i
instr_from bytes i s = (i.opcode, s.code, s.others, s.cut, s.has_code, (s.form, s.in_table, (i.immediates, s.has_immediates, refl)))

pub instr_meets : Meets SpellsInstr instr_at
unfolding instr_at
instr_meets =
    same_meets (Joined SpellsOpcode Tabled) SpellsInstr instr_at
    (bind_meets SpellsOpcode opcode_at Tabled (λ code bytes. form_of code >>= λ f. immediates_at f bytes >>= made_at (instr_of code)) opcode_meets
    (λ code. given_meets (form_of code) (λ f. Made (SpellsImmediates f) (instr_of code)) (λ f bytes. immediates_at f bytes >>= made_at (instr_of code))
    (λ f. made_meets (SpellsImmediates f) (immediates_at f) (instr_of code) (immediates_meet f))))
    instr_to instr_from

-- an operator has bytes
pub instr_some : (i : InstrValue) → SpellsInstr [] i → ⊥
instr_some i s = go i.opcode s.code s.cut s.has_code
  where
    go : (o : Opcode) (code : List ℕ) → [] ≡ code ++ s.others → SpellsOpcode code o → ⊥
    go (Byte b) code cut c = absurd (cc (cut, c.0))
    go (Misc n) code cut c = absurd (cc (cut, c.1))
    go (Vector n) code cut c = absurd (cc (cut, c.1))
    go (Atomic n) code cut c = absurd (cc (cut, c.1))
