-- The text of an operator spells it.
use Rattle.std.proofs.Common.{◌≡◌, ℕ, ◌+◌, ◌^◌, ◌<◌, List, [], ◌∷◌, ◌++◌, length, Bool, true, false, pos, Some, None, refl, arith, subst, eqb-true}
use Rattle.std.specs.Prelude.{All, ◌==◌}
use Rattle.wc_read.specs.Formats.{SpellsNumber, SpellsVector}
use Rattle.wc_read.specs.Types.{SpellsValType}
use Rattle.wc_read.specs.Operators.{SpellsBlockType, SpellsMemArg, SpellsImmediates, SpellsInstr, ImmediatesValue, InstrValue}
use Rattle.wc_read.specs.declared.types.ValType.{ValType}
use Rattle.wc_read.specs.declared.operators.BlockType.{BlockType}
use Rattle.wc_read.specs.declared.operators.BlockType.TheVariants.{Empty, Value, FuncType}
use Rattle.wc_read.specs.declared.operators.MemArg.{MemArg}
use Rattle.wc_read.specs.declared.operators.Form.{Form}
use Rattle.wc_read.specs.declared.operators.Form.TheVariants.{None as form_none, Block as form_block, Index as form_index, Indices as form_indices, Labels as form_labels, ValTypes as form_val_types, RefType as form_ref_type, MemArg as form_mem_arg, MemArgLane as form_mem_arg_lane, I32 as form_i32, I64 as form_i64, Bytes as form_bytes, Lane as form_lane, Zero as form_zero}
use Rattle.wc_write.specs.Text.{number_text, val_type_text, vector_text}
use Rattle.wc_write.specs.Operators.{opcode_text, fence_text, block_type_text, mem_arg_text, immediates_text, instr_text}
use Rattle.wc_write.specs.Values.{IsValType, IsBlockType, IsMemArg, HasForm, IsInstr}
use Rattle.wc_write.proofs.NumberTextLemmas.{number_spelled, number_some}
use Rattle.wc_write.proofs.SignedTextLemmas.{signed_spelled}
use Rattle.wc_write.proofs.TextLemmas.{number_32}
use Rattle.wc_write.proofs.ValueTypeLemmas.{val_type_spelled, val_type_some, ref_type_spelled}
use Rattle.wc_write.proofs.VectorTextLemmas.{front_shorter, back_shorter, vector_spelled}
use Rattle.wc_write.proofs.FormLemmas.{zero_text, fence_is, opcode_spelled}

number_64 : (n : ℕ) → n < 2 ^ 64 → SpellsNumber 64 (number_text n) n
number_64 n fits = number_spelled 9 64 n (omega arith) fits

block_type_spelled : (t : BlockType) → IsBlockType t → SpellsBlockType (block_type_text t) t
block_type_spelled Empty h = refl
block_type_spelled (Value t) h = val_type_spelled t h
block_type_spelled (FuncType index) h = signed_spelled 33 (pos index) (omega arith) h

mem_arg_spelled : (m : MemArg) → IsMemArg m → SpellsMemArg (mem_arg_text m) m
mem_arg_spelled m h = by (m.memory == 0) refl
  where
    by : (t : Bool) → (m.memory == 0) ≡ t → SpellsMemArg (mem_arg_text m) m
    by true e = rw e (record {
      flags = number_text m.align;
      memory = [];
      offset = number_text m.offset;
      named = None;
      cut = refl;
      aligned = h.aligned;
      has_flags = let plain : m.align ≡ m.align + 0 = omega arith in subst (λ (n : ℕ). SpellsNumber 32 (number_text m.align) n) plain (number_32 m.align (omega (arith, h.aligned)));
      has_memory = refl;
      memory_is = eqb-true m.memory 0 e;
      has_offset = number_64 m.offset h.offset_fits;
    })
    by false e = rw e (record {
      flags = number_text (m.align + 64);
      memory = number_text m.memory;
      offset = number_text m.offset;
      named = Some m.memory;
      cut = refl;
      aligned = h.aligned;
      has_flags = number_32 (m.align + 64) (omega (arith, h.aligned));
      has_memory = number_32 m.memory h.memory_fits;
      memory_is = refl;
      has_offset = number_64 m.offset h.offset_fits;
    })

labels_spelled : (labels : List ℕ) → All (λ (n : ℕ). n < 2 ^ 32) labels → length (vector_text number_text labels) < 2 ^ 32 → SpellsVector (SpellsNumber 32) (vector_text number_text labels) labels
labels_spelled labels all short = vector_spelled (SpellsNumber 32) number_text (λ (n : ℕ). n < 2 ^ 32) (λ n fits _. number_32 n fits) (number_some 9) labels all short

pub val_types_spelled : (ts : List ValType) → All IsValType ts → length (vector_text val_type_text ts) < 2 ^ 32
    → SpellsVector SpellsValType (vector_text val_type_text ts) ts
val_types_spelled ts all short = vector_spelled SpellsValType val_type_text IsValType (λ t h _. val_type_spelled t h) val_type_some ts all short

immediates_spelled : (f : Form) (v : ImmediatesValue) → HasForm f v → length (immediates_text v) < 2 ^ 32 → SpellsImmediates f (zero_text f ++ immediates_text v) v
unfolding immediates_text
immediates_spelled form_none v h short = rw h (refl, refl)
immediates_spelled form_block v h short = rw h.1 (h.0, block_type_spelled h.0 h.2, refl)
immediates_spelled (form_index kind) v h short = rw h.1 (h.0, number_32 h.0 h.2, refl)
immediates_spelled (form_indices first second) v h short = rw h.2 (h.0, number_text h.0, number_text h.1, refl, number_32 h.0 h.3, (h.1, number_32 h.1 h.4, refl))
immediates_spelled form_labels v h short =
    let complete : length (vector_text number_text h.0 ++ number_text h.1) < 2 ^ 32 = rw h.2 at short in
    rw h.2 (h.0, vector_text number_text h.0, number_text h.1, refl, labels_spelled h.0 h.3 (front_shorter (vector_text number_text h.0) (number_text h.1) _ complete), (h.1, number_32 h.1 h.4, refl))
immediates_spelled form_val_types v h short =
    let complete : length (vector_text val_type_text h.0) < 2 ^ 32 = rw h.1 at short in
    rw h.1 (h.0, val_types_spelled h.0 h.2 complete, refl)
immediates_spelled form_ref_type v h short = rw h.1 (h.0, ref_type_spelled h.0 h.2, refl)
immediates_spelled form_mem_arg v h short = rw h.1 (h.0, mem_arg_spelled h.0 h.2, refl)
immediates_spelled form_mem_arg_lane v h short = rw h.2 (h.0, mem_arg_text h.0, h.1 ∷ [], refl, mem_arg_spelled h.0 h.3, (h.1, refl, refl))
immediates_spelled form_i32 v h short = rw h.1 (h.0, signed_spelled 32 h.0 (omega arith) h.2, refl)
immediates_spelled form_i64 v h short = rw h.1 (h.0, signed_spelled 64 h.0 (omega arith) h.2, refl)
immediates_spelled (form_bytes count) v h short = rw h.1 (h.0, (refl, h.2), refl)
immediates_spelled form_lane v h short = rw h.1 (h.0, refl, refl)
immediates_spelled form_zero v h short = rw h (refl, refl)

pub instr_spelled : (i : InstrValue) → IsInstr i → length (instr_text i) < 2 ^ 32 → SpellsInstr (instr_text i) i
unfolding instr_text
instr_spelled i h short =
    let others = back_shorter (opcode_text i.opcode) (fence_text i.opcode ++ immediates_text i.immediates) _ short in
    record {
      code = opcode_text i.opcode;
      others = fence_text i.opcode ++ immediates_text i.immediates;
      form = h.form;
      cut = refl;
      has_code = opcode_spelled i.opcode h.form h.in_table;
      in_table = h.in_table;
      has_immediates = rw (fence_is i.opcode h.form h.in_table) (immediates_spelled h.form i.immediates h.has_form (back_shorter (fence_text i.opcode) (immediates_text i.immediates) _ others));
    }
