-- What bytes spell is a body that can be spelled, and its text is no longer.
use Rattle.std.proofs.Common.{◌≡◌, ℕ, ◌+◌, ◌^◌, ◌<◌, ◌≤◌, List, [], ◌∷◌, ◌++◌, length, Bool, true, false, pos, Option, Some, None, refl, arith}
use Rattle.std.specs.Prelude.{All, ◌==◌, is_some, unwrap_or, if◌then◌else◌}
use Rattle.std.specs.List.{flat_map}
use Rattle.std.proofs.lemmas.List.{length-append}
use Rattle.std.proofs.lemmas.List.Elements.{All-head}
use Rattle.wc_read.specs.Formats.{SpellsNumber, SpellsOptional, SpellsVector}
use Rattle.wc_read.specs.Types.{SpellsValType}
use Rattle.wc_read.specs.declared.types.ValType.{ValType}
use Rattle.wc_read.specs.Operators.{SpellsOpcode, SpellsBlockType, SpellsMemArg, SpellsImmediates, SpellsInstr, ImmediatesValue, InstrValue}
use Rattle.wc_read.specs.Bodies.{BodyValue, SpellsLocals, SpellsBody}
use Rattle.wc_read.specs.declared.bodies.Locals.{Locals}
use Rattle.wc_read.specs.declared.operators.Opcode.{Opcode}
use Rattle.wc_read.specs.declared.operators.Opcode.TheVariants.{Byte, Misc, Vector, Atomic}
use Rattle.wc_read.specs.declared.operators.BlockType.{BlockType}
use Rattle.wc_read.specs.declared.operators.BlockType.TheVariants.{Empty, Value, FuncType}
use Rattle.wc_read.specs.declared.operators.MemArg.{MemArg}
use Rattle.wc_read.specs.declared.operators.Form.{Form}
use Rattle.wc_read.specs.declared.operators.Form.TheVariants.{None as form_none, Block as form_block, Index as form_index, Indices as form_indices, Labels as form_labels, ValTypes as form_val_types, RefType as form_ref_type, MemArg as form_mem_arg, MemArgLane as form_mem_arg_lane, I32 as form_i32, I64 as form_i64, Bytes as form_bytes, Lane as form_lane, Zero as form_zero}
use Rattle.wc_write.specs.Text.{number_text, val_type_text, vector_text}
use Rattle.wc_write.specs.Operators.{opcode_text, block_type_text, mem_arg_text, immediates_text, instr_text}
use Rattle.wc_write.specs.Bodies.{locals_text, body_text}
use Rattle.wc_write.specs.Values.{AreBytes, IsValType, IsBlockType, IsMemArg, HasForm, IsInstr, IsBody}
use Rattle.wc_write.proofs.ByteLemmas.{front_bytes, back_bytes, tail_bytes}
use Rattle.wc_write.proofs.DigitLemmas.{digits_last}
use Rattle.wc_write.proofs.NumberTextLemmas.{number_shortest, some_byte}
use Rattle.wc_write.proofs.SignedTextLemmas.{signed_fits, signed_shortest}
use Rattle.wc_write.proofs.ValueLemmas.{number_fits}
use Rattle.wc_write.proofs.ShortestTextLemmas.{joined}
use Rattle.wc_write.proofs.ValueTypeLemmas.{val_type_is, val_type_shortest, ref_type_is, ref_type_shortest}
use Rattle.wc_write.proofs.VectorTextLemmas.{items_are, items_shortest, vector_shortest}
use Rattle.wc_write.proofs.FormLemmas.{zero_text, fence_is}

-- What is spelled has its bits.

block_type_is : (bytes : List ℕ) (t : BlockType) → SpellsBlockType bytes t → AreBytes bytes → IsBlockType t
block_type_is bytes Empty s all = tt
block_type_is bytes (Value t) s all = val_type_is bytes t s all
block_type_is bytes (FuncType index) s all = signed_fits s all

memory_fits : (named : Option ℕ) (bytes : List ℕ) (memory : ℕ) → SpellsOptional (SpellsNumber 32) bytes named → memory ≡ unwrap_or named 0 → AreBytes bytes → memory < 2 ^ 32
memory_fits None bytes memory s e all = omega arith
memory_fits (Some n) bytes memory s e all = let fits : n < 2 ^ 32 = number_fits s all in omega arith

mem_arg_is : (bytes : List ℕ) (m : MemArg) → SpellsMemArg bytes m → AreBytes bytes → IsMemArg m
mem_arg_is bytes m s all =
    let after = back_bytes s.flags (s.memory ++ s.offset) (rw s.cut at all) in
    record {
      aligned = s.aligned;
      memory_fits = memory_fits s.named s.memory m.memory s.has_memory s.memory_is (front_bytes s.memory s.offset after);
      offset_fits = number_fits s.has_offset (back_bytes s.memory s.offset after);
    }

lane_is : (lane : ℕ) (bytes : List ℕ) → bytes ≡ lane ∷ [] → AreBytes bytes → lane < 256
lane_is lane bytes e all = All-head (λ (b : ℕ). b < 256) lane [] (rw e at all)

pub val_types_are : (bytes : List ℕ) (ts : List ValType) → SpellsVector SpellsValType bytes ts → AreBytes bytes → All IsValType ts
val_types_are bytes ts s all = items_are SpellsValType val_type_text IsValType val_type_is s.1 ts s.4 (back_bytes s.0 s.1 (rw s.2 at all))

locals_are : (bytes : List ℕ) (l : Locals) → SpellsLocals bytes l → AreBytes bytes → IsValType l.ty
locals_are bytes l s all = val_type_is s.1 l.ty s.4 (back_bytes s.0 s.1 (rw s.2 at all))

immediates_are : (f : Form) (bytes : List ℕ) (v : ImmediatesValue) → SpellsImmediates f bytes v → AreBytes bytes → HasForm f v
immediates_are form_none bytes v s all = s.1
immediates_are form_block bytes v s all = (s.0, s.2, block_type_is bytes s.0 s.1 all)
immediates_are (form_index kind) bytes v s all = (s.0, s.2, number_fits s.1 all)
immediates_are (form_indices first second) bytes v s all =
    let cut = rw s.3 at all in
    (s.0, s.5.0, s.5.2, number_fits s.4 (front_bytes s.1 s.2 cut), number_fits s.5.1 (back_bytes s.1 s.2 cut))
immediates_are form_labels bytes v s all =
    let cut = rw s.3 at all in
    let items = rw s.4.2 at (front_bytes s.1 s.2 cut) in
    (s.0, s.5.0, s.5.2, items_are (SpellsNumber 32) number_text (λ (n : ℕ). n < 2 ^ 32) (λ b n t some. number_fits t some) s.4.1 s.0 s.4.4 (back_bytes s.4.0 s.4.1 items), number_fits s.5.1 (back_bytes s.1 s.2 cut))
immediates_are form_val_types bytes v s all = (s.0, s.2, val_types_are bytes s.0 s.1 all)
immediates_are form_ref_type bytes v s all = (s.0, s.2, ref_type_is bytes s.0 s.1 all)
immediates_are form_mem_arg bytes v s all = (s.0, s.2, mem_arg_is bytes s.0 s.1 all)
immediates_are form_mem_arg_lane bytes v s all =
    let cut = rw s.3 at all in
    (s.0, s.5.0, s.5.2, mem_arg_is s.1 s.0 s.4 (front_bytes s.1 s.2 cut), lane_is s.5.0 s.2 s.5.1 (back_bytes s.1 s.2 cut))
immediates_are form_i32 bytes v s all = (s.0, s.2, signed_fits s.1 all)
immediates_are form_i64 bytes v s all = (s.0, s.2, signed_fits s.1 all)
immediates_are (form_bytes count) bytes v s all = (s.0, s.2, s.1.1, rw s.1.0 at all)
immediates_are form_lane bytes v s all = (s.0, s.2, lane_is s.0 bytes s.1 all)
immediates_are form_zero bytes v s all = s.1

pub instr_is : (bytes : List ℕ) (i : InstrValue) → SpellsInstr bytes i → AreBytes bytes → IsInstr i
instr_is bytes i s all = record {
  form = s.form;
  in_table = s.in_table;
  has_form = immediates_are s.form s.others i.immediates s.has_immediates (back_bytes s.code s.others (rw s.cut at all));
}

runs_are : (bytes : List ℕ) (ls : List Locals) → SpellsVector SpellsLocals bytes ls → AreBytes bytes → All (λ l. IsValType l.ty) ls
runs_are bytes ls s all = items_are SpellsLocals locals_text (λ (l : Locals). IsValType l.ty) locals_are s.1 ls s.4 (back_bytes s.0 s.1 (rw s.2 at all))

pub body_is : (bytes : List ℕ) (b : BodyValue) → AreBytes bytes → SpellsBody bytes b → IsBody b
body_is bytes b all s = record {
  locals_fit_u32 = s.locals_fit_u32;
  has_locals = runs_are s.runs b.locals s.has_locals (front_bytes s.runs s.code (rw s.cut at all));
  has_operators = items_are SpellsInstr instr_text IsInstr instr_is s.code b.operators s.has_operators (back_bytes s.runs s.code (rw s.cut at all));
  nests = s.nests;
}

-- The text is no longer.

opcode_shortest : (bytes : List ℕ) (o : Opcode) → SpellsOpcode bytes o → AreBytes bytes → length (opcode_text o) ≤ length bytes
opcode_shortest bytes (Byte b) s all = rw s.0 (omega arith)
opcode_shortest bytes (Misc n) s all = let rest = number_shortest 9 s.2 (tail_bytes 0xfc s.0 (rw s.1 at all)) in rw s.1 (omega arith)
opcode_shortest bytes (Vector n) s all = let rest = number_shortest 9 s.2 (tail_bytes 0xfd s.0 (rw s.1 at all)) in rw s.1 (omega arith)
opcode_shortest bytes (Atomic n) s all = let rest = number_shortest 9 s.2 (tail_bytes 0xfe s.0 (rw s.1 at all)) in rw s.1 (omega arith)

block_type_shortest : (bytes : List ℕ) (t : BlockType) → SpellsBlockType bytes t → AreBytes bytes → length (block_type_text t) ≤ length bytes
block_type_shortest bytes Empty s all = rw s (omega arith)
block_type_shortest bytes (Value t) s all = val_type_shortest bytes t s all
block_type_shortest bytes (FuncType index) s all = signed_shortest (pos index) s all

-- an exponent of six bits has one byte
align_shortest : (align : ℕ) {bits n : ℕ} {flags : List ℕ} → align < 64 → SpellsNumber bits flags n → length (number_text align) ≤ length flags
align_shortest align small s = let some = some_byte s in rw (digits_last 9 align (omega arith)) (omega arith)

mem_arg_shortest : (bytes : List ℕ) (m : MemArg) → SpellsMemArg bytes m → AreBytes bytes → length (mem_arg_text m) ≤ length bytes
mem_arg_shortest bytes m s all = rw s.cut (by (m.memory == 0) refl s.named s.has_flags s.has_memory s.memory_is)
  where
    after : AreBytes (s.memory ++ s.offset)
    after = back_bytes s.flags (s.memory ++ s.offset) (rw s.cut at all)

    offset : length (number_text m.offset) ≤ length s.offset
    offset = number_shortest 9 s.has_offset (back_bytes s.memory s.offset after)

    by : (t : Bool) → (m.memory == 0) ≡ t → (named : Option ℕ) → SpellsNumber 32 s.flags (m.align + (if is_some named then 64 else 0)) → SpellsOptional (SpellsNumber 32) s.memory named → m.memory ≡ unwrap_or named 0 → length (mem_arg_text m) ≤ length (s.flags ++ (s.memory ++ s.offset))
    by true e named flags memory is = rw e (joined (number_text m.align) (number_text m.offset) s.flags (s.memory ++ s.offset) (align_shortest m.align s.aligned flags) (omega (arith, offset, length-append s.memory s.offset)))
    by false e None flags memory is = absurd (cc (e, is))
    by false e (Some n) flags memory is = rw e (joined (number_text (m.align + 64)) (number_text m.memory ++ number_text m.offset) s.flags (s.memory ++ s.offset)
        (number_shortest 9 flags (front_bytes s.flags (s.memory ++ s.offset) (rw s.cut at all)))
        (joined (number_text m.memory) (number_text m.offset) s.memory s.offset (rw is (number_shortest 9 memory (front_bytes s.memory s.offset after))) offset))

immediates_shortest : (f : Form) (bytes : List ℕ) (v : ImmediatesValue) → SpellsImmediates f bytes v → AreBytes bytes → length (zero_text f ++ immediates_text v) ≤ length bytes
unfolding immediates_text
immediates_shortest form_none bytes v s all = rw (s.0, s.1) (omega arith)
immediates_shortest form_block bytes v s all = rw s.2 (block_type_shortest bytes s.0 s.1 all)
immediates_shortest (form_index kind) bytes v s all = rw s.2 (number_shortest 9 s.1 all)
immediates_shortest (form_indices first second) bytes v s all =
    let cut = rw s.3 at all in
    rw (s.5.2, s.3) (joined (number_text s.0) (number_text s.5.0) s.1 s.2 (number_shortest 9 s.4 (front_bytes s.1 s.2 cut)) (number_shortest 9 s.5.1 (back_bytes s.1 s.2 cut)))
immediates_shortest form_labels bytes v s all =
    let cut = rw s.3 at all in
    rw (s.5.2, s.3) (joined (vector_text number_text s.0) (number_text s.5.0) s.1 s.2
    (vector_shortest (SpellsNumber 32) number_text (λ b n t some. number_shortest 9 t some) s.1 s.0 s.4 (front_bytes s.1 s.2 cut))
    (number_shortest 9 s.5.1 (back_bytes s.1 s.2 cut)))
immediates_shortest form_val_types bytes v s all = rw s.2 (vector_shortest SpellsValType val_type_text val_type_shortest bytes s.0 s.1 all)
immediates_shortest form_ref_type bytes v s all = rw s.2 (ref_type_shortest bytes s.0 s.1 all)
immediates_shortest form_mem_arg bytes v s all = rw s.2 (mem_arg_shortest bytes s.0 s.1 all)
immediates_shortest form_mem_arg_lane bytes v s all =
    let cut = rw s.3 at all in
    rw (s.5.2, s.3) (joined (mem_arg_text s.0) (s.5.0 ∷ []) s.1 s.2 (mem_arg_shortest s.1 s.0 s.4 (front_bytes s.1 s.2 cut)) (rw s.5.1 (omega arith)))
immediates_shortest form_i32 bytes v s all = rw s.2 (signed_shortest s.0 s.1 all)
immediates_shortest form_i64 bytes v s all = rw s.2 (signed_shortest s.0 s.1 all)
immediates_shortest (form_bytes count) bytes v s all = rw (s.2, s.1.0) (omega arith)
immediates_shortest form_lane bytes v s all = rw (s.2, s.1) (omega arith)
immediates_shortest form_zero bytes v s all = rw (s.0, s.1) (omega arith)

pub instr_shortest : (bytes : List ℕ) (i : InstrValue) → SpellsInstr bytes i → AreBytes bytes → length (instr_text i) ≤ length bytes
unfolding instr_text
instr_shortest bytes i s all =
    let cut = rw s.cut at all in
    rw (s.cut, fence_is i.opcode s.form s.in_table) (joined (opcode_text i.opcode) (zero_text s.form ++ immediates_text i.immediates) s.code s.others
    (opcode_shortest s.code i.opcode s.has_code (front_bytes s.code s.others cut))
    (immediates_shortest s.form s.others i.immediates s.has_immediates (back_bytes s.code s.others cut)))

locals_shortest : (bytes : List ℕ) (l : Locals) → SpellsLocals bytes l → AreBytes bytes → length (locals_text l) ≤ length bytes
locals_shortest bytes l s all =
    let cut = rw s.2 at all in
    rw s.2 (joined (number_text l.count) (val_type_text l.ty) s.0 s.1 (number_shortest 9 s.3 (front_bytes s.0 s.1 cut))
    (val_type_shortest s.1 l.ty s.4 (back_bytes s.0 s.1 cut)))

pub body_shortest : (bytes : List ℕ) (b : BodyValue) → AreBytes bytes → SpellsBody bytes b → length (body_text b) ≤ length bytes
unfolding body_text
body_shortest bytes b all s =
    let cut = rw s.cut at all in
    rw s.cut (joined (vector_text locals_text b.locals) (flat_map instr_text b.operators) s.runs s.code
    (vector_shortest SpellsLocals locals_text locals_shortest s.runs b.locals s.has_locals (front_bytes s.runs s.code cut))
    (items_shortest SpellsInstr instr_text instr_shortest s.code b.operators s.has_operators (back_bytes s.runs s.code cut)))
