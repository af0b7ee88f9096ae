-- Operators, by the operator table (5.4).
use Rattle.std.specs.Prelude.{ℕ, ◌==◌, if◌then◌else◌, Some, Bool, true, ◌&&◌, nat_lt, ◌%◌, nat_le, unwrap_or}
use Rattle.wc_read.specs.Options.{◌>>=◌}
use Rattle.wc_read.specs.Operators.{index_of, ImmediatesValue, WithNone, WithBlock, WithIndex, WithIndices, WithLabels, WithValTypes, WithRefType, WithMemArg, WithMemArgLane, WithI32, WithI64, WithBytes, WithLane, InstrValue, form_of}
use Rattle.wc_read.specs.Reading.Reader.{Read, number_at, as_made, byte_at, where_at, optional_at, bytes_at, vector_at}
use Rattle.wc_read.specs.Reading.Signed.{signed_at}
use Rattle.wc_read.specs.Reading.Types.{type_index_at, reference_at, val_type_at}
use Rattle.wc_read.specs.declared.operators.Opcode.{Opcode}
use Rattle.wc_read.specs.declared.operators.Opcode.TheVariants.{Byte, Misc, Vector, Atomic}
use Rattle.wc_read.specs.declared.operators.BlockType.{BlockType}
use Rattle.wc_read.specs.declared.operators.BlockType.TheVariants.{FuncType, Empty, Value}
use Rattle.wc_read.specs.declared.operators.MemArg.{MemArg}
use Rattle.wc_read.specs.declared.operators.Form.{Form}
use Rattle.wc_read.specs.declared.operators.Form.TheVariants.{None as form_none, Block as form_block, Index as form_index, Indices as form_indices, Labels as form_labels, ValTypes as form_val_types, RefType as form_ref_type, MemArg as form_mem_arg, MemArgLane as form_mem_arg_lane, I32 as form_i32, I64 as form_i64, Bytes as form_bytes, Lane as form_lane, Zero as form_zero}

-- codes

abbrev pub opcode_after : ℕ → Read Opcode
opcode_after b bytes =
    if b == 0xfc then number_at 32 bytes >>= as_made Misc
    else if b == 0xfd then number_at 32 bytes >>= as_made Vector
    else if b == 0xfe then number_at 32 bytes >>= as_made Atomic else Some (Byte b, bytes)

unfoldable pub opcode_at : Read Opcode
opcode_at bytes = do
  b ← byte_at bytes
  opcode_after b.0 b.1

-- parts

-- the bytes of value types, and those beside them
abbrev pub is_value : ℕ → Bool
is_value b = nat_lt 0x40 b && nat_lt b 0x80

abbrev pub block_type_after : ℕ → Read BlockType
block_type_after b bytes =
    if b == 0x40 then byte_at bytes >>= as_made (λ _. Empty)
    else if is_value b then val_type_at bytes >>= as_made Value else type_index_at bytes >>= as_made FuncType

unfoldable pub block_type_at : Read BlockType
block_type_at bytes = do
  b ← byte_at bytes
  block_type_after b.0 bytes

abbrev pub are_flags : ℕ → Bool
are_flags f = nat_lt f 128

unfoldable pub mem_arg_at : Read MemArg
mem_arg_at bytes = do
  flags ← where_at are_flags (number_at 32) bytes
  named ← optional_at (nat_le 64 flags.0) (number_at 32) flags.1
  offset ← number_at 64 named.1
  Some (record { align = flags.0 % 64; memory = unwrap_or named.0 0; offset = offset.0 }, offset.1)

abbrev pub is_zero : ℕ → Bool
is_zero b = b == 0

-- immediates by their shape

unfoldable pub immediates_at : Form → Read ImmediatesValue
immediates_at form_none bytes = Some (WithNone, bytes)
immediates_at form_block bytes = block_type_at bytes >>= as_made WithBlock
immediates_at (form_index kind) bytes = number_at 32 bytes >>= as_made (λ n. WithIndex (index_of kind n))
immediates_at (form_indices first second) bytes = number_at 32 bytes >>= λ n. number_at 32 n.1 >>= as_made (λ m. WithIndices (index_of first n.0) (index_of second m))
immediates_at form_labels bytes = vector_at (number_at 32) bytes >>= λ labels. number_at 32 labels.1 >>= as_made (WithLabels labels.0)
immediates_at form_val_types bytes = vector_at val_type_at bytes >>= as_made WithValTypes
immediates_at form_ref_type bytes = reference_at true bytes >>= as_made WithRefType
immediates_at form_mem_arg bytes = mem_arg_at bytes >>= as_made WithMemArg
immediates_at form_mem_arg_lane bytes = mem_arg_at bytes >>= λ m. byte_at m.1 >>= as_made (WithMemArgLane m.0)
immediates_at form_i32 bytes = signed_at 32 bytes >>= as_made WithI32
immediates_at form_i64 bytes = signed_at 64 bytes >>= as_made WithI64
immediates_at (form_bytes n) bytes = bytes_at n bytes >>= as_made WithBytes
immediates_at form_lane bytes = byte_at bytes >>= as_made WithLane
immediates_at form_zero bytes = where_at is_zero byte_at bytes >>= as_made (λ _. WithNone)

abbrev pub instr_of : Opcode → ImmediatesValue → InstrValue
instr_of code v = record { opcode = code; immediates = v }

-- an operator by its code and its shape
abbrev pub instr_after : Opcode → Form → Read InstrValue
instr_after code form bytes = immediates_at form bytes >>= as_made (instr_of code)

unfoldable pub instr_at : Read InstrValue
instr_at bytes = do
  code ← opcode_at bytes
  form ← form_of code.0
  instr_after code.0 form code.1
