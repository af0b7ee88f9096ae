-- Operators (WebAssembly core specification, 5.4 "Instructions"): one table from codes to the shapes of immediates, and
-- how bytes spell an operator by that table.
use Rattle.std.specs.Prelude.{◌≡◌, ℕ, ◌+◌, ◌<◌, List, [], ◌∷◌, ◌++◌, length, map, Bool, true, false, ◌||◌, ◌&&◌, ◌==◌, nat_le, if◌then◌else◌, Option, Some, None, is_some, unwrap_or, ℤ}
use Rattle.wc_read.specs.Formats.{Format, SpellsNumber, SpellsOptional, SpellsVector, Joined}
use Rattle.wc_read.specs.Types.{SpellsTypeIndex, SpellsValType}
use Rattle.wc_read.specs.Signed.{SpellsSigned}
use Rattle.wc_read.specs.declared.types.ValType.{ValType}
use Rattle.wc_read.specs.declared.types.ValType.TheVariants.{FuncRef, ExternRef, TypeRef}
use Rattle.wc_read.specs.declared.operators.Opcode.{Opcode}
use Rattle.wc_read.specs.declared.operators.Opcode.TheVariants.{Byte, Misc, Vector, Atomic}
use Rattle.wc_read.specs.declared.operators.Space.TheVariants.{Types, Funcs, Tables, Memories, Globals}
use Rattle.wc_read.specs.declared.operators.IndexKind.{IndexKind}
use Rattle.wc_read.specs.declared.operators.IndexKind.TheVariants.{In, Elem, Data, Local, Label}
use Rattle.wc_read.specs.declared.operators.Index.{Index}
use Rattle.wc_read.specs.declared.operators.BlockType.{BlockType}
use Rattle.wc_read.specs.declared.operators.BlockType.TheVariants.{Empty, Value, FuncType}
use Rattle.wc_read.specs.declared.operators.MemArg.{MemArg}
use Rattle.wc_read.specs.declared.operators.Immediates.{Immediates}
use Rattle.wc_read.specs.declared.operators.Immediates.TheVariants.{None as has_none, Block as has_block, Index as has_index, Indices as has_indices, Labels as has_labels, ValTypes as has_val_types, RefType as has_ref_type, MemArg as has_mem_arg, MemArgLane as has_mem_arg_lane, I32 as has_i32, I64 as has_i64, Bytes as has_bytes, Lane as has_lane}
use Rattle.wc_read.specs.declared.operators.Instr.{Instr}
use Rattle.wc_read.specs.declared.operators.Form.{Form}
use Rattle.wc_read.specs.declared.operators.Form.TheVariants.{None as form_none, Block as form_block, Index as form_index, Indices as form_indices, Labels as form_labels, ValTypes as form_val_types, RefType as form_ref_type, MemArg as form_mem_arg, MemArgLane as form_mem_arg_lane, I32 as form_i32, I64 as form_i64, Bytes as form_bytes, Lane as form_lane, Zero as form_zero}

-- the code of `end`
abbrev pub end_code : ℕ
end_code = 0x0b

-- the operator table

abbrev pub is_between : ℕ → ℕ → ℕ → Bool
is_between low high n = nat_le low n && nat_le n high

unfoldable pub byte_form : ℕ → Option Form
byte_form b =
    -- unreachable, nop, else, end, return, drop, select
    if b == 0x00 || b == 0x01 || b == 0x05 || b == 0x0b || b == 0x0f || b == 0x1a || b == 0x1b then Some form_none
    -- block, loop, if
    else if is_between 0x02 0x04 b then Some form_block
    -- br, br_if, br_on_null, br_on_non_null
    else if b == 0x0c || b == 0x0d || b == 0xd5 || b == 0xd6 then Some (form_index Label)
    -- br_table
    else if b == 0x0e then Some form_labels
    -- call, return_call, ref.func
    else if b == 0x10 || b == 0x12 || b == 0xd2 then Some (form_index (In Funcs))
    -- call_indirect, return_call_indirect
    else if b == 0x11 || b == 0x13 then Some (form_indices (In Types) (In Tables))
    -- call_ref, return_call_ref
    else if b == 0x14 || b == 0x15 then Some (form_index (In Types))
    -- select, with the types of its values
    else if b == 0x1c then Some form_val_types
    -- local.get, local.set, local.tee
    else if is_between 0x20 0x22 b then Some (form_index Local)
    -- global.get, global.set
    else if b == 0x23 || b == 0x24 then Some (form_index (In Globals))
    -- table.get, table.set
    else if b == 0x25 || b == 0x26 then Some (form_index (In Tables))
    -- i32.load to i64.store32
    else if is_between 0x28 0x3e b then Some form_mem_arg
    -- memory.size, memory.grow
    else if b == 0x3f || b == 0x40 then Some (form_index (In Memories))
    -- i32.const
    else if b == 0x41 then Some form_i32
    -- i64.const
    else if b == 0x42 then Some form_i64
    -- f32.const
    else if b == 0x43 then Some (form_bytes 4)
    -- f64.const
    else if b == 0x44 then Some (form_bytes 8)
    -- i32.eqz to i64.extend32_s, ref.is_null, ref.as_non_null
    else if is_between 0x45 0xc4 b || b == 0xd1 || b == 0xd4 then Some form_none
    -- ref.null
    else if b == 0xd0 then Some form_ref_type else None

unfoldable pub misc_form : ℕ → Option Form
misc_form n =
    -- i32.trunc_sat_f32_s to i64.trunc_sat_f64_u
    if nat_le n 7 then Some form_none
    -- memory.init
    else if n == 8 then Some (form_indices Data (In Memories))
    -- data.drop
    else if n == 9 then Some (form_index Data)
    -- memory.copy
    else if n == 10 then Some (form_indices (In Memories) (In Memories))
    -- memory.fill
    else if n == 11 then Some (form_index (In Memories))
    -- table.init
    else if n == 12 then Some (form_indices Elem (In Tables))
    -- elem.drop
    else if n == 13 then Some (form_index Elem)
    -- table.copy
    else if n == 14 then Some (form_indices (In Tables) (In Tables))
    -- table.grow, table.size, table.fill
    else if is_between 15 17 n then Some (form_index (In Tables)) else None

unfoldable pub vector_form : ℕ → Option Form
vector_form n =
    -- v128.load to v128.store, v128.load32_zero, v128.load64_zero
    if nat_le n 11 || n == 92 || n == 93 then Some form_mem_arg
    -- v128.const, i8x16.shuffle
    else if n == 12 || n == 13 then Some (form_bytes 16)
    -- i8x16.extract_lane_s to f64x2.replace_lane
    else if is_between 21 34 n then Some form_lane
    -- v128.load8_lane to v128.store64_lane
    else if is_between 84 91 n then Some form_mem_arg_lane
    -- i8x16.swizzle to i32x4.relaxed_dot_i8x16_i7x16_add_s; those between that are not assigned
    -- count as operators
    else if nat_le n 0x113 then Some form_none else None

unfoldable pub atomic_form : ℕ → Option Form
atomic_form n =
    -- memory.atomic.notify, memory.atomic.wait32, memory.atomic.wait64;
    -- i32.atomic.load to i64.atomic.rmw32.cmpxchg_u
    if nat_le n 2 || is_between 0x10 0x4e n then Some form_mem_arg
    -- atomic.fence
    else if n == 3 then Some form_zero else None

abbrev pub form_of : Opcode → Option Form
form_of (Byte b) = byte_form b
form_of (Misc n) = misc_form n
form_of (Vector n) = vector_form n
form_of (Atomic n) = atomic_form n

-- values

-- what is after an operator's code, lists and texts as such
pub data ImmediatesValue : Type 0 where
  WithNone : ImmediatesValue
  WithBlock : BlockType → ImmediatesValue
  WithIndex : Index → ImmediatesValue
  WithIndices : Index → Index → ImmediatesValue
  WithLabels : List ℕ → ℕ → ImmediatesValue
  WithValTypes : List ValType → ImmediatesValue
  WithRefType : ValType → ImmediatesValue
  WithMemArg : MemArg → ImmediatesValue
  WithMemArgLane : MemArg → ℕ → ImmediatesValue
  WithI32 : ℤ → ImmediatesValue
  WithI64 : ℤ → ImmediatesValue
  WithBytes : List ℕ → ImmediatesValue
  WithLane : ℕ → ImmediatesValue

pub record InstrValue : Type 0 where
  pub opcode : Opcode
  pub immediates : ImmediatesValue

abbrev pub immediates_value : Immediates → ImmediatesValue
immediates_value has_none = WithNone
immediates_value (has_block t) = WithBlock t
immediates_value (has_index i) = WithIndex i
immediates_value (has_indices i j) = WithIndices i j
immediates_value (has_labels ls d) = WithLabels ls.items d
immediates_value (has_val_types ts) = WithValTypes ts.items
immediates_value (has_ref_type t) = WithRefType t
immediates_value (has_mem_arg m) = WithMemArg m
immediates_value (has_mem_arg_lane m l) = WithMemArgLane m l
immediates_value (has_i32 n) = WithI32 n
immediates_value (has_i64 n) = WithI64 n
immediates_value (has_bytes b) = WithBytes b.now
immediates_value (has_lane l) = WithLane l

abbrev pub instr_value : Instr → InstrValue
instr_value i = record { opcode = i.opcode; immediates = immediates_value i.immediates }

abbrev pub instr_values : List Instr → List InstrValue
instr_values is = map instr_value is

-- how bytes spell what is after an operator's code

abbrev pub is_prefix : ℕ → Bool
is_prefix b = b == 0xfc || b == 0xfd || b == 0xfe

abbrev pub SpellsOpcode : Format Opcode
SpellsOpcode bytes (Byte b) = (bytes ≡ b ∷ []) × (is_prefix b ≡ false)
SpellsOpcode bytes (Misc n) = (number : List ℕ) × (bytes ≡ 0xfc ∷ number) × SpellsNumber 32 number n
SpellsOpcode bytes (Vector n) = (number : List ℕ) × (bytes ≡ 0xfd ∷ number) × SpellsNumber 32 number n
SpellsOpcode bytes (Atomic n) = (number : List ℕ) × (bytes ≡ 0xfe ∷ number) × SpellsNumber 32 number n

-- a block's type: 40, a value type, or the index of a function type as a signed number of 33 bits
abbrev pub SpellsBlockType : Format BlockType
SpellsBlockType bytes Empty = bytes ≡ 0x40 ∷ []
SpellsBlockType bytes (Value t) = SpellsValType bytes t
SpellsBlockType bytes (FuncType index) = SpellsTypeIndex bytes index

-- a memory argument: flags, which are the alignment's exponent and 64 where a memory is named; the memory, 0 where none
-- is named; the offset
pub record SpellsMemArg (bytes : List ℕ) (m : MemArg) : Type 0 where
  pub flags : List ℕ
  pub memory : List ℕ
  pub offset : List ℕ
  pub named : Option ℕ
  pub cut : bytes ≡ flags ++ (memory ++ offset)
  pub aligned : m.align < 64
  pub has_flags : SpellsNumber 32 flags (m.align + (if is_some named then 64 else 0))
  pub has_memory : SpellsOptional (SpellsNumber 32) memory named
  pub memory_is : m.memory ≡ unwrap_or named 0
  pub has_offset : SpellsNumber 64 offset m.offset

-- the type of a `ref.null`: a reference type with null, without the byte that begins one (5.4.2, and the proposal of
-- typed function references)
abbrev pub SpellsRefType : Format ValType
SpellsRefType bytes FuncRef = bytes ≡ 0x70 ∷ []
SpellsRefType bytes ExternRef = bytes ≡ 0x6f ∷ []
SpellsRefType bytes (TypeRef nullable index) = (nullable ≡ true) × SpellsTypeIndex bytes index
SpellsRefType bytes _ = ⊥

abbrev pub SpellsByte : Format ℕ
SpellsByte bytes b = bytes ≡ b ∷ []

abbrev pub SpellsBytes : ℕ → Format (List ℕ)
SpellsBytes n bytes xs = (bytes ≡ xs) × (length xs ≡ n)

-- a thing, spelled as the thing that it is made of
abbrev pub SpellsAs : {A B : Type 0} → Format A → (A → B) → Format B
SpellsAs {A} Spells made bytes y = (x : A) × Spells bytes x × (y ≡ made x)

abbrev pub index_of : IndexKind → ℕ → Index
index_of kind number = record { kind = kind; number = number }

-- immediates by their shape
abbrev pub SpellsImmediates : Form → Format ImmediatesValue
SpellsImmediates form_none = λ bytes v. (bytes ≡ []) × (v ≡ WithNone)
SpellsImmediates form_block = SpellsAs SpellsBlockType WithBlock
SpellsImmediates (form_index kind) = SpellsAs (SpellsNumber 32) (λ n. WithIndex (index_of kind n))
SpellsImmediates (form_indices first second) = Joined (SpellsNumber 32) (λ n. SpellsAs (SpellsNumber 32) (λ m. WithIndices (index_of first n) (index_of second m)))
SpellsImmediates form_labels = Joined (SpellsVector (SpellsNumber 32)) (λ labels. SpellsAs (SpellsNumber 32) (WithLabels labels))
SpellsImmediates form_val_types = SpellsAs (SpellsVector SpellsValType) WithValTypes
SpellsImmediates form_ref_type = SpellsAs SpellsRefType WithRefType
SpellsImmediates form_mem_arg = SpellsAs SpellsMemArg WithMemArg
SpellsImmediates form_mem_arg_lane = Joined SpellsMemArg (λ m. SpellsAs SpellsByte (WithMemArgLane m))
SpellsImmediates form_i32 = SpellsAs (SpellsSigned 32) WithI32
SpellsImmediates form_i64 = SpellsAs (SpellsSigned 64) WithI64
SpellsImmediates (form_bytes n) = SpellsAs (SpellsBytes n) WithBytes
SpellsImmediates form_lane = SpellsAs SpellsByte WithLane
SpellsImmediates form_zero = λ bytes v. (bytes ≡ 0 ∷ []) × (v ≡ WithNone)

-- an operator: its code, and immediates of the shape that the table has for it
pub record SpellsInstr (bytes : List ℕ) (i : InstrValue) : Type 0 where
  pub code : List ℕ
  pub others : List ℕ
  pub form : Form
  pub cut : bytes ≡ code ++ others
  pub has_code : SpellsOpcode code i.opcode
  pub in_table : form_of i.opcode ≡ Some form
  pub has_immediates : SpellsImmediates form others i.immediates
