-- The values that bytes can spell (WebAssembly core specification, 5.2.4, 5.3, 5.4, 5.5.5 and 5.5.13).
use Rattle.std.specs.Prelude.{◌≡◌, ℕ, ℤ, ◌^◌, ◌<◌, List, length, All, Bool, true, Option, Some, IfSome, IsUtf8}
use Rattle.wc_read.specs.Types.{FuncTypeValue, IsReference}
use Rattle.wc_read.specs.Limits.{bound_bits, AreOrdered, IsMemory}
use Rattle.wc_read.specs.Imports.{ImportValue}
use Rattle.wc_read.specs.Signed.{FitsBits}
use Rattle.wc_read.specs.Operators.{form_of, index_of, ImmediatesValue, WithNone, WithBlock, WithIndex, WithIndices, WithLabels, WithValTypes, WithRefType, WithMemArg, WithMemArgLane, WithI32, WithI64, WithBytes, WithLane, InstrValue}
use Rattle.wc_read.specs.Nesting.{tokens, IsExpression}
use Rattle.wc_read.specs.Bodies.{BodyValue, local_count}
use Rattle.wc_read.specs.declared.types.ValType.{ValType}
use Rattle.wc_read.specs.declared.types.ValType.TheVariants.{FuncRef, ExternRef, TypeRef}
use Rattle.wc_read.specs.declared.operators.BlockType.{BlockType}
use Rattle.wc_read.specs.declared.operators.BlockType.TheVariants.{Empty, Value, FuncType}
use Rattle.wc_read.specs.declared.operators.MemArg.{MemArg}
use Rattle.wc_read.specs.declared.operators.Form.{Form}
use Rattle.wc_read.specs.declared.operators.Form.TheVariants.{None as form_none, Block as form_block, Index as form_index, Indices as form_indices, Labels as form_labels, ValTypes as form_val_types, RefType as form_ref_type, MemArg as form_mem_arg, MemArgLane as form_mem_arg_lane, I32 as form_i32, I64 as form_i64, Bytes as form_bytes, Lane as form_lane, Zero as form_zero}
use Rattle.wc_read.specs.declared.types.TableType.{TableType}
use Rattle.wc_read.specs.declared.types.ImportType.{ImportType}
use Rattle.wc_read.specs.declared.types.ImportType.TheVariants.{Func, Table, Memory, Global}
use Rattle.wc_write.specs.Text.{FitsSize}

-- a number of 32 bits
abbrev pub IsU32 : ℕ → Type 0
IsU32 n = n < 2 ^ 32

-- a name: text in UTF-8 whose length has 32 bits
pub record IsName (name : List ℕ) : Type 0 where
  pub is_text : IsUtf8 name
  pub short : FitsSize name

-- a minimum and a maximum of 32 bits, or of 64 where the limits are 64-bit
pub record AreBounds (is_64 : Bool) (initial : ℕ) (maximum : Option ℕ) : Type 0 where
  pub initial_fits : initial < 2 ^ bound_bits is_64
  pub maximum_fits : IfSome maximum (λ limit. limit < 2 ^ bound_bits is_64)

-- a value type: the index of a type has 32 bits
abbrev pub IsValType : ValType → Type 0
IsValType (TypeRef nullable index) = IsU32 index
IsValType t = Unit {0}

-- a function type: indices in its value types have 32 bits
abbrev pub IsFuncType : FuncTypeValue → Type 0
IsFuncType f = All IsValType f.params × All IsValType f.results

-- the type of a null: one of references with null
abbrev pub IsNullType : ValType → Type 0
IsNullType FuncRef = Unit {0}
IsNullType ExternRef = Unit {0}
IsNullType (TypeRef nullable index) = (nullable ≡ true) × IsU32 index
IsNullType t = ⊥

-- a table type: its elements are references, and its maximum is not below its minimum
pub record IsTable (t : TableType) : Type 0 where
  pub element_fits : IsValType t.element_type
  pub element_is_reference : IsReference t.element_type
  pub bounds : AreBounds t.table64 t.initial t.maximum
  pub ordered : AreOrdered t.initial t.maximum

-- the type of an import: an index of 32 bits, or a type that is well-formed
abbrev pub IsImportType : ImportType → Type 0
IsImportType (Func index) = IsU32 index
IsImportType (Table t) = IsTable t
IsImportType (Memory m) = IsMemory m × AreBounds m.memory64 m.initial m.maximum
IsImportType (Global g) = IsValType g.content_type

-- an import: its module, its name, and its type
pub record IsImport (i : ImportValue) : Type 0 where
  pub has_module : IsName i.module_name
  pub has_name : IsName i.name
  pub has_type : IsImportType i.ty

-- numbers that are bytes
abbrev pub AreBytes : List ℕ → Type 0
AreBytes bytes = All (λ b. b < 256) bytes

-- a block's type: indices have 32 bits
abbrev pub IsBlockType : BlockType → Type 0
IsBlockType Empty = Unit {0}
IsBlockType (Value t) = IsValType t
IsBlockType (FuncType index) = IsU32 index

-- a memory argument: the alignment's exponent has six bits
pub record IsMemArg (m : MemArg) : Type 0 where
  pub aligned : m.align < 64
  pub memory_fits : IsU32 m.memory
  pub offset_fits : m.offset < 2 ^ 64

-- immediates of a shape: indices have 32 bits, constants the bits of their types, and bytes are bytes
abbrev pub HasForm : Form → ImmediatesValue → Type 0
HasForm form_none v = v ≡ WithNone
HasForm form_block v = (t : BlockType) × (v ≡ WithBlock t) × IsBlockType t
HasForm (form_index kind) v = (n : ℕ) × (v ≡ WithIndex (index_of kind n)) × IsU32 n
HasForm (form_indices first second) v =
    (n m : ℕ) × (v ≡ WithIndices (index_of first n) (index_of second m)) × IsU32 n × IsU32 m
HasForm form_labels v =
    (labels : List ℕ) × (default : ℕ) × (v ≡ WithLabels labels default) × All IsU32 labels × IsU32 default
HasForm form_val_types v = (ts : List ValType) × (v ≡ WithValTypes ts) × All IsValType ts
HasForm form_ref_type v = (t : ValType) × (v ≡ WithRefType t) × IsNullType t
HasForm form_mem_arg v = (m : MemArg) × (v ≡ WithMemArg m) × IsMemArg m
HasForm form_mem_arg_lane v = (m : MemArg) × (lane : ℕ) × (v ≡ WithMemArgLane m lane) × IsMemArg m × (lane < 256)
HasForm form_i32 v = (n : ℤ) × (v ≡ WithI32 n) × FitsBits 32 n
HasForm form_i64 v = (n : ℤ) × (v ≡ WithI64 n) × FitsBits 64 n
HasForm (form_bytes count) v = (bytes : List ℕ) × (v ≡ WithBytes bytes) × (length bytes ≡ count) × AreBytes bytes
HasForm form_lane v = (lane : ℕ) × (v ≡ WithLane lane) × (lane < 256)
HasForm form_zero v = v ≡ WithNone

-- an operator: its code is in the operator table, and its immediates have the shape that the table has for it
pub record IsInstr (i : InstrValue) : Type 0 where
  pub form : Form
  pub in_table : form_of i.opcode ≡ Some form
  pub has_form : HasForm form i.immediates

-- a body: fewer than 2^32 locals, and operators in which blocks nest
pub record IsBody (b : BodyValue) : Type 0 where
  pub locals_fit_u32 : IsU32 (local_count b.locals)
  pub has_locals : All (λ l. IsValType l.ty) b.locals
  pub has_operators : All IsInstr b.operators
  pub nests : IsExpression (tokens b.operators)
