-- The code that trimming adds: a realloc that grows memory, and the allocation of a stack. Indices are parameters.
use Rattle.std.specs.Prelude.{ℕ, ◌/◌, ◌^◌, ◌==◌, ℤ, pos, negsuc, List, [], ◌∷◌, ◌++◌, if◌then◌else◌, Option, Some, None}
use Rattle.wc_read.specs.Types.{FuncTypeValue}
use Rattle.wc_read.specs.Operators.{end_code, ImmediatesValue, WithNone, WithBlock, WithIndex, WithI32, InstrValue, index_of}
use Rattle.wc_read.specs.Bodies.{BodyValue}
use Rattle.wc_read.specs.declared.types.ValType.TheVariants.{I32}
use Rattle.wc_read.specs.declared.operators.Opcode.TheVariants.{Byte}
use Rattle.wc_read.specs.declared.operators.Space.{Space}
use Rattle.wc_read.specs.declared.operators.Space.TheVariants.{Funcs, Memories, Globals}
use Rattle.wc_read.specs.declared.operators.IndexKind.TheVariants.{In, Local}
use Rattle.wc_read.specs.declared.operators.BlockType.TheVariants.{Empty}

-- operators, by their codes

abbrev pub with : ℕ → ImmediatesValue → InstrValue
with code v = record { opcode = Byte code; immediates = v }

abbrev pub plain : ℕ → InstrValue
plain code = with code WithNone

-- an i32 constant
abbrev pub const : ℤ → InstrValue
const n = with 0x41 (WithI32 n)

-- an operator that names a local
abbrev pub of_local : ℕ → ℕ → InstrValue
of_local code n = with code (WithIndex (index_of Local n))

-- an operator that names an item of a space
abbrev pub of_item : ℕ → Space → ℕ → InstrValue
of_item code space n = with code (WithIndex (index_of (In space) n))

abbrev pub call : ℕ → InstrValue
call func = of_item 0x10 Funcs func

abbrev pub get_global : ℕ → InstrValue
get_global global = of_item 0x23 Globals global

abbrev pub set_global : ℕ → InstrValue
set_global global = of_item 0x24 Globals global

abbrev pub end : InstrValue
end = plain end_code

-- the growing realloc

-- a trap where the i32 on the stack is not 0: `if unreachable end`
abbrev pub trap_if : List InstrValue
trap_if = with 0x04 (WithBlock Empty) ∷ plain 0x00 ∷ end ∷ []

-- a trap unless a local is a number
abbrev pub trap_unless : ℕ → ℕ → List InstrValue
trap_unless local n = const (pos n) ∷ of_local 0x20 local ∷ plain 0x47 ∷ trap_if

-- a memory grows by a number of pages, with a trap where that is refused, which the answer -1 says; its old size is
-- kept in local 4 and left on the stack
abbrev pub growth : ℕ → ℕ → List InstrValue
growth pages memory =
    const (pos pages) ∷ of_item 0x40 Memories memory ∷ of_local 0x22 4 ∷ const (negsuc 0) ∷ plain 0x46
    ∷ (trap_if ++ (of_local 0x20 4 ∷ []))

-- a page index becomes the index of a byte: nothing, where pages have one byte
abbrev pub shifted : ℕ → List InstrValue
shifted page_size_log2 = if page_size_log2 == 0 then [] else const (pos page_size_log2) ∷ plain 0x74 ∷ []

-- a realloc that grows a memory whose pages have 2 ^ exponent bytes, and gives out only blocks of 65536 bytes. Its
-- parameters are an old pointer, an old length, an alignment and a new length; local 4 is the memory's old size
unfoldable pub growing_body : ℕ → ℕ → BodyValue
growing_body page_size_log2 memory = record {
  locals = record { count = 1; ty = I32 } ∷ [];
  operators =
      trap_unless 0 0 ++ (trap_unless 1 0 ++ (trap_unless 3 65536
      ++ (growth (65536 / 2 ^ page_size_log2) memory ++ (shifted page_size_log2 ++ (end ∷ [])))));
}

-- the allocation of a stack

-- a block of 65536 bytes is asked for, with an alignment of 8, and its end becomes the stack pointer
abbrev pub allocation : ℕ → ℕ → List InstrValue
allocation realloc stack =
    const (pos 0) ∷ const (pos 0) ∷ const (pos 8) ∷ const (pos 65536) ∷ call realloc
    ∷ const (pos 65536) ∷ plain 0x6a ∷ set_global stack ∷ []

-- where a state is 0, a block of 65536 bytes is asked for; the state becomes 1 before that and 2 after it
abbrev pub allocation_once : ℕ → ℕ → ℕ → List InstrValue
allocation_once realloc stack state =
    get_global state ∷ const (pos 0) ∷ plain 0x46 ∷ with 0x04 (WithBlock Empty)
    ∷ const (pos 1) ∷ set_global state
    ∷ (allocation realloc stack ++ (const (pos 2) ∷ set_global state ∷ end ∷ []))

abbrev pub stack_code : ℕ → ℕ → Option ℕ → List InstrValue
stack_code realloc stack None = allocation realloc stack
stack_code realloc stack (Some state) = allocation_once realloc stack state

-- the body that allocates a stack by a realloc; only once, where there is a global for its state
unfoldable pub stack_body : ℕ → ℕ → Option ℕ → BodyValue
stack_body realloc stack state = record { locals = []; operators = stack_code realloc stack state ++ (end ∷ []) }

-- the types of the functions that are added

-- a realloc: old pointer, old length, alignment and new length, to a new pointer
abbrev pub realloc_type : FuncTypeValue
realloc_type = record { params = I32 ∷ I32 ∷ I32 ∷ I32 ∷ []; results = I32 ∷ [] }

abbrev pub empty_type : FuncTypeValue
empty_type = record { params = []; results = [] }
