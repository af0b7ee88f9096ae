-- Initialisers (WebAssembly core specification, 3.3.10 "Constant Expressions" and 5.4.9 "Expressions").
use Rattle.std.specs.Prelude.{◌≡◌, ℕ, List, [], ◌∷◌, ◌++◌, map, Bool, ◌==◌, if◌then◌else◌, Option, Some, None, is_some, IsTrue}
use Rattle.wc_read.specs.Formats.{Format, SpellsItems}
use Rattle.wc_read.specs.Operators.{end_code, is_between, InstrValue, WithNone, instr_value, SpellsInstr}
use Rattle.wc_read.specs.declared.types.ValType.TheVariants.{I32, I64, F32, F64, V128}
use Rattle.wc_read.specs.declared.operators.Opcode.{Opcode}
use Rattle.wc_read.specs.declared.operators.Opcode.TheVariants.{Byte, Misc, Vector, Atomic}
use Rattle.wc_read.specs.declared.inits.Constant.{Constant}
use Rattle.wc_read.specs.declared.inits.Constant.TheVariants.{Value, Null, Func, Global, Integer}
use Rattle.wc_read.specs.declared.inits.Init.{Init}

-- the constant operators, and what each gives

unfoldable pub constant_byte : ℕ → Option Constant
constant_byte b =
    -- i32.const, i64.const, f32.const, f64.const
    if b == 0x41 then Some (Value I32)
    else if b == 0x42 then Some (Value I64)
    else if b == 0x43 then Some (Value F32)
    else if b == 0x44 then Some (Value F64)
    -- ref.null
    else if b == 0xd0 then Some Null
    -- ref.func
    else if b == 0xd2 then Some Func
    -- global.get
    else if b == 0x23 then Some Global
    -- i32.add, i32.sub, i32.mul
    else if is_between 0x6a 0x6c b then Some (Integer I32)
    -- i64.add, i64.sub, i64.mul
    else if is_between 0x7c 0x7e b then Some (Integer I64) else None

abbrev pub constant_of : Opcode → Option Constant
constant_of (Byte b) = constant_byte b
constant_of (Misc n) = None
-- v128.const
constant_of (Vector n) = if n == 12 then Some (Value V128) else None
constant_of (Atomic n) = None

abbrev pub is_constant : Opcode → Bool
is_constant code = is_some (constant_of code)

abbrev pub IsConstant : Opcode → Type 0
IsConstant code = IsTrue (is_constant code)

-- values, and how bytes spell them

abbrev pub init_value : Init → List InstrValue
init_value i = map instr_value i.operators.items

-- `end`
abbrev pub end_value : InstrValue
end_value = record { opcode = Byte end_code; immediates = WithNone }

abbrev pub AreConstant : List InstrValue → Type 0
AreConstant [] = Unit
AreConstant (i ∷ is) = IsConstant i.opcode × AreConstant is

-- constant operators, and `end` after them
abbrev pub IsInit : List InstrValue → Type 0
IsInit is = (front : List InstrValue) × (is ≡ front ++ (end_value ∷ [])) × AreConstant front

-- an initialiser: operators to the end of the bytes
abbrev pub SpellsInit : Format (List InstrValue)
SpellsInit bytes is = SpellsItems SpellsInstr bytes is × IsInit is
