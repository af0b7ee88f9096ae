-- Bodies of functions (WebAssembly core specification, 5.5.13 "Code Section").
use Rattle.std.specs.Prelude.{◌≡◌, ℕ, ◌+◌, ◌^◌, ◌<◌, List, [], ◌∷◌, ◌++◌, map}
use Rattle.wc_read.specs.Formats.{Format, SpellsNumber, SpellsItems, SpellsVector}
use Rattle.wc_read.specs.Types.{SpellsValType}
use Rattle.wc_read.specs.Operators.{InstrValue, instr_value, SpellsInstr}
use Rattle.wc_read.specs.Nesting.{tokens, IsExpression}
use Rattle.wc_read.specs.declared.bodies.Locals.{Locals}
use Rattle.wc_read.specs.declared.types.ValType.{ValType}
use Rattle.wc_read.specs.declared.bodies.Body.{Body}

-- a body: runs of locals, and operators
pub record BodyValue : Type 0 where
  pub locals : List Locals
  pub operators : List InstrValue

abbrev pub body_value : Body → BodyValue
body_value b = record { locals = b.locals.items; operators = map instr_value b.operators.items }

-- a run of locals: how many, and their type
abbrev pub SpellsLocals : Format Locals
SpellsLocals bytes l = (count ty : List ℕ) × (bytes ≡ count ++ ty) × SpellsNumber 32 count l.count × SpellsValType ty l.ty

-- the types of runs of locals
abbrev pub local_types : List Locals → List ValType
local_types ls = map (λ l. l.ty) ls

abbrev pub local_count : List Locals → ℕ
local_count [] = 0
local_count (l ∷ ls) = l.count + local_count ls

-- a body: its locals, less than 2 ^ 32, and operators to the end of the bytes, in which blocks nest
pub record SpellsBody (bytes : List ℕ) (b : BodyValue) : Type 0 where
  pub runs : List ℕ
  pub code : List ℕ
  pub cut : bytes ≡ runs ++ code
  pub has_locals : SpellsVector SpellsLocals runs b.locals
  pub locals_fit_u32 : local_count b.locals < 2 ^ 32
  pub has_operators : SpellsItems SpellsInstr code b.operators
  pub nests : IsExpression (tokens b.operators)
