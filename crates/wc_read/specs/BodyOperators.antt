-- The code that bytes spell, as a function of the bytes: laws say that it is the one that they spell.
use Rattle.std.specs.Prelude.{◌≡◌, ◌≢◌, true, ℕ, zero, suc, ◌^◌, List, [], ◌∷◌, length, nat_lt, Bool, false, if◌then◌else◌, Option, Some, None, MatchOption}
use Rattle.std.specs.Option.{option_map, option_map_or}
use Rattle.wc_read.specs.Blocks.{open_blocks}
use Rattle.wc_read.specs.Options.{◌>>=◌}
use Rattle.wc_read.specs.Fault.{SpellsNothing}
use Rattle.wc_read.specs.Operators.{InstrValue}
use Rattle.wc_read.specs.Nesting.{tokens}
use Rattle.wc_read.specs.Types.{type_indices}
use Rattle.wc_read.specs.Bodies.{BodyValue, local_count, local_types}
use Rattle.wc_read.specs.Reading.Reader.{Read, vector_at, read_all}
use Rattle.wc_read.specs.Reading.Instructions.{instr_at}
use Rattle.wc_read.specs.Reading.Nesting.{steps, is_closed}
use Rattle.wc_read.specs.Reading.Bodies.{locals_at}
use Rattle.wc_read.specs.Text.{vector_text, locals_text}
use Rattle.wc_read.specs.Reading.Inits.{init_at}
use Rattle.wc_read.specs.declared.bodies.Locals.{Locals}
use Rattle.wc_read.specs.declared.body_operators.Operators.{Operators}

-- items up to the end of the bytes, so many at most
unfoldable pub to_end_at : {A : Type 0} → Read A → ℕ → List ℕ → Option (List A)
to_end_at read most [] = Some []
to_end_at read zero (b ∷ bytes) = None
to_end_at read (suc most) (b ∷ bytes) = read (b ∷ bytes) >>= λ x. to_end_at read most x.1 >>= λ xs. Some (x.0 ∷ xs)

-- operators that close these blocks, and no more
abbrev pub closing : List Bool → List InstrValue → Option (List InstrValue)
closing blocks is = if is_closed (steps blocks (tokens is)) then Some is else None

-- the operators to the end of the bytes, which close the blocks that are open
unfoldable pub operators_in : List Bool → List ℕ → Option (List InstrValue)
operators_in blocks bytes = to_end_at instr_at (length bytes) bytes >>= closing blocks

abbrev pub body_of : List Locals → List InstrValue → BodyValue
body_of locals operators = record { locals = locals; operators = operators }

-- a body with these locals, which are less than 2 ^ 32
abbrev pub body_after : List Locals → List ℕ → Option BodyValue
body_after locals bytes =
    if nat_lt (local_count locals) (2 ^ 32) then option_map (body_of locals) (operators_in (false ∷ []) bytes) else None

-- the body that bytes spell, where they spell one
unfoldable pub body_in : List ℕ → Option BodyValue
body_in bytes = vector_at locals_at bytes >>= λ locals. body_after locals.0 locals.1

-- the initialiser that bytes spell, where they spell one
unfoldable pub init_in : List ℕ → Option (List InstrValue)
init_in bytes = read_all init_at bytes

-- a value is one that bytes spell; where there is none, they spell nothing
abbrev pub IsSpelled : {A : Type 0} → (List ℕ → A → Type 0) → List ℕ → Option A → Type 0
IsSpelled Spells bytes found = MatchOption found (SpellsNothing Spells bytes) (Spells bytes)

-- the operators of a body that are left, where what is left is the end of a body
unfoldable pub operators_left : Operators → Option (List InstrValue)
operators_left o = operators_in (open_blocks o.blocks) o.reader.rest.now

-- the locals that bytes begin with, where they do
unfoldable pub locals_in : List ℕ → List Locals
locals_in bytes = option_map_or (λ locals. locals.0) (vector_at locals_at bytes) []

-- the locals of a body, which are read before its operators
abbrev pub locals_read : Operators → List Locals
locals_read o = locals_in o.locals.now

-- the bytes of a body's locals
abbrev pub locals_bytes : Operators → List ℕ
locals_bytes o = o.locals.now

-- how many bytes are left
unfoldable pub bytes_left : Operators → ℕ
bytes_left o = length o.reader.rest.now

abbrev pub body_operators : Option BodyValue → Option (List InstrValue)
body_operators b = option_map (λ b. b.operators) b

-- an operator and those after it; without one, that there are none
abbrev pub next_and_left : Option InstrValue → Option (List InstrValue) → Option (List InstrValue)
next_and_left None left = Some []
next_and_left (Some i) left = option_map (λ is. i ∷ is) left

-- the bytes of a body's locals are kept, and where it is said so they are the text of these, and no type names another
pub record KeepsLocals (o : Operators) : Type 0 where
  pub read : vector_at locals_at o.locals.now ≡ Some (locals_read o, [])
  pub text : o.is_shortest ≡ true → o.locals.now ≡ vector_text locals_text (locals_read o)
  pub no_types : o.is_shortest ≡ true → type_indices (local_types (locals_read o)) ≡ []
  pub exact : o.is_shortest ≡ false → type_indices (local_types (locals_read o)) ≡ [] → o.locals.now ≢ vector_text locals_text (locals_read o)
