-- Initialisers (5.4.9).
use Rattle.std.specs.Prelude.{Bool, false, ◌==◌, ◌||◌, ℕ, zero, suc, List, [], ◌∷◌, if◌then◌else◌, Some, None, length, ◌-◌, take}
use Rattle.wc_read.specs.Operators.{end_code, InstrValue}
use Rattle.wc_read.specs.Inits.{is_constant}
use Rattle.wc_read.specs.Options.{◌>>=◌}
use Rattle.wc_read.specs.Reading.Reader.{Read, where_at}
use Rattle.wc_read.specs.Reading.Instructions.{instr_at}
use Rattle.wc_read.specs.declared.operators.Opcode.{Opcode}
use Rattle.wc_read.specs.declared.operators.Opcode.TheVariants.{Byte, Misc, Vector, Atomic}

abbrev pub is_end : Opcode → Bool
is_end (Byte b) = b == end_code
is_end (Misc n) = false
is_end (Vector n) = false
is_end (Atomic n) = false

abbrev pub is_init_operator : InstrValue → Bool
is_init_operator i = is_end i.opcode || is_constant i.opcode

unfoldable pub init_instr_at : Read InstrValue
init_instr_at bytes = where_at is_init_operator instr_at bytes

-- items to the first that passes a test, in so many steps at most
unfoldable pub until_at : {A : Type 0} → (A → Bool) → Read A → ℕ → Read (List A)
until_at last read zero bytes = None
until_at last read (suc steps) bytes = do
  first ← read bytes
  if last first.0 then Some (first.0 ∷ [], first.1) else (until_at last read steps first.1 >>= λ others. Some (first.0 ∷ others.0, others.1))

abbrev pub ends : InstrValue → Bool
ends i = is_end i.opcode

-- an operator, as whether it is the end
unfoldable pub init_end_at : Read Bool
init_end_at bytes = init_instr_at bytes >>= λ i. Some (ends i.0, i.1)

-- there are no more items than bytes
unfoldable pub init_at : Read (List InstrValue)
init_at bytes = until_at ends init_instr_at (length bytes) bytes

-- the bytes before the rest
abbrev pub bytes_before : List ℕ → List ℕ → List ℕ
bytes_before bytes rest = take (length bytes - length rest) bytes

-- an initialiser as its bytes
unfoldable pub init_bytes_at : Read (List ℕ)
init_bytes_at bytes = init_at bytes >>= λ is. Some (bytes_before bytes is.1, is.1)
