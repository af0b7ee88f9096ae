-- The operators of an initialiser that are left, read one after another.
use Rattle.std.specs.Prelude.{◌≡◌, ℕ, List, [], length, ◌==◌, true, if◌then◌else◌, Option, Some, None}
use Rattle.wc_read.specs.Operators.{byte_form, InstrValue, WithIndex}
use Rattle.wc_read.specs.Inits.{is_constant}
use Rattle.wc_read.specs.BodyOperators.{init_in}
use Rattle.wc_read.specs.declared.init_operators.InitOperators.{InitOperators}
use Rattle.wc_read.specs.declared.init_operators.InitIndex.{InitIndex}
use Rattle.wc_read.specs.declared.operators.Opcode.TheVariants.{Byte}
use Rattle.wc_read.specs.declared.operators.Space.{Space}
use Rattle.wc_read.specs.declared.operators.IndexKind.TheVariants.{In}
use Rattle.wc_read.specs.declared.operators.Form.TheVariants.{Index as form_index}

-- no operators, where there are no bytes
abbrev pub nothing_in : List ℕ → Option (List InstrValue)
nothing_in bytes = if length bytes == 0 then Some [] else None

-- after the end none is left; else those of the initialiser that the bytes spell, where they spell one
unfoldable pub init_left : InitOperators → Option (List InstrValue)
init_left o = if o.has_ended then nothing_in o.reader.rest.now else init_in o.reader.rest.now

-- how many bytes are left
unfoldable pub init_bytes_left : InitOperators → ℕ
init_bytes_left o = length o.reader.rest.now

-- an operator of one index
abbrev pub index_instr : InitIndex → InstrValue
index_instr i = record { opcode = Byte i.code; immediates = WithIndex i.index }

-- a constant operator of this code has one index, and no other immediates
abbrev pub NamesSpace : ℕ → Space → Type 0
NamesSpace code space = (byte_form code ≡ Some (form_index (In space))) × (is_constant (Byte code) ≡ true)
