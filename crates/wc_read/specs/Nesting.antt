-- The nesting of a body's blocks (WebAssembly core specification, 5.4.1 "Control Instructions" and 5.4.9 "Expressions").
use Rattle.std.specs.Prelude.{◌≡◌, ℕ, List, [], ◌∷◌, ◌++◌, map, ◌||◌, ◌==◌, if◌then◌else◌}
use Rattle.wc_read.specs.Operators.{end_code, InstrValue}
use Rattle.wc_read.specs.declared.operators.Opcode.{Opcode}
use Rattle.wc_read.specs.declared.operators.Opcode.TheVariants.{Byte, Misc, Vector, Atomic}
use Rattle.wc_read.specs.declared.nesting.Token.{Token}
use Rattle.wc_read.specs.declared.nesting.Token.TheVariants.{Plain, Block, If, Else, End}

-- what an operator is to the nesting of blocks

abbrev pub byte_token : ℕ → Token
byte_token b =
    -- block, loop
    if b == 0x02 || b == 0x03 then Block
    -- if
    else if b == 0x04 then If
    -- else
    else if b == 0x05 then Else
    else if b == end_code then End else Plain

abbrev pub token_of : Opcode → Token
token_of (Byte b) = byte_token b
token_of (Misc n) = Plain
token_of (Vector n) = Plain
token_of (Atomic n) = Plain

abbrev pub instr_token : InstrValue → Token
instr_token i = token_of i.opcode

abbrev pub tokens : List InstrValue → List Token
tokens is = map instr_token is

-- a run of operators in which blocks nest: a block holds a run, and an `if` holds one or, around an `else`, two
pub data IsRun : List Token → Type 0 where
  empty_run : IsRun []
  plain_run : {run : List Token} → IsRun run → IsRun (Plain ∷ run)
  block_run : {inner run : List Token} → IsRun inner → IsRun run → IsRun (Block ∷ (inner ++ (End ∷ run)))
  if_run : {inner run : List Token} → IsRun inner → IsRun run → IsRun (If ∷ (inner ++ (End ∷ run)))
  if_else_run : {inner other run : List Token} → IsRun inner → IsRun other → IsRun run → IsRun (If ∷ (inner ++ (Else ∷ (other ++ (End ∷ run)))))

-- a body's operators: a run, and the end as the last of them
abbrev pub IsExpression : List Token → Type 0
IsExpression ts = (run : List Token) × (ts ≡ run ++ (End ∷ [])) × IsRun run
