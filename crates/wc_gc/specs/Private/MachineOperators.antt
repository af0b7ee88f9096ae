-- The operators of the small machine, in which the code that trimming adds is written.
use Rattle.std.specs.Prelude.{ℕ, List}
use Rattle.wc_read.specs.Operators.{WithBlock, InstrValue}
use Rattle.wc_read.specs.declared.operators.Space.TheVariants.{Funcs, Memories, Globals}
use Rattle.wc_read.specs.declared.operators.BlockType.TheVariants.{Empty}
use Rattle.wc_write.specs.Operators.{instr_text}
use Rattle.wc_gc.specs.AddedCode.{plain, with, const, of_local, of_item}
use Rattle.wc_gc.specs.declared.machine_operators.MachineOperator.{MachineOperator}
use Rattle.wc_gc.specs.declared.machine_operators.MachineOperator.TheVariants.{Unreachable, If, End, Call, LocalGet, LocalTee, GlobalGet, GlobalSet, MemoryGrow, I32Const, I32Eq, I32Ne, I32Add, I32Shl}

-- an operator of the machine as one of a body (WebAssembly core specification, 5.4)
abbrev pub instr_of : MachineOperator → InstrValue
instr_of Unreachable = plain 0x00
instr_of If = with 0x04 (WithBlock Empty)
instr_of End = plain 0x0b
instr_of (Call func) = of_item 0x10 Funcs func
instr_of (LocalGet local) = of_local 0x20 local
instr_of (LocalTee local) = of_local 0x22 local
instr_of (GlobalGet global) = of_item 0x23 Globals global
instr_of (GlobalSet global) = of_item 0x24 Globals global
instr_of (MemoryGrow memory) = of_item 0x40 Memories memory
instr_of (I32Const n) = const n
instr_of I32Eq = plain 0x46
instr_of I32Ne = plain 0x47
instr_of I32Add = plain 0x6a
instr_of I32Shl = plain 0x74

-- the text of an operator of the machine
abbrev pub operator_text : MachineOperator → List ℕ
operator_text o = instr_text (instr_of o)
