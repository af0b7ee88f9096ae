-- A reader of operators of some shapes (5.4).
use Rattle.std.specs.Prelude.{ℕ, List, [], Option, ◌≡◌, ◌≢◌, Some, None, Result, Ok, Err}
use Rattle.wc_read.specs.Operators.{instr_value}
use Rattle.wc_read.specs.Reading.Instructions.{instr_at}
use Rattle.wc_read.specs.declared.fault.ReadFault.{ReadFault}
use Rattle.wc_read.specs.declared.fault.ReadFault.TheVariants.{Memory as memory_fault, Component as component_fault}
use Rattle.wc_read.specs.declared.operators.Instr.{Instr}

-- what is returned is the first operator, or nothing was read; it refuses no end, and takes no memory
abbrev pub GivesFrequent : Result (Option Instr) ReadFault → List ℕ → List ℕ → Type 0
GivesFrequent (Ok (Some i)) old new = instr_at old ≡ Some (instr_value i, new)
GivesFrequent (Ok None) old new = new ≡ old
GivesFrequent (Err e) old new = (old ≢ []) × (instr_at old ≡ None) × (e ≢ memory_fault) × (e ≢ component_fault)
