-- The fault for the fault of a call inside, and the texts of faults.
use Rattle.std.specs.Prelude.{ℕ, List, Option, None, codes}
use Rattle.wc_gc.specs.declared.trim_place.TrimPlace.{TrimPlace}
use Rattle.wc_read.specs.declared.fault.ReadFault.{ReadFault}
use Rattle.wc_read.specs.declared.fault.ReadFault.TheVariants.{Memory as read_memory}
use Rattle.wc_dedupe.specs.declared.fault.DedupeFault.{DedupeFault}
use Rattle.wc_dedupe.specs.declared.fault.DedupeFault.TheVariants.{Memory as dedupe_memory}
use Rattle.wc_gc.specs.declared.fault.GcFault.{GcFault}
use Rattle.wc_gc.specs.declared.fault.GcFault.TheVariants.{Memory as gc_memory}
use Rattle.wctrim_command.specs.declared.fault.ToolFault.{ToolFault}
use Rattle.wctrim_command.specs.declared.fault.ToolFault.TheVariants.{Memory, Dedupe, Trim, Read, Output}
use Rattle.wc_dedupe.specs.Fault.{dedupe_fault_text}
use Rattle.wc_gc.specs.Fault.{gc_fault_text}
use Rattle.wc_read.specs.Fault.{read_fault_text}
use Rattle.wc_texts.specs.FaultTexts.{carried_text, memory_text}

abbrev pub of_dedupe : DedupeFault → ToolFault
of_dedupe dedupe_memory = Memory
of_dedupe f = Dedupe f

abbrev pub of_trim : GcFault → ToolFault
of_trim gc_memory = Memory
of_trim f = Trim f

abbrev pub of_read : ReadFault → ToolFault
of_read read_memory = Memory
of_read f = Read f

-- a place is kept with a fault other than that of memory
abbrev pub kept_place : ToolFault → Option TrimPlace → Option TrimPlace
kept_place Memory place = None
kept_place f place = place

-- the text of a fault: its name; where it carries another fault, its name, `: `, and the text of that
abbrev pub command_fault_text : ToolFault → List ℕ
command_fault_text Memory = memory_text
command_fault_text (Dedupe f) = carried_text (codes "Dedupe") (dedupe_fault_text f)
command_fault_text (Trim f) = carried_text (codes "Trim") (gc_fault_text f)
command_fault_text (Read f) = carried_text (codes "Read") (read_fault_text f)
command_fault_text Output = codes "Output"
