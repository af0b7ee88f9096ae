-- The fault for the fault of a call inside; and the texts and the numbers of faults.
use Rattle.wc_read.specs.declared.fault.ReadFault.{ReadFault}
use Rattle.wc_read.specs.declared.fault.ReadFault.TheVariants.{Memory as read_memory}
use Rattle.wc_write.specs.declared.fault.WriteFault.{WriteFault}
use Rattle.wc_write.specs.declared.fault.WriteFault.TheVariants.{Memory as write_memory, TooLarge as write_large}
use Rattle.wc_dedupe.specs.declared.fault.DedupeFault.{DedupeFault}
use Rattle.wc_dedupe.specs.declared.fault.DedupeFault.TheVariants.{Memory, Read, TooLarge}
use Rattle.std.specs.Prelude.{ℕ, List, codes}
use Rattle.wc_read.specs.Fault.{read_fault_number, read_fault_text}
use Rattle.wc_texts.specs.FaultNumbers.{carrying}
use Rattle.wc_texts.specs.FaultTexts.{carried_text, memory_text}

abbrev pub of_read : ReadFault → DedupeFault
of_read read_memory = Memory
of_read f = Read f

abbrev pub of_write : WriteFault → DedupeFault
of_write write_memory = Memory
of_write write_large = TooLarge

-- the text of a fault
abbrev pub dedupe_fault_text : DedupeFault → List ℕ
dedupe_fault_text Memory = memory_text
dedupe_fault_text (Read f) = carried_text (codes "Read") (read_fault_text f)
dedupe_fault_text TooLarge = codes "TooLarge"

-- the number of a fault, its position in the enum; where it carries another fault, that and 256 times the number of the other
abbrev pub dedupe_fault_number : DedupeFault → ℕ
dedupe_fault_number Memory = 0
dedupe_fault_number (Read f) = carrying 1 (read_fault_number f)
dedupe_fault_number TooLarge = 2
