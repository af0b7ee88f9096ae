-- Faults of reading and of writing as faults of trimming; and the texts and the numbers of faults.
use Rattle.wc_read.specs.declared.fault.ReadFault.{ReadFault}
use Rattle.wc_read.specs.declared.fault.ReadFault.TheVariants.{Memory as read_memory}
use Rattle.wc_gc.specs.declared.fault.GcFault.{GcFault}
use Rattle.wc_write.specs.declared.fault.WriteFault.{WriteFault}
use Rattle.wc_write.specs.declared.fault.WriteFault.TheVariants.{Memory as write_memory, TooLarge as write_too_large}
use Rattle.std.specs.Prelude.{ℕ, List, codes, string_bytes}
use Rattle.wc_read.specs.Fault.{read_fault_number, read_fault_text}
use Rattle.wc_texts.specs.FaultNumbers.{carrying}
use Rattle.wc_texts.specs.FaultTexts.{carried_text, memory_text, quoted_text}
use Rattle.wc_gc.specs.declared.fault.GcFault.TheVariants.{Memory, Read, MissingExport, UnsupportedSection, LiveBody, SeveralNamed, LiveTable, SeveralMemories, LocalMemory, ReallocType, ReallocMemory, TooLarge}

abbrev pub of_read : ReadFault → GcFault
of_read read_memory = Memory
of_read f = Read f

abbrev pub of_write : WriteFault → GcFault
of_write write_memory = Memory
of_write write_too_large = TooLarge

-- the text of a fault
abbrev pub gc_fault_text : GcFault → List ℕ
gc_fault_text Memory = memory_text
gc_fault_text (Read f) = carried_text (codes "Read") (read_fault_text f)
gc_fault_text (MissingExport name) = quoted_text (codes "adapter module does not have export") (string_bytes name)
gc_fault_text UnsupportedSection = codes "UnsupportedSection"
gc_fault_text LiveBody = codes "LiveBody"
gc_fault_text SeveralNamed = codes "SeveralNamed"
gc_fault_text LiveTable = codes "LiveTable"
gc_fault_text SeveralMemories = codes "SeveralMemories"
gc_fault_text LocalMemory = codes "LocalMemory"
gc_fault_text ReallocType = codes "ReallocType"
gc_fault_text ReallocMemory = codes "ReallocMemory"
gc_fault_text TooLarge = codes "TooLarge"

-- the number of a fault, its position in the enum; where it carries another fault, that and 256 times the number of the other
abbrev pub gc_fault_number : GcFault → ℕ
gc_fault_number Memory = 0
gc_fault_number (Read f) = carrying 1 (read_fault_number f)
gc_fault_number (MissingExport name) = 2
gc_fault_number UnsupportedSection = 3
gc_fault_number LiveBody = 4
gc_fault_number SeveralNamed = 5
gc_fault_number LiveTable = 6
gc_fault_number SeveralMemories = 7
gc_fault_number LocalMemory = 8
gc_fault_number ReallocType = 9
gc_fault_number ReallocMemory = 10
gc_fault_number TooLarge = 11
