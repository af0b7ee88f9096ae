-- The texts and the numbers of faults.
use Rattle.std.specs.Prelude.{ℕ, List, codes, string_bytes}
use Rattle.wc_gc.specs.Fault.{gc_fault_number, gc_fault_text}
use Rattle.wc_validate.specs.Fault.{validate_fault_number, validate_fault_text}
use Rattle.wc_world.specs.declared.fault.WorldFault.{WorldFault}
use Rattle.wc_texts.specs.FaultNumbers.{carrying}
use Rattle.wc_texts.specs.FaultTexts.{about_text, carried_text, memory_text}
use Rattle.wc_world.specs.declared.fault.WorldFault.TheVariants.{Memory, Main, Adapter, Trim, Minimized, PageSize}

-- the text of a fault
abbrev pub world_fault_text : WorldFault → List ℕ
world_fault_text Memory = memory_text
world_fault_text (Main f) = carried_text (codes "Main") (validate_fault_text f)
world_fault_text (Adapter name f) = about_text (codes "Adapter") (string_bytes name) (validate_fault_text f)
world_fault_text (Trim name f) = about_text (codes "Trim") (string_bytes name) (gc_fault_text f)
world_fault_text (Minimized name f) = about_text (codes "Minimized") (string_bytes name) (validate_fault_text f)
world_fault_text (PageSize name own main) = codes "PageSize"

-- the number of a fault, its position in the enum; where it carries another fault, that and 256 times the number of the other
abbrev pub world_fault_number : WorldFault → ℕ
world_fault_number Memory = 0
world_fault_number (Main f) = carrying 1 (validate_fault_number f)
world_fault_number (Adapter name f) = carrying 2 (validate_fault_number f)
world_fault_number (Trim name f) = carrying 3 (gc_fault_number f)
world_fault_number (Minimized name f) = carrying 4 (validate_fault_number f)
world_fault_number (PageSize name own main) = 5
