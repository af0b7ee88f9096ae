-- The texts of faults.
use Rattle.std.specs.Prelude.{ℕ, List, ◌++◌, codes, decimal}
use Rattle.wc_read.specs.Fault.{read_fault_text}
use Rattle.wc_texts.specs.FaultTexts.{carried_text, memory_text}
use Rattle.wc_component_file.specs.declared.fault.FileFault.{FileFault}
use Rattle.wc_component_file.specs.declared.fault.FileFault.TheVariants.{Memory, Version, Read}

abbrev pub version_text : ℕ → List ℕ
version_text version = codes "component of version " ++ (decimal version ++ codes "; version 13 is read")

abbrev pub file_fault_text : FileFault → List ℕ
file_fault_text Memory = memory_text
file_fault_text (Version version) = version_text version
file_fault_text (Read fault) = carried_text (codes "Read") (read_fault_text fault)
