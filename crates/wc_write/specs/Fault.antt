-- The texts of faults.
use Rattle.std.specs.Prelude.{ℕ, List, codes}
use Rattle.wc_write.specs.declared.fault.WriteFault.{WriteFault}
use Rattle.wc_texts.specs.FaultTexts.{memory_text}
use Rattle.wc_write.specs.declared.fault.WriteFault.TheVariants.{Memory, TooLarge}

-- the text of a fault
abbrev pub write_fault_text : WriteFault → List ℕ
write_fault_text Memory = memory_text
write_fault_text TooLarge = codes "TooLarge"
