-- Faults: what a reader says of the bytes where it answers one, and their texts and numbers.
use Rattle.std.specs.Prelude.{◌≢◌, List, ℕ, Result, IfErr, codes}
use Rattle.wc_read.specs.Formats.{Format}
use Rattle.wc_read.specs.declared.fault.ReadFault.{ReadFault}
use Rattle.wc_texts.specs.FaultTexts.{memory_text}
use Rattle.wc_read.specs.declared.fault.ReadFault.TheVariants.{Memory, NotWasm, Component, Truncated, BadNumber, BadName, SectionOrder, SectionSize, UnknownSection, BadType, BadLimits, BadIndex, DuplicateExport, BadInitialiser, CountMismatch, UnknownOperator, BadNesting, BadStart, TooLarge}

-- a fault comes only where P is so, unless memory ran out
abbrev pub IfRefused : {X : Type 0} → Result X ReadFault → Type 0 → Type 0
IfRefused result P = IfErr result (λ f. f ≢ Memory → P)

-- the bytes are no encoding of any value
abbrev pub SpellsNothing : {A : Type 0} → Format A → List ℕ → Type 0
SpellsNothing {A} Spells bytes = (v : A) → ¬ (Spells bytes v)

-- the text of a fault
abbrev pub read_fault_text : ReadFault → List ℕ
read_fault_text Memory = memory_text
read_fault_text NotWasm = codes "NotWasm"
read_fault_text Component = codes "Component"
read_fault_text Truncated = codes "Truncated"
read_fault_text BadNumber = codes "BadNumber"
read_fault_text BadName = codes "BadName"
read_fault_text SectionOrder = codes "SectionOrder"
read_fault_text SectionSize = codes "SectionSize"
read_fault_text UnknownSection = codes "UnknownSection"
read_fault_text BadType = codes "BadType"
read_fault_text BadLimits = codes "BadLimits"
read_fault_text BadIndex = codes "BadIndex"
read_fault_text DuplicateExport = codes "DuplicateExport"
read_fault_text BadInitialiser = codes "BadInitialiser"
read_fault_text CountMismatch = codes "CountMismatch"
read_fault_text UnknownOperator = codes "UnknownOperator"
read_fault_text BadNesting = codes "BadNesting"
read_fault_text BadStart = codes "BadStart"
read_fault_text TooLarge = codes "TooLarge"

-- the number of a fault, its position in the enum
abbrev pub read_fault_number : ReadFault → ℕ
read_fault_number Memory = 0
read_fault_number NotWasm = 1
read_fault_number Component = 2
read_fault_number Truncated = 3
read_fault_number BadNumber = 4
read_fault_number BadName = 5
read_fault_number SectionOrder = 6
read_fault_number SectionSize = 7
read_fault_number UnknownSection = 8
read_fault_number BadType = 9
read_fault_number BadLimits = 10
read_fault_number BadIndex = 11
read_fault_number DuplicateExport = 12
read_fault_number BadInitialiser = 13
read_fault_number CountMismatch = 14
read_fault_number UnknownOperator = 15
read_fault_number BadNesting = 16
read_fault_number BadStart = 17
read_fault_number TooLarge = 18
