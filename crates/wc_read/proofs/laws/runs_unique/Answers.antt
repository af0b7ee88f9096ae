use Rattle.wc_read.specs.Operators.{SpellsInstr}
use Rattle.wc_read.specs.Reading.Instructions.{instr_at}
use Rattle.wc_read.specs.Sections.{SpellsSection}
use Rattle.wc_read.specs.Reading.Framing.{section_at}
use Rattle.wc_read.proofs.OperatorsLemmas.{instr_meets, instr_some}
use Rattle.wc_read.proofs.SectionsLemmas.{section_meets, section_some}
use Rattle.wc_read.proofs.ToEndLemmas.{items_unique}
use Rattle.wc_read.proofs.laws.runs_unique.Goals as goal

pub returns-clause-operators : goal.returns-clause-operators
returns-clause-operators c = λ bytes xs ys. items_unique SpellsInstr instr_at instr_meets instr_some xs ys bytes

pub returns-clause-sections : goal.returns-clause-sections
returns-clause-sections c = λ bytes xs ys. items_unique SpellsSection section_at section_meets section_some xs ys bytes
