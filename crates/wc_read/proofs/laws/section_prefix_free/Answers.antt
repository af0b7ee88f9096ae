use Rattle.wc_read.specs.Sections.{SpellsSection}
use Rattle.wc_read.specs.Reading.Framing.{section_at}
use Rattle.wc_read.proofs.MeetsLemmas.{one_spelling}
use Rattle.wc_read.proofs.SectionsLemmas.{section_meets}
use Rattle.wc_read.proofs.laws.section_prefix_free.Goals as goal

pub returns : goal.returns
returns c = λ a b rest others x y. one_spelling SpellsSection section_at section_meets a b x y rest others
