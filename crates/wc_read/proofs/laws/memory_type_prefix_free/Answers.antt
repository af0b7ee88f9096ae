use Rattle.wc_read.specs.Limits.{SpellsMemory}
use Rattle.wc_read.specs.Reading.Limits.{memory_at}
use Rattle.wc_read.proofs.FormatLemmas.{prefix_free}
use Rattle.wc_read.proofs.LimitsLemmas.{memory_meets}
use Rattle.wc_read.proofs.laws.memory_type_prefix_free.Goals as goal

pub returns : goal.returns
returns c = prefix_free SpellsMemory memory_at memory_meets
