use Rattle.wc_read.specs.Types.{SpellsGlobal}
use Rattle.wc_read.specs.Reading.Types.{global_at}
use Rattle.wc_read.proofs.FormatLemmas.{prefix_free}
use Rattle.wc_read.proofs.TypesLemmas.{global_meets}
use Rattle.wc_read.proofs.laws.global_type_prefix_free.Goals as goal

pub returns : goal.returns
returns c = prefix_free SpellsGlobal global_at global_meets
