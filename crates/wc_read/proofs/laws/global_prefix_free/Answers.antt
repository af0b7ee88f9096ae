use Rattle.wc_read.specs.Globals.{SpellsLocalGlobal}
use Rattle.wc_read.specs.Reading.Globals.{local_global_at}
use Rattle.wc_read.proofs.FormatLemmas.{prefix_free}
use Rattle.wc_read.proofs.GlobalsLemmas.{local_global_meets}
use Rattle.wc_read.proofs.laws.global_prefix_free.Goals as goal

pub returns : goal.returns
returns c = prefix_free SpellsLocalGlobal local_global_at local_global_meets
