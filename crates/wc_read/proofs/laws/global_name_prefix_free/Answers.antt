use Rattle.wc_read.specs.Names.{SpellsGlobalName}
use Rattle.wc_read.specs.Reading.Names.{global_name_at}
use Rattle.wc_read.proofs.FormatLemmas.{prefix_free}
use Rattle.wc_read.proofs.NamesLemmas.{global_name_meets}
use Rattle.wc_read.proofs.laws.global_name_prefix_free.Goals as goal

pub returns : goal.returns
returns c = prefix_free SpellsGlobalName global_name_at global_name_meets
