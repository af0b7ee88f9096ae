use Rattle.wc_read.specs.Limits.{SpellsTable}
use Rattle.wc_read.specs.Reading.Limits.{table_at}
use Rattle.wc_read.proofs.FormatLemmas.{prefix_free}
use Rattle.wc_read.proofs.LimitsLemmas.{table_meets}
use Rattle.wc_read.proofs.laws.table_type_prefix_free.Goals as goal

pub returns : goal.returns
returns c = prefix_free SpellsTable table_at table_meets
