use Rattle.wc_read.specs.Producers.{SpellsField}
use Rattle.wc_read.specs.Reading.Producers.{field_at}
use Rattle.wc_read.proofs.FormatLemmas.{prefix_free}
use Rattle.wc_read.proofs.ProducersLemmas.{field_meets}
use Rattle.wc_read.proofs.laws.producers_field_prefix_free.Goals as goal

pub returns : goal.returns
returns c = prefix_free SpellsField field_at field_meets
