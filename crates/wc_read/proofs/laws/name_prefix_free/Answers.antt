use Rattle.wc_read.specs.Formats.{SpellsName}
use Rattle.wc_read.specs.Reading.Reader.{name_at}
use Rattle.wc_read.proofs.FormatLemmas.{prefix_free}
use Rattle.wc_read.proofs.TypesLemmas.{name_meets}
use Rattle.wc_read.proofs.laws.name_prefix_free.Goals as goal

pub returns : goal.returns
returns c = prefix_free SpellsName name_at name_meets
