use Rattle.wc_read.specs.Types.{SpellsValType}
use Rattle.wc_read.specs.Reading.Types.{val_type_at}
use Rattle.wc_read.proofs.FormatLemmas.{prefix_free}
use Rattle.wc_read.proofs.TypesLemmas.{val_type_meets}
use Rattle.wc_read.proofs.laws.value_type_prefix_free.Goals as goal

pub returns : goal.returns
returns c = prefix_free SpellsValType val_type_at val_type_meets
