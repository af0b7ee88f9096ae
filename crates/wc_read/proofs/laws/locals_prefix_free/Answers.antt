use Rattle.wc_read.specs.Bodies.{SpellsLocals}
use Rattle.wc_read.specs.Reading.Bodies.{locals_at}
use Rattle.wc_read.proofs.FormatLemmas.{prefix_free}
use Rattle.wc_read.proofs.BodiesLemmas.{locals_meet}
use Rattle.wc_read.proofs.laws.locals_prefix_free.Goals as goal

pub returns : goal.returns
returns c = prefix_free SpellsLocals locals_at locals_meet
