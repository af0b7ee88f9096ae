use Rattle.wc_read.proofs.SectionsLemmas.{frames_one}
use Rattle.wc_read.proofs.laws.frames_unique.Goals as goal

pub returns : goal.returns
returns c = frames_one
