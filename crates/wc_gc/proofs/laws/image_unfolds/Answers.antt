use Rattle.wc_gc.proofs.ImageUnfoldingLemmas.{image_unfolds}
use Rattle.wc_gc.proofs.laws.image_unfolds.Goals as goal

pub returns : goal.returns
returns c = image_unfolds
