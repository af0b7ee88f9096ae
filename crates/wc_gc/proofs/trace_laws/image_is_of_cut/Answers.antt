use Rattle.wc_gc.proofs.CutCauseLemmas.{causes_are_of_cut}
use Rattle.wc_gc.proofs.CutImageLemmas.{image_is_of_cut}
use Rattle.wc_gc.proofs.TwiceReachLemmas.{cut_is_reached}
use Rattle.wc_gc.proofs.trace_laws.image_is_of_cut.Goals as goal

pub returns-clause-image : goal.returns-clause-image
returns-clause-image c = image_is_of_cut

pub returns-clause-causes : goal.returns-clause-causes
returns-clause-causes c = causes_are_of_cut

pub returns-clause-reached : goal.returns-clause-reached
returns-clause-reached c = cut_is_reached
