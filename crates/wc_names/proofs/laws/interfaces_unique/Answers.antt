use Rattle.wc_names.proofs.MeaningLemmas.{interface_unique}
use Rattle.wc_names.proofs.laws.interfaces_unique.Goals as goal

pub returns : goal.returns
returns c = λ entries s text f g. interface_unique c.args.resolve.now c.well_formedness.ensures.distinct entries s text f g
