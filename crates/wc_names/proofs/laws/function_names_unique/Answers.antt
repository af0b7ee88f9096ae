use Rattle.wc_names.proofs.MeaningLemmas.{function_unique}
use Rattle.wc_names.proofs.laws.function_names_unique.Goals as goal

pub returns : goal.returns
returns c = function_unique
