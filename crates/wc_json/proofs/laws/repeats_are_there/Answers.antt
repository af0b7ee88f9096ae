use Rattle.wc_json.proofs.RepeatsLawLemmas.{repeats_there}
use Rattle.wc_json.proofs.laws.repeats_are_there.Goals as goal

pub returns : goal.returns
returns c = repeats_there
