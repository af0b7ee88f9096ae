use Rattle.wc_plan.proofs.UniqueWorldLemmas.{worlds_are_same}
use Rattle.wc_plan.proofs.laws.worlds_unique.Goals as goal

pub returns : goal.returns
returns c = worlds_are_same c.args.encoder.now c.records_unique.ensures c.modules_unique.ensures
