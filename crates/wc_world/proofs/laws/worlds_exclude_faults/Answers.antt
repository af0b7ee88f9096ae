use Rattle.wc_world.proofs.ExclusionLemmas.{worlds_exclude}
use Rattle.wc_world.proofs.laws.worlds_exclude_faults.Goals as goal

pub returns : goal.returns
returns c = worlds_exclude c.args.encoder.now c.records_unique.ensures c.records_exclude_faults.ensures c.modules_unique.ensures
