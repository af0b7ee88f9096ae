use Rattle.wc_ways.proofs.RecordLemmas.{name_found}
use Rattle.wc_ways.proofs.originals.recorded_in.Goals as goal

pub returns-in-Names : goal.returns-in-Names
returns-in-Names c = rw c.in-Names.is (name_found c.in-Names.names.entries c.args.name.now c.get.result c.get.ensures.value)
