use Rattle.wc_read.specs.Decoded.{decoded_module}
use Rattle.wc_gc.proofs.ReachLemmas.{index_refs, index_in_range}
use Rattle.wc_gc.proofs.search.Search.reach_operator.Goals as goal

pub returns-in-Index-clause-found : goal.returns-in-Index-clause-found
returns-in-Index-clause-found g c = rw (index_refs c.args.instr.now c.in-Index.index c.in-Index.is) c.reach_index.ensures.found

pub returns-in-Index-clause-in_range : goal.returns-in-Index-clause-in_range
returns-in-Index-clause-in_range g c = rw (index_in_range (decoded_module c.args.adapter.now) c.args.instr.now c.in-Index.index c.in-Index.is) c.reach_index.ensures.in_range
