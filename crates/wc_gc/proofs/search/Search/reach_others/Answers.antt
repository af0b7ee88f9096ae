use Rattle.wc_read.specs.Operators.{instr_value}
use Rattle.wc_read.specs.Decoded.{decoded_module}
use Rattle.wc_gc.proofs.ReachLemmas.{finds_named}
use Rattle.wc_gc.proofs.search.Search.reach_others.Goals as goal

pub returns-then-items-clause-found : goal.returns-then-items-clause-found
returns-then-items-clause-found g c =
    finds_named g.L.LiveSet.has (decoded_module c.args.adapter.now) c.args.self.now c.reach_select.new.self c.reach_refs.new.self c.refs.result
    (instr_value c.args.instr.now) c.refs.ensures
    c.in_ok-types.ensures.found c.in_ok-items.ensures.found

pub returns-else-items-clause-found : goal.returns-else-items-clause-found
returns-else-items-clause-found g c =
    finds_named g.L.LiveSet.has (decoded_module c.args.adapter.now) c.args.self.now c.reach_select.new.self c.reach_refs.new.self c.refs.result
    (instr_value c.args.instr.now) c.refs.ensures
    c.in_ok-types.ensures.found c.in_ok-items.ensures.found
