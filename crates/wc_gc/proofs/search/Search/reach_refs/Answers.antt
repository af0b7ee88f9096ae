use Rattle.std.specs.Option.{option_to_list}
use Rattle.wc_read.specs.Decoded.{decoded_module}
use Rattle.wc_gc.proofs.ReachLemmas.{finds_present}
use Rattle.wc_gc.proofs.search.Search.reach_refs.Goals as goal

pub returns-then-first-clause-found : goal.returns-then-first-clause-found
returns-then-first-clause-found g c =
    finds_present g.L.LiveSet.has (decoded_module c.args.adapter.now) c.args.self.now c.reach_named.new.self c.reach_named-2.new.self
    (option_to_list c.args.named.first) (option_to_list c.args.named.second)
    c.in_ok-first.ensures.found c.in_ok-second.ensures.found

pub returns-else-first-clause-found : goal.returns-else-first-clause-found
returns-else-first-clause-found g c =
    finds_present g.L.LiveSet.has (decoded_module c.args.adapter.now) c.args.self.now c.reach_named.new.self c.reach_named-2.new.self
    (option_to_list c.args.named.first) (option_to_list c.args.named.second)
    c.in_ok-first.ensures.found c.in_ok-second.ensures.found
