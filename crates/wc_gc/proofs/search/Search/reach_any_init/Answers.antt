use Rattle.std.proofs.Common.{sym, ◌∙◌}
use Rattle.wc_read.specs.BodyOperators.{init_in}
use Rattle.wc_read.specs.Decoded.{decoded_module}
use Rattle.wc_gc.proofs.ReachLemmas.{finds_no_init}
use Rattle.wc_gc.proofs.search.Search.reach_any_init.Goals as goal

pub returns-then-branch : goal.returns-then-branch
returns-then-branch g c = rw c.new-operators.ensures at c.reach_init_operators.ensures

pub returns-else-branch : goal.returns-else-branch
returns-else-branch g c = finds_no_init g.L.LiveSet.has (decoded_module c.args.adapter.now) c.args.self.now (init_in c.args.bytes.now) (sym c.in_ok-is_init.ensures ∙ c.if-branch.false)
