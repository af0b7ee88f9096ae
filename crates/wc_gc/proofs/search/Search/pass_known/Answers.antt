use Rattle.std.proofs.Common.{refl, [], true}
use Rattle.wc_read.specs.BodyOperators.{operators_left}
use Rattle.wc_read.specs.Decoded.{decoded_module}
use Rattle.wc_gc.proofs.BodyCutLemmas.{none_run}
use Rattle.wc_gc.proofs.ReachLemmas.{known_code}
use Rattle.wc_gc.proofs.search.Search.pass_known.Goals as goal

pub returns-then-begins_run-clause-passed : goal.returns-then-begins_run-clause-passed
returns-then-begins_run-clause-passed g c =
    let p = c.pass-cut.ensures.passed in
    (p.0, known_code g.L.LiveSet.has (decoded_module c.args.adapter.now) c.args.self.now c.has_memory.result p.0 c.has_memory.ensures p.1.1, p.2)

pub returns-then-begins_run-clause-cut : goal.returns-then-begins_run-clause-cut
returns-then-begins_run-clause-cut g c =
    let p = c.pass-cut.ensures.passed in
    (p.0, (λ _ _. (c.has_memory.result, p.1)), p.2, refl, refl)

pub returns-else-begins_run-clause-cut : goal.returns-else-begins_run-clause-cut
returns-else-begins_run-clause-cut g c = ([], (λ _ none. (true, (none, tt))), none_run (operators_left c.args.operators.now), refl, refl)
