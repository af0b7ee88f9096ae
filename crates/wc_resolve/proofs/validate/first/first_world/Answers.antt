use Rattle.std.proofs.Common.{map, subst}
use Rattle.std.specs.List.{All}
use Rattle.std.proofs.lemmas.List.{take_all}
use Rattle.wc_resolve.specs.Explain.{DoesWorldFollow}
use Rattle.wc_resolve.specs.ResolveParts.{parts_view}
use Rattle.wc_resolve.specs.Views.{world_view}
use Rattle.wc_resolve.proofs.ExplainLemmas.{breach_found}
use Rattle.wc_resolve.proofs.validate.first.first_world.Goals as goal

pub returns-then-not-world_follows : goal.returns-then-not-world_follows
returns-then-not-world_follows c =
    breach_found world_view (DoesWorldFollow (parts_view c.args.parts.now) c.args.fault) c.args.worlds.now c.loop-index.index c.index-worlds-index.result
    c.world_follows.result c.loop-index-test.true c.index-worlds-index.is c.world_follows.ensures c.if-not-world_follows.true c.loop-index.invariant

pub returns : goal.returns
returns c =
    subst (λ z. All (DoesWorldFollow (parts_view c.args.parts.now) c.args.fault) (map world_view z)) (take_all _ _ c.loop-index-test.false) c.loop-index.invariant
