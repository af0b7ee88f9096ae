use Rattle.std.proofs.Common.{map, subst}
use Rattle.std.specs.List.{All}
use Rattle.std.proofs.lemmas.List.{take_all}
use Rattle.wc_resolve.specs.Explain.{DoesTypeFollow}
use Rattle.wc_resolve.specs.ResolveParts.{parts_view}
use Rattle.wc_resolve.specs.Views.{type_view}
use Rattle.wc_resolve.proofs.ExplainLemmas.{breach_found}
use Rattle.wc_resolve.proofs.validate.first.first_type.Goals as goal

pub returns-then-not-branch : goal.returns-then-not-branch
returns-then-not-branch c =
    breach_found type_view (DoesTypeFollow (parts_view c.args.parts.now) c.args.fault) c.args.types.now c.loop-index.index c.index-types-index.result
    c.in_ok-type_follows.field-0 c.loop-index-test.true c.index-types-index.is c.in_ok-type_follows.ensures c.if-not-branch.true c.loop-index.invariant

pub returns : goal.returns
returns c =
    subst (λ z. All (DoesTypeFollow (parts_view c.args.parts.now) c.args.fault) (map type_view z)) (take_all _ _ c.loop-index-test.false) c.loop-index.invariant
