use Rattle.std.proofs.Common.{map, subst}
use Rattle.std.specs.List.{All}
use Rattle.std.proofs.lemmas.List.{take_all}
use Rattle.wc_resolve.specs.Explain.{DoesInterfaceFollow}
use Rattle.wc_resolve.specs.ResolveParts.{parts_view}
use Rattle.wc_resolve.specs.Views.{interface_view}
use Rattle.wc_resolve.proofs.ExplainLemmas.{breach_found}
use Rattle.wc_resolve.proofs.validate.first.first_interface.Goals as goal

pub returns-then-not-interface_follows : goal.returns-then-not-interface_follows
returns-then-not-interface_follows c =
    breach_found interface_view (DoesInterfaceFollow (parts_view c.args.parts.now) c.args.fault) c.args.interfaces.now c.loop-index.index c.index-interfaces-index.result
    c.interface_follows.result c.loop-index-test.true c.index-interfaces-index.is c.interface_follows.ensures c.if-not-interface_follows.true c.loop-index.invariant

pub returns : goal.returns
returns c =
    subst (λ z. All (DoesInterfaceFollow (parts_view c.args.parts.now) c.args.fault) (map interface_view z)) (take_all _ _ c.loop-index-test.false) c.loop-index.invariant
