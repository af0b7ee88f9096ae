use Rattle.std.proofs.Common.{◌↔◌, IsTrue, map, subst}
use Rattle.std.specs.List.{All}
use Rattle.std.proofs.lemmas.List.{take_all}
use Rattle.wc_resolve.specs.Explain.{DoesPackageFollow}
use Rattle.wc_resolve.specs.ResolveParts.{parts_view}
use Rattle.wc_resolve.specs.Views.{package_view}
use Rattle.wc_resolve.proofs.ExplainLemmas.{breach_found}
use Rattle.wc_resolve.proofs.ViewedLemmas.{all_more}
use Rattle.wc_resolve.proofs.validate.first.first_package.Goals as goal

pub returns-then-not-package_follows : goal.returns-then-not-package_follows
returns-then-not-package_follows c =
    breach_found package_view (DoesPackageFollow (parts_view c.args.parts.now) c.args.fault) c.args.packages.now c.loop-index.index c.index-packages-index.result
    c.package_follows.result c.loop-index-test.true c.index-packages-index.is c.package_follows.ensures c.if-not-package_follows.true c.loop-index.invariant

pub returns : goal.returns
returns c =
    subst (λ z. All (DoesPackageFollow (parts_view c.args.parts.now) c.args.fault) (map package_view z)) (take_all _ _ c.loop-index-test.false) c.loop-index.invariant

pub loop-index-preserved : goal.loop-index-preserved
loop-index-preserved c =
    all_more package_view (DoesPackageFollow (parts_view c.args.parts.now) c.args.fault) c.args.packages.now c.loop-index.index c.index-packages-index.result
    c.package_follows.result c.loop-index-test.true c.loop-index.invariant
    (subst (λ p. IsTrue c.package_follows.result ↔ DoesPackageFollow (parts_view c.args.parts.now) c.args.fault (package_view p)) c.index-packages-index.is
    c.package_follows.ensures) c.if-not-package_follows.false
