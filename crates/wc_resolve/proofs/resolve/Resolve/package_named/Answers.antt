use Rattle.std.proofs.Common.{List, ◌∙◌, ap, subst, sym}
use Rattle.wc_resolve.specs.Resolve.{HasNoPackage}
use Rattle.wc_resolve.specs.Validate.{AreNamesOf}
use Rattle.wc_resolve.specs.Views.{PackageView, package_name_view}
use Rattle.wc_resolve.specs.Kinds.{ResolveView}
use Rattle.wc_resolve.proofs.PackagePositionLemmas.{names_at, none_then}
use Rattle.wc_resolve.proofs.resolve.Resolve.package_named.Goals as goal

pub returns-in_err-index-clause-none : goal.returns-in_err-index-clause-none
returns-in_err-index-clause-none c =
    let names = c.self.inside.kept.package_names.keys in
    let made : AreNamesOf c.args.self.now.packages names = subst (λ (z : List PackageView). AreNamesOf z names) (ap (λ (v : ResolveView). v.packages) c.self.view_is) c.self.invariant.has_names in
    none_then c.from_residual.result (HasNoPackage c.args.self.now.packages (package_name_view c.args.name.now)) (λ k below is.
    c.in_err-index.ensures.none k below (names_at c.args.self.now.packages names k made ∙ is))

pub returns-clause-found : goal.returns-clause-found
returns-clause-found c =
    let names = c.self.inside.kept.package_names.keys in
    let made : AreNamesOf c.args.self.now.packages names = subst (λ (z : List PackageView). AreNamesOf z names) (ap (λ (v : ResolveView). v.packages) c.self.view_is) c.self.invariant.has_names in
    sym (names_at c.args.self.now.packages names c.in_ok-index.index made) ∙ c.in_ok-index.ensures.found
