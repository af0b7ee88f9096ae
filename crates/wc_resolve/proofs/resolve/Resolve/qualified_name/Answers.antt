use Rattle.std.proofs.Common.{ap}
use Rattle.std.specs.Option.{option_map}
use Rattle.wc_resolve.specs.declared.ids.PackageId.{PackageId}
use Rattle.wc_resolve.specs.Views.{interface_view}
use Rattle.wc_resolve.proofs.WellFormedLemmas.{package_in_range}
use Rattle.wc_resolve.proofs.resolve.Resolve.qualified_name.Goals as goal

pub package-requires : goal.package-requires
package-requires c =
    package_in_range c.args.self.now c.well_formedness.ensures c.args.id.0 (interface_view c.interface-interface.result.now) c.interface-interface.ensures c.in-Some-package.index.0
    (ap (λ o. option_map (λ (p : PackageId). p.0) o) c.in-Some-package.is)
