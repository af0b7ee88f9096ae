use Rattle.wc_resolve.specs.Views.{interface_view}
use Rattle.wc_resolve.proofs.WellFormedLemmas.{interface_names_in}
use Rattle.wc_resolve.proofs.resolve.Resolve.interface_direct_deps.Goals as goal

pub push_dependencies-requires : goal.push_dependencies-requires
push_dependencies-requires c = interface_names_in c.args.self.now c.args.id.0 (interface_view c.interface.result.now) c.well_formedness.ensures.in_range c.interface.ensures
