use Rattle.wc_resolve.specs.Views.{interface_view}
use Rattle.wc_resolve.specs.ResolveParts.{parts_view}
use Rattle.wc_resolve.proofs.ResourcesByValueLemmas.{interface_free}
use Rattle.wc_resolve.proofs.ViewedLemmas.{iff_trans}
use Rattle.wc_resolve.proofs.validate.resources.is_interface_free.Goals as goal

pub returns : goal.returns
returns c = iff_trans c.interface_passes.ensures (interface_free (parts_view c.args.parts.now).types c.args.resource_flags.now (interface_view c.args.interface.now) c.requires)
