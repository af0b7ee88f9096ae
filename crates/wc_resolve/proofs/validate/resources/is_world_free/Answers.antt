use Rattle.wc_resolve.specs.Views.{world_view}
use Rattle.wc_resolve.specs.ResolveParts.{parts_view}
use Rattle.wc_resolve.proofs.ResourcesByValueLemmas.{world_free}
use Rattle.wc_resolve.proofs.ViewedLemmas.{iff_trans}
use Rattle.wc_resolve.proofs.validate.resources.is_world_free.Goals as goal

pub returns : goal.returns
returns c = iff_trans c.world_passes.ensures (world_free (parts_view c.args.parts.now).types c.args.resource_flags.now (world_view c.args.world.now) c.requires)
