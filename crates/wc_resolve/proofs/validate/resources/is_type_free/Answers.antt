use Rattle.wc_resolve.specs.Views.{type_view}
use Rattle.wc_resolve.specs.ResolveParts.{parts_view}
use Rattle.wc_resolve.proofs.ResourcesByValueLemmas.{type_free}
use Rattle.wc_resolve.proofs.ViewedLemmas.{iff_ok}
use Rattle.wc_resolve.proofs.validate.resources.is_type_free.Goals as goal

pub returns : goal.returns
returns c = iff_ok c.type_def_passes.result (type_free (parts_view c.args.parts.now).types c.args.resource_flags.now (type_view c.args.def.now) c.requires) c.type_def_passes.ensures
