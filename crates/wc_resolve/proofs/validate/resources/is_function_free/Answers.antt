use Rattle.std.proofs.Common.{map}
use Rattle.wc_resolve.specs.Views.{type_view, function_view}
use Rattle.wc_resolve.proofs.ResourcesByValueLemmas.{function_free}
use Rattle.wc_resolve.proofs.ViewedLemmas.{iff_trans}
use Rattle.wc_resolve.proofs.validate.resources.is_function_free.Goals as goal

pub returns : goal.returns
returns c = iff_trans c.function_passes.ensures (function_free (map type_view c.args.types.now) c.args.resource_flags.now (function_view c.args.function.now) c.requires)
