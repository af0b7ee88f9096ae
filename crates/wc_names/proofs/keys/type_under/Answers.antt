use Rattle.std.proofs.Common.{◌∙◌, ap}
use Rattle.std.specs.Option.{option_map}
use Rattle.wc_resolve.specs.Roots.{id_index}
use Rattle.wc_maps.proofs.LookupLemmas.{name_viewed}
use Rattle.wc_names.proofs.keys.type_under.Goals as goal

pub returns : goal.returns
returns c = ap (option_map id_index) (c.copied.ensures ∙ c.get.ensures.value) ∙ name_viewed id_index c.args.types.now.entries c.args.name.now
