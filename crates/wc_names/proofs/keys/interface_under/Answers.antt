use Rattle.std.proofs.Common.{◌∙◌, ap}
use Rattle.std.specs.Option.{option_map}
use Rattle.wc_resolve.specs.Dependencies.{id_of_interface}
use Rattle.wc_maps.proofs.LookupLemmas.{name_viewed}
use Rattle.wc_names.proofs.keys.interface_under.Goals as goal

pub returns : goal.returns
returns c = ap (option_map id_of_interface) (c.copied.ensures ∙ c.get.ensures.value) ∙ name_viewed id_of_interface c.args.interfaces.now.entries c.args.name.now
