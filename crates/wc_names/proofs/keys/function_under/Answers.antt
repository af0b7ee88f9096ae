use Rattle.std.proofs.Common.{◌∙◌, ap}
use Rattle.std.specs.Option.{option_map}
use Rattle.wc_resolve.specs.Views.{function_view}
use Rattle.wc_resolve.proofs.LookupLemmas.{copied_viewed}
use Rattle.wc_maps.proofs.LookupLemmas.{name_viewed}
use Rattle.wc_names.proofs.keys.function_under.Goals as goal

pub returns : goal.returns
returns c =
    copied_viewed function_view c.get.result ∙ (ap (option_map function_view) c.get.ensures.value
    ∙ name_viewed function_view c.args.functions.now.entries c.args.name.now)
