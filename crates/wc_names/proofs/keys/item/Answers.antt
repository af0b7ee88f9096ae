use Rattle.std.proofs.Common.{◌∙◌, ap}
use Rattle.std.specs.Option.{option_map}
use Rattle.wc_resolve.specs.Views.{item_view}
use Rattle.wc_resolve.proofs.LookupLemmas.{copied_viewed}
use Rattle.wc_names.proofs.KeyLemmas.{item_viewed}
use Rattle.wc_names.proofs.keys.item.Goals as goal

pub returns : goal.returns
returns c = copied_viewed item_view c.get.result ∙ (ap (option_map item_view) c.get.ensures.value ∙ item_viewed c.args.key.now c.args.items.now.entries)
