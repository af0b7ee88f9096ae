use Rattle.std.proofs.Common.{◌∙◌, ap}
use Rattle.std.specs.Option.{option_map}
use Rattle.wc_maps.proofs.LookupLemmas.{name_viewed}
use Rattle.wc_calls.specs.Private.OptionTables.{bits_of}
use Rattle.wc_calls.proofs.import_options.OptionTable.under.Goals as goal

pub returns : goal.returns
returns c = ap (option_map bits_of) (c.copied.ensures ∙ c.get.ensures.value) ∙ name_viewed bits_of c.args.self.now.by_name.entries c.args.name.now
