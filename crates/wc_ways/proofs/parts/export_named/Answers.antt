use Rattle.std.proofs.Common.{◌∙◌, ap, option_map}
use Rattle.wc_read.specs.Exports.{export_value}
use Rattle.wc_ways.proofs.parts.export_named.Goals as goal

pub returns : goal.returns
returns c = ap (option_map export_value) (c.copied.ensures ∙ c.get.ensures.value) ∙ c.requires.exports c.args.name
