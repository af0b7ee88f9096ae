use Rattle.std.proofs.Common.{map}
use Rattle.wc_why.specs.Texts.{text_of}
use Rattle.wc_module_ways.proofs.imports.wanted_names.Goals as goal

pub returns : goal.returns
returns c = c.names_outside.ensures (map text_of c.args.always.now) c.in_ok-set.ensures
