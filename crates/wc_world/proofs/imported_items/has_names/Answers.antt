use Rattle.std.proofs.Common.{◌∙◌, sym}
use Rattle.wc_world.proofs.ImportedItemLemmas.{none_called}
use Rattle.wc_world.proofs.imported_items.has_names.Goals as goal

pub returns : goal.returns
returns c = λ abi imports same none name. none_called c.args.names.now.entries c.args.interface abi imports (sym c.contains_key.ensures ∙ none) same name
