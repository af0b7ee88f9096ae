use Rattle.wc_validate.proofs.ArgumentLemmas.{item_found}
use Rattle.wc_validate.proofs.imports.arguments.item_called.Goals as goal

pub returns : goal.returns
returns c = item_found c.args.items.now.entries c.args.alias.now c.copied.result _ c.copied.ensures c.get.ensures.value
