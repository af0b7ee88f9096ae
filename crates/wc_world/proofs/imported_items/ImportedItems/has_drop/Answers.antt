use Rattle.std.proofs.Common.{◌∙◌}
use Rattle.wc_world.proofs.ImportedItemLemmas.{ids_in}
use Rattle.wc_world.proofs.imported_items.ImportedItems.has_drop.Goals as goal

pub returns : goal.returns
returns c = λ imports a. c.contains.ensures ∙ (ids_in c.args.self.now.drops.keys c.args.id ∙ a.drops c.args.id.0)
