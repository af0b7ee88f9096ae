use Rattle.std.proofs.Common.{ℕ, List, Option, subst}
use Rattle.wc_write.specs.Modules.{AppendsContent}
use Rattle.wc_write.specs.Text.{table_text}
use Rattle.wc_write.proofs.DefinedItemLemmas.{content_types}
use Rattle.wc_write.proofs.module_sections.append_tables.Goals as goal

pub returns : goal.returns
returns c = subst (λ (o : Option (List ℕ)). AppendsContent c.append_items.result c.args.out.now.items c.append_items.new.out.items 4 o) (content_types table_text (λ _. tt) c.in_ok-tables.tables.items c.args.tables.now c.in_ok-tables.ensures) (rw c.deref.ensures.value at c.append_items.ensures)
