use Rattle.std.proofs.Common.{ℕ, List, Option, subst}
use Rattle.wc_write.specs.Modules.{AppendsContent}
use Rattle.wc_write.specs.Text.{memory_text}
use Rattle.wc_write.proofs.DefinedItemLemmas.{content_types}
use Rattle.wc_write.proofs.module_sections.append_memories.Goals as goal

pub returns : goal.returns
returns c = subst (λ (o : Option (List ℕ)). AppendsContent c.append_items.result c.args.out.now.items c.append_items.new.out.items 5 o) (content_types memory_text (λ _. tt) c.in_ok-memories.memories.items c.args.memories.now c.in_ok-memories.ensures) (rw c.deref.ensures.value at c.append_items.ensures)
