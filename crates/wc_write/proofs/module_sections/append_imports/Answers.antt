use Rattle.std.proofs.Common.{ℕ, List, Option, subst}
use Rattle.wc_write.specs.Modules.{items_content, AppendsContent}
use Rattle.std.proofs.Common.{ap, ◌∙◌}
use Rattle.wc_read.specs.Imports.{import_value}
use Rattle.wc_write.specs.Text.{import_text}
use Rattle.wc_write.proofs.DefinedItemLemmas.{content_seen}
use Rattle.wc_write.proofs.module_sections.append_imports.Goals as goal

pub returns : goal.returns
returns g c = subst (λ (o : Option (List ℕ)). AppendsContent c.append_items.result c.args.out.now.items c.append_items.new.out.items 2 o) (content_seen import_text import_value c.in_ok-imports.imports.items ∙ ap (items_content import_text) c.in_ok-imports.ensures) (rw c.deref.ensures.value at c.append_items.ensures)
