use Rattle.std.proofs.Common.{ℕ, List, Option, subst}
use Rattle.wc_write.specs.Modules.{func_type_text, AppendsContent}
use Rattle.wc_read.specs.Types.{func_type_value}
use Rattle.wc_write.proofs.DefinedItemLemmas.{content_seen}
use Rattle.wc_write.proofs.module_sections.append_types.Goals as goal

pub returns : goal.returns
returns c = subst (λ (o : Option (List ℕ)). AppendsContent c.append_items.result c.args.out.now.items c.append_items.new.out.items 1 o) (content_seen func_type_text func_type_value c.args.types.now) (c.append_items.ensures)
