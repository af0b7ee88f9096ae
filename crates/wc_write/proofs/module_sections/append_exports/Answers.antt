use Rattle.std.proofs.Common.{ℕ, List, Option, subst}
use Rattle.wc_write.specs.Modules.{export_text, AppendsContent}
use Rattle.wc_read.specs.Exports.{export_value}
use Rattle.wc_write.proofs.DefinedItemLemmas.{content_seen}
use Rattle.wc_write.proofs.module_sections.append_exports.Goals as goal

pub returns : goal.returns
returns c = subst (λ (o : Option (List ℕ)). AppendsContent c.append_items.result c.args.out.now.items c.append_items.new.out.items 7 o) (content_seen export_text export_value c.args.exports.now) (c.append_items.ensures)
