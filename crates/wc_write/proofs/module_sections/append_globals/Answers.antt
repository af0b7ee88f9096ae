use Rattle.std.proofs.Common.{ℕ, List, Option, subst}
use Rattle.wc_write.specs.Modules.{defined_global_text, AppendsContent}
use Rattle.wc_write.proofs.DefinedItemLemmas.{content_defined}
use Rattle.wc_write.proofs.module_sections.append_globals.Goals as goal

pub returns : goal.returns
returns g c = subst (λ (o : Option (List ℕ)). AppendsContent c.append_defined_globals.result c.args.out.now.items c.append_defined_globals.new.out.items 6 o) (content_defined defined_global_text g.I.InitText.init c.in_ok-globals.globals.items c.args.globals.now c.in_ok-globals.ensures) (rw c.deref.ensures.value at c.append_defined_globals.ensures)
