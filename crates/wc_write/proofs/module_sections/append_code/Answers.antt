use Rattle.std.proofs.Common.{ℕ, List, Option, subst}
use Rattle.wc_write.specs.Modules.{code_text, AppendsContent}
use Rattle.wc_write.proofs.DefinedItemLemmas.{content_contents}
use Rattle.wc_write.proofs.module_sections.append_code.Goals as goal

pub returns : goal.returns
returns g c = subst (λ (o : Option (List ℕ)). AppendsContent c.append_bodies.result c.args.out.now.items c.append_bodies.new.out.items 10 o) (content_contents code_text g.C.BodyText.body c.in_ok-funcs.funcs.items c.args.funcs.now c.in_ok-funcs.ensures) (rw c.deref.ensures.value at c.append_bodies.ensures)
