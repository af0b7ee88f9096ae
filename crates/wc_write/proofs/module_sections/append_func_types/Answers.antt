use Rattle.std.proofs.Common.{ℕ, List, Option, subst, sym, ◌∙◌}
use Rattle.wc_write.specs.Text.{number_text}
use Rattle.wc_write.specs.Modules.{AppendsContent}
use Rattle.wc_write.proofs.DefinedItemLemmas.{content_seen, content_types}
use Rattle.wc_write.proofs.module_sections.append_func_types.Goals as goal

pub returns : goal.returns
returns g c =
    let given = rw (c.deref-2.ensures.value, c.in_ok-types.ensures, c.deref.ensures.value) at c.append_items.ensures in
    let types = sym (content_seen number_text (λ f. f.ty) c.in_ok-funcs.funcs.items) ∙ content_types number_text g.C.BodyText.body c.in_ok-funcs.funcs.items c.args.funcs.now c.in_ok-funcs.ensures in
    subst (λ (o : Option (List ℕ)). AppendsContent c.append_items.result c.args.out.now.items c.append_items.new.out.items 3 o) types given
