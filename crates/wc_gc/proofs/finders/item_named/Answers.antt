use Rattle.std.proofs.Common.{Some, None, ap, ◌∙◌, refl}
use Rattle.wc_gc.proofs.RootLemmas.{item_looked_up}
use Rattle.wc_gc.proofs.finders.item_named.Goals as goal

pub returns-in-Some : goal.returns-in-Some
returns-in-Some c =
    ap Some c.exported_item.ensures ∙ item_looked_up _ c.args.name.now c.args.named.now.entries (λ k. refl) c.requires (Some c.in-Some.export.now) c.in-Some.ensures.value

pub returns-in-None : goal.returns-in-None
returns-in-None c = item_looked_up _ c.args.name.now c.args.named.now.entries (λ k. refl) c.requires None c.in-None.ensures.value
