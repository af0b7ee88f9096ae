use Rattle.wc_why.specs.Private.Modules.{shown_view}
use Rattle.wc_why.proofs.ModuleLemmas.{first_shown, item_shown}
use Rattle.wc_why.proofs.modules.shown_item.Goals as goal

pub returns-in-Some : goal.returns-in-Some
returns-in-Some c =
    item_shown c.args.shown c.requires.shown c.args.position c.in-Some.before c.index.result.now c.index.ensures c.index-2.result.now c.index-2.ensures c.requires.there
    c.in-Some.is (shown_view c.after.result) c.item_of-item.result c.mark_of-only.result c.item_of-item.ensures c.mark_of-only.ensures c.after.ensures

pub returns-in-None : goal.returns-in-None
returns-in-None c =
    first_shown c.args.shown c.requires.shown c.args.position c.index.result.now c.index.ensures c.index-2.result.now c.index-2.ensures c.requires.there c.in-None.is
    c.item_of-item.result _ c.mark_of-only.result c.item_of-item.ensures c.begin_of.ensures c.mark_of-only.ensures
