use Rattle.std.proofs.Common.{map, sym, subst, take}
use Rattle.std.specs.Option.{option_map}
use Rattle.wc_read.specs.Names.{name_entries}
use Rattle.wc_why.specs.Component.{IsLaid}
use Rattle.wc_why.specs.Private.Modules.{shown_view}
use Rattle.wc_why.specs.Texts.{text_of}
use Rattle.wc_why.specs.Tree.{tree_module_view}
use Rattle.wc_why.proofs.LaidLemmas.{laid_more}
use Rattle.wc_why.proofs.ViewLemmas.{view_more}
use Rattle.wc_why.proofs.layout.laid_out.Goals as goal

pub loop-item-preserved : goal.loop-item-preserved
loop-item-preserved c =
    let items = c.args.items.now in
    let i = c.loop-item.item-index in
    let names = name_entries c.args.names.now in
    let adapter = option_map text_of c.args.adapter in
    subst (λ l. IsLaid names adapter l (tree_module_view c.put_item.new.«module»)) (sym (view_more shown_view items i _ c.loop-item-test.true))
    (laid_more names adapter (map shown_view (take i items)) _ (tree_module_view c.loop-item.«module») (tree_module_view c.put_item.new.«module»)
    c.loop-item.invariant c.in_ok-put_item.ensures)
