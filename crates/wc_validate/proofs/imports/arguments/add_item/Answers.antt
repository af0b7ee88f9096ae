use Rattle.wc_adapters.specs.Adapters.{library_item_view}
use Rattle.wc_validate.proofs.ArgumentLemmas.{item_added, item_passed}
use Rattle.wc_validate.proofs.imports.arguments.add_item.Goals as goal

pub returns-then-contains_key : goal.returns-then-contains_key
returns-then-contains_key c = λ entries same.
    item_passed c.args.index.now.entries c.args.alias.now (library_item_view c.args.item.now)
    c.contains_key.result entries c.contains_key.ensures c.if-contains_key.true same

pub returns : goal.returns
returns c = λ entries same.
    item_added c.args.index.now.entries c.insert.new.self.entries c.args.alias c.args.item c.contains_key.result entries c.in_ok-insert.ensures.entries
    c.contains_key.ensures c.if-contains_key.false same
