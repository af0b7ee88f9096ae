use Rattle.std.proofs.Common.{◌≡◌, ◌++◌, ◌∙◌, ap, arith}
use Rattle.wc_paths.specs.Counts.{counts_value}
use Rattle.wc_paths.specs.Graph.{graph_value}
use Rattle.wc_paths.specs.Items.{counts_of, items_of}
use Rattle.wc_paths.specs.Numbers.{item_at, item_count}
use Rattle.wc_paths.proofs.PathLemmas.{graph_closed, graph_names, numbers_below}
use Rattle.wc_paths.proofs.graph.ModuleGraphGraph.put_names.Goals as goal

pub returns-clause-names : goal.returns-clause-names
returns-clause-names c =
    let s = c.args.self.now in
    let g = graph_value s in
    let item = c.item_at-item.result in
    let are : c.deref.result.now ≡ items_of g item =
    c.deref.ensures.value ∙ (c.in_ok-code.ensures.names ∙ ap (λ z. z ++ items_of g item) c.new-named.ensures.items) in
    graph_names g (counts_value s.counts) s.counted c.args.item item c.item_at-item.ensures c.deref.result.now are c.args.out.now.items
    c.put_numbers.new.out.items c.in_ok-there.ensures.numbers

pub returns-clause-closed : goal.returns-clause-closed
returns-clause-closed c =
    let s = c.args.self.now in
    let g = graph_value s in
    let item = c.item_at-item.result in
    let are : c.deref.result.now ≡ items_of g item =
    c.deref.ensures.value ∙ (c.in_ok-code.ensures.names ∙ ap (λ z. z ++ items_of g item) c.new-named.ensures.items) in
    graph_closed g (counts_value s.counts) s.counted c.args.item item c.item_at-item.ensures c.deref.result.now are c.in_ok-code.code c.in_ok-there.there
    c.is_closed_item.result c.in_ok-code.ensures.code c.in_ok-there.ensures.there c.is_closed_item.ensures

pub returns-clause-below : goal.returns-clause-below
returns-clause-below c = λ _ k d lt.
    let s = c.args.self.now in
    let g = graph_value s in
    let b = numbers_below (counts_of g) (items_of g (item_at (counts_of g) c.args.item)) k d lt in
    let e : s.total ≡ item_count (counts_of g) = s.summed ∙ ap item_count s.counted in
    omega (arith, b, e)
