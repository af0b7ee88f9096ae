use Rattle.std.proofs.Common.{◌≡◌, ◌<◌, ◌∙◌, arith, sym, subst, map, length, true, false, Ok, Err}
use Rattle.std.proofs.lemmas.Result.{err_from_is_err_and}
use Rattle.json.specs.Value.{value_view}
use Rattle.wc_json.specs.Fault.{IsFaultOf}
use Rattle.wc_json.specs.Paths.{index_step}
use Rattle.wc_json.proofs.ListLemmas.{IsFaultOf_item, after-all, after-item, items_there, list-value_view, memory_for_items}
use Rattle.wc_json.proofs.PathLemmas.{Reads_at_step}
use Rattle.wc_json.proofs.from_json.VecFromJson.from_json.Goals as goal

pub loop-item-preserved : goal.loop-item-preserved
loop-item-preserved g c =
    let reading = g.T.FromJson.reading in
    let view = g.T.FromJson.view in
    let invariant = c.loop-item.invariant in
    let index = c.len-index.result in
    let item = Reads_at_step view (index_step index) c.from_json.result (Ok c.in_ok-at_index.field-0) _ c.in_ok-at_index.ensures c.from_json.ensures.reads in
    record {
      count = omega (arith, c.in_ok-push.ensures.len, invariant.count);
      reading = invariant.reading
          ∙ after-item reading c.deref-item-items.result.now c.loop-item.item-index index c.item-item.result c.loop-item-test.true c.item-item.is
          (c.len-index.ensures ∙ invariant.count)
          view c.loop-item.list.items c.push.new.self.items c.in_ok-at_index.field-0 item c.in_ok-push.ensures.items;
    }

pub returns-in_err-at_index-clause-reads : goal.returns-in_err-at_index-clause-reads
returns-in_err-at_index-clause-reads g c =
    let p = err_from_is_err_and c.from_residual-in_err-at_index.result c.from_residual-in_err-at_index.ensures.1 in
    let reading = g.T.FromJson.reading in
    let view = g.T.FromJson.view in
    let invariant = c.loop-item.invariant in
    let index = c.len-index.result in
    let fault = c.in_err-at_index.field-0.0 in
    let items = c.deref-item-items.result.now in
    let whole = list-value_view reading c.args.value.now c.in-Array.items items c.in-Array.is c.deref-item-items.ensures.value ∙ invariant.reading in
    let item = Reads_at_step view (index_step index) c.from_json.result (Err fault) _ c.in_err-at_index.ensures c.from_json.ensures.reads in
    rw (p.1, p.2) (subst (IsFaultOf fault) (sym whole)
    (IsFaultOf_item reading items c.loop-item.item-index index c.item-item.result c.loop-item-test.true c.item-item.is (c.len-index.ensures ∙ invariant.count)
    fault (map view c.loop-item.list.items) item))

pub returns-in_err-list-clause-memory : goal.returns-in_err-list-clause-memory
returns-in_err-list-clause-memory g c =
    memory_for_items c.from_residual.result (value_view c.args.value.now) (items_there c.args.value.now c.in-Array.items c.in-Array.is
    (λ none. let bad : false ≡ true = c.in_err-list.ensures.succeeds (c.len.ensures ∙ c.in-Array.items.ok.0 ∙ none) in let no : ⊥ = cc bad in no))

pub returns-in_err-at_index-clause-memory : goal.returns-in_err-at_index-clause-memory
returns-in_err-at_index-clause-memory g c =
    let here = subst (λ xs. c.loop-item.item-index < length xs) c.deref-item-items.ensures.value c.loop-item-test.true in
    memory_for_items c.from_residual-in_err-at_index.result (value_view c.args.value.now)
    (items_there c.args.value.now c.in-Array.items c.in-Array.is (λ none. omega (arith, here, none)))

pub returns-in_err-push-clause-memory : goal.returns-in_err-push-clause-memory
returns-in_err-push-clause-memory g c =
    let here = subst (λ xs. c.loop-item.item-index < length xs) c.deref-item-items.ensures.value c.loop-item-test.true in
    memory_for_items c.from_residual-in_err-push.result (value_view c.args.value.now)
    (items_there c.args.value.now c.in-Array.items c.in-Array.is (λ none. omega (arith, here, none)))

pub returns-clause-reads : goal.returns-clause-reads
returns-clause-reads g c =
    let reading = g.T.FromJson.reading in
    let items = c.deref-item-items.result.now in
    list-value_view reading c.args.value.now c.in-Array.items items c.in-Array.is c.deref-item-items.ensures.value ∙ c.loop-item.invariant.reading
    ∙ after-all reading items c.loop-item.item-index (map g.T.FromJson.view c.loop-item.list.items) c.loop-item-test.false
