use Rattle.std.proofs.lemmas.List.{drop_all}
use Rattle.wc_record.proofs.ShapeLemmas.{drop_next, rest_begun, rest_done, rest_next}
use Rattle.wc_record.proofs.to_json.put_list.Goals as goal

pub loop-item-init : goal.loop-item-init
loop-item-init g c = rest_begun _ c.in_ok-begin_array.ensures

pub loop-item-preserved : goal.loop-item-preserved
loop-item-preserved g c =
    rest_next c.item-item.result _ _ g.T.ToJson.view g.T.ToJson.json
    (drop_next c.args.items.now c.loop-item.item-index c.item-item.result c.loop-item-test.true c.item-item.is) c.loop-item.invariant c.in_ok-write.ensures

pub returns : goal.returns
returns g c =
    rest_done _ g.T.ToJson.view g.T.ToJson.json _ _ (drop_all c.loop-item.item-index c.args.items.now c.loop-item-test.false)
    c.loop-item.invariant c.end_array.ensures
