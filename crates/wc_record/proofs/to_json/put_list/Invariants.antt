use Rattle.std.proofs.Common.{drop, map}
use Rattle.wc_record.proofs.ShapeLemmas.{PutsRest}
use Rattle.wc_record.proofs.to_json.put_list.Given as goal

abbrev pub invariant-loop-item : goal.invariant-loop-item
invariant-loop-item g l =
    PutsRest l.fn.out l.out (map g.T.ToJson.json (map g.T.ToJson.view l.items)) (map g.T.ToJson.json (map g.T.ToJson.view (drop l.item-index l.items)))
