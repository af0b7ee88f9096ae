use Rattle.std.proofs.Common.{◌≡◌, map, drop, vec_len}
use Rattle.json.specs.Value.{items_view}
use Rattle.wc_json.specs.FromJson.{items_from}
use Rattle.wc_json.proofs.ListLemmas.{after}
use Rattle.wc_json.proofs.from_json.VecFromJson.from_json.Given as goal

abbrev pub invariant-loop-item : goal.invariant-loop-item
invariant-loop-item g l = record {
  count : vec_len l.list ≡ l.item-index;
  reading : items_from g.T.FromJson.reading 0 (items_view l.item-items) ≡ after (map g.T.FromJson.view l.list.items)
      (items_from g.T.FromJson.reading l.item-index (items_view (drop l.item-index l.item-items)));
}
