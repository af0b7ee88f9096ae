use Rattle.std.proofs.Common.{◌≡◌, length, rules}
use Rattle.wc_gc.specs.Live.{has_item}
use Rattle.wc_gc.proofs.FoundLemmas.{found_is}
use Rattle.wc_gc.proofs.found.Found.of.Goals as goal

pub returns : goal.returns
returns g c =
    let tables : c.len.result ≡ length c.args.adapter.now.tables.items = search rules in
    let memories : c.len-2.result ≡ length c.args.adapter.now.memories.items = search rules in
    found_is c.args.adapter.now (has_item g.L.LiveSet.has c.args.live.now) _ _ _ _ _ _ c.in_ok-live_named.ensures c.in_ok-live_named-2.ensures c.in_ok-live_reallocs.ensures
    (rw tables at c.in_ok-live_indices.ensures) (rw memories at c.in_ok-live_indices-2.ensures) c.in_ok-live_empties.ensures
