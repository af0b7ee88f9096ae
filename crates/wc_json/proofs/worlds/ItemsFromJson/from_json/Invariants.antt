use Rattle.std.proofs.Common.{◌≡◌, map, drop, []}
use Rattle.json.specs.Value.{members_view}
use Rattle.wc_resolve.proofs.KeyLemmas.{key_view_eq}
use Rattle.wc_resolve.specs.Views.{world_entry}
use Rattle.wc_json.specs.Keys.{item_key}
use Rattle.wc_json.specs.Maps.{entries_after}
use Rattle.wc_json.specs.Worlds.{item}
use Rattle.wc_json.proofs.worlds.ItemsFromJson.from_json.Given as goal

abbrev pub invariant-loop-member : goal.invariant-loop-member
invariant-loop-member l =
    entries_after key_view_eq item_key item [] (members_view l.member-items) ≡ entries_after key_view_eq item_key item
    (map world_entry l.items.entries) (members_view (drop l.member-index l.member-items))
