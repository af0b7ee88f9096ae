use Rattle.std.proofs.Common.{◌≡◌, map, drop, string_bytes, []}
use Rattle.std.specs.Str.{bytes_eq}
use Rattle.json.specs.Value.{members_view}
use Rattle.wc_json.specs.Maps.{entries_after}
use Rattle.wc_json.proofs.maps.MapStringFromJson.from_json.Given as goal

abbrev pub invariant-loop-member : goal.invariant-loop-member
invariant-loop-member g l =
    let reading = g.T.FromJson.reading in
    let view = g.T.FromJson.view in
    entries_after bytes_eq (λ k a. k) reading [] (members_view l.member-items) ≡ entries_after bytes_eq (λ k a. k) reading
    (map (λ e. (string_bytes e.0, view e.1)) l.map.entries) (members_view (drop l.member-index l.member-items))
