use Rattle.std.proofs.Common.{◌≡◌, [], drop}
use Rattle.json.specs.Value.{items_view, members_view}
use Rattle.wc_json.specs.RepeatedMembers.{first_path, repeats_from, repeats_after}
use Rattle.wc_json.proofs.RepeatedMemberLemmas.{texts}
use Rattle.wc_json.proofs.repeated_members.+path.Given as goal

abbrev pub invariant-path_in_items-loop-index : goal.invariant-path_in_items-loop-index
invariant-path_in_items-loop-index l = first_path (repeats_from l.index (items_view (drop l.index l.item-items))) ≡ first_path (repeats_from 0 (items_view l.items.items))

abbrev pub invariant-path_in_members-loop-member : goal.invariant-path_in_members-loop-member
invariant-path_in_members-loop-member l = first_path (repeats_after (texts l.seen.keys) (members_view (drop l.member-index l.member-items))) ≡ first_path (repeats_after [] (members_view l.members.items))
