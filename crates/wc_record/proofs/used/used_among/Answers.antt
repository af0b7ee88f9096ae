use Rattle.std.proofs.Common.{List, ap, map, ◌∙◌, drop, ◌+◌}
use Rattle.std.specs.List.{filter_map}
use Rattle.std.proofs.lemmas.List.{drop_all, drop_more}
use Rattle.wc_resolve.specs.Dependencies.{interface_ids}
use Rattle.wc_resolve.specs.declared.ids.InterfaceId.{InterfaceId}
use Rattle.wc_world.specs.Used.{used_view}
use Rattle.wc_record.specs.Private.Used.{used_interface_view}
use Rattle.wc_record.specs.Worlds.{UsedInterface, used_interface}
use Rattle.wc_record.proofs.UsedLemmas.{gathered_end, gathered_next, given_one}
use Rattle.wc_record.proofs.used.used_among.Goals as goal

pub loop-id-preserved : goal.loop-id-preserved
loop-id-preserved c =
    let one = used_interface c.args.listed.now (used_view c.args.used.now) in
    let give : List InterfaceId → List UsedInterface = λ ids. filter_map one (interface_ids ids) in
    let ids = c.args.interfaces.now in
    let index = c.loop-id.id-index in
    gathered_next give ids (drop index ids) (drop (index + 1) ids) _ (map used_interface_view c.loop-id.list.items)
    (map used_interface_view c.add_used.new.list.items)
    (ap give (drop_more ids index _ c.loop-id-test.true) ∙ given_one _ (filter_map one (interface_ids (drop (index + 1) ids))))
    c.in_ok-add_used.ensures c.loop-id.invariant

pub returns : goal.returns
returns c =
    let one = used_interface c.args.listed.now (used_view c.args.used.now) in
    let give : List InterfaceId → List UsedInterface = λ ids. filter_map one (interface_ids ids) in
    gathered_end give c.args.interfaces.now _ (map used_interface_view c.loop-id.list.items)
    (ap give (drop_all c.loop-id.id-index c.args.interfaces.now c.loop-id-test.false)) c.loop-id.invariant
