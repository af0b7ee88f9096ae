use Rattle.std.proofs.Common.{map, ap, ◌∙◌, []}
use Rattle.std.specs.List.{cons_option}
use Rattle.wc_encoder.specs.Distinct.{exported_interfaces, item_interface}
use Rattle.wc_resolve.specs.Dependencies.{interface_ids}
use Rattle.wc_resolve.specs.Views.{item_view, world_entry}
use Rattle.wc_record.proofs.UsedLemmas.{gathered_end, gathered_next, given_one}
use Rattle.wc_record.proofs.used.interfaces_among.Goals as goal

pub loop-key-preserved : goal.loop-key-preserved
loop-key-preserved c =
    gathered_next (λ es. exported_interfaces (map world_entry es)) c.args.exports.now.entries c.loop-key._key-iterator c.next.new.self
    (cons_option (item_interface (item_view c.in-Some.item.now)) []) (interface_ids c.loop-key.interfaces.items)
    (interface_ids c.add_interface.new.interfaces.items)
    (ap (λ es. exported_interfaces (map world_entry es)) c.in-Some.ensures.steps ∙ given_one (item_interface (item_view c.in-Some.item.now)) _)
    c.in_ok-add_interface.ensures c.loop-key.invariant

pub returns : goal.returns
returns c =
    gathered_end (λ es. exported_interfaces (map world_entry es)) c.args.exports.now.entries c.loop-key._key-iterator
    (interface_ids c.loop-key.interfaces.items)
    (ap (λ es. exported_interfaces (map world_entry es)) c.in-None.ensures.steps.0) c.loop-key.invariant
