use Rattle.std.proofs.Common.{ap, sym}
use Rattle.std.specs.Option.{option_map}
use Rattle.wc_world.specs.Used.{has_interface, used_view}
use Rattle.wc_world.proofs.UsedLemmas.{used_part_more, on_ok, used_set}
use Rattle.wc_world.proofs.used.add_with_used.Goals as goal

pub returns-in-Some : goal.returns-in-Some
returns-in-Some c = λ d has depends passed a.
    on_ok c.add_all.result c.add_all.ensures (λ joined.
    used_part_more c.args.id.0 (has_interface c.args.set.now) (has_interface c.insert.new.self) (has_interface c.in-Some.more.now) (has_interface c.add_all.new.set) (λ j. c.in_ok-insert.ensures.updates.0 (record { 0 = j })) joined d.resolve d.exports d.interface passed
    (used_set d.resolve d.exports (used_view c.args.used.now) c.args.id.0 (has_interface c.in-Some.more.now) has (ap (option_map has_interface) (sym c.in-Some.ensures.value))) depends a)
