use Rattle.std.proofs.Common.{◌∙◌, ap, filter, length}
use Rattle.wc_resolve.proofs.BesideLemmas.{live_has}
use Rattle.wc_world.specs.Private.Marks.{holds, is_within, mark_of, numbers_below}
use Rattle.wc_world.specs.Used.{used_view}
use Rattle.wc_world.proofs.MarkLemmas.{mark_test}
use Rattle.wc_world.proofs.marks.KnownToKnownTypes.has.Goals as goal

pub returns-else-contains : goal.returns-else-contains
returns-else-contains c =
    let k = c.args.self.now in
    let within = is_within (used_view k.used.now) k.reach in
    live_has c.contains.result c.holds.result k.live.now (filter (λ t. holds within (mark_of k.settled.now t)) (numbers_below (length k.settled.now))) c.args.id.0 c.if-contains.false c.contains.ensures
    (mark_test within k.settled.now c.holds.result c.args.id.0 (c.holds.ensures ∙ ap (holds within) c.mark_of.ensures))
