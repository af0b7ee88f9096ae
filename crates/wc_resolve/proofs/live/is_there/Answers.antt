use Rattle.wc_resolve.proofs.BesideLemmas.{known_has, live_has}
use Rattle.wc_resolve.proofs.live.is_there.Goals as goal

pub returns-then-has : goal.returns-then-has
returns-then-has g c = known_has c.has.result (g.K.KnownTypes.known_of c.args.known.now) c.args.live.now c.args.id.0 c.if-has.true c.has.ensures

pub returns-else-has : goal.returns-else-has
returns-else-has g c =
    live_has c.has.result c.contains.result (g.K.KnownTypes.known_of c.args.known.now) c.args.live.now c.args.id.0 c.if-has.false c.has.ensures
    c.contains.ensures
