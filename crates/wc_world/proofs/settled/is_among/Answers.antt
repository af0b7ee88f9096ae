use Rattle.std.proofs.Common.{◌∙◌, ap, sym}
use Rattle.wc_world.specs.Private.Settled.{is_among}
use Rattle.wc_world.proofs.SettledLemmas.{listed_test}
use Rattle.wc_world.proofs.settled.is_among.Goals as goal

pub returns-in-Id : goal.returns-in-Id
returns-in-Id g c =
    listed_test c.has.result (g.K.KnownTypes.known_of c.args.types.now) c.in-Id.id.0 c.has.ensures
    ∙ ap (is_among (g.K.KnownTypes.known_of c.args.types.now)) (sym c.in-Id.is)
