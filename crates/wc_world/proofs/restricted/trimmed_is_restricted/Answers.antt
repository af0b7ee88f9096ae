use Rattle.wc_world.proofs.RestrictedLemmas.{refused_as_collision, trimmed_restricted}
use Rattle.wc_world.proofs.restricted.trimmed_is_restricted.Goals as goal

pub returns : goal.returns
returns c =
    let restriction = c.trimmed_restricts.ensures in
    let one = c.modules_unique.ensures in
    record {
      restricted = trimmed_restricted c.args.encoder.now restriction one c.restrictions_recorded.ensures;
      collides = refused_as_collision c.args.encoder.now restriction one c.restrictions_valid.ensures;
    }
