use Rattle.std.proofs.Common.{subst}
use Rattle.wc_names.specs.Laws.{MeaningsUnique}
use Rattle.wc_validate.proofs.RestrictionLemmas.{restrictions_recorded}
use Rattle.wc_validate.proofs.laws.restrictions_recorded.Goals as goal

pub returns : goal.returns
returns c =
    restrictions_recorded c.args.encoder.now (subst MeaningsUnique c.metadata-metadata.ensures.resolve c.meanings_unique.ensures) c.exports_unique.ensures
