use Rattle.std.proofs.Common.{subst}
use Rattle.wc_names.specs.Laws.{MeaningsUnique}
use Rattle.wc_validate.proofs.LawLemmas.{one_record}
use Rattle.wc_validate.proofs.laws.records_unique.Goals as goal

pub returns : goal.returns
returns c =
    one_record c.args.encoder.now (subst MeaningsUnique c.metadata-metadata.ensures.resolve c.meanings_unique.ensures)
    c.exports_unique.ensures c.modules_unique.ensures
