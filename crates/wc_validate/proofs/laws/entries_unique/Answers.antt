use Rattle.wc_validate.proofs.LawLemmas.{one_entry}
use Rattle.wc_validate.proofs.laws.entries_unique.Goals as goal

pub returns : goal.returns
returns c = one_entry c.args.resolve.now c.meanings_unique.ensures
