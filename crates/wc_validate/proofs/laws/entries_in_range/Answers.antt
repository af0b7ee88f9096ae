use Rattle.wc_validate.proofs.LawLemmas.{entry_in}
use Rattle.wc_validate.proofs.laws.entries_in_range.Goals as goal

pub returns : goal.returns
returns c = entry_in c.args.resolve.now c.meanings_in_range.ensures
