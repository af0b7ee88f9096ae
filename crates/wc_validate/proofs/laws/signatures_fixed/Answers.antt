use Rattle.wc_validate.proofs.LawLemmas.{one_signature}
use Rattle.wc_validate.proofs.laws.signatures_fixed.Goals as goal

pub returns : goal.returns
returns c = one_signature c.args.resolve.now c.meanings_unique.ensures
