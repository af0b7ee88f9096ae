use Rattle.wc_names.proofs.SameMeaningLemmas.{fixed_plain, meaning_kept}
use Rattle.wc_names.proofs.laws.meanings_alike.Goals as goal

pub returns-clause-meaning : goal.returns-clause-meaning
returns-clause-meaning c = λ e a ty i required. meaning_kept e a.from a.name a.ty ty i required

pub returns-clause-signature : goal.returns-clause-signature
returns-clause-signature c = fixed_plain
