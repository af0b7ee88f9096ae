use Rattle.std.proofs.Common.{◌∙◌, ap}
use Rattle.wc_world.proofs.ImportedItemLemmas.{has}
use Rattle.wc_world.proofs.imported_items.has_name.Goals as goal

pub returns-in-Some : goal.returns-in-Some
returns-in-Some c = λ abi imports same.
    c.contains.ensures ∙ (ap (λ o. has o c.args.name.now) c.in-Some.ensures.value ∙ same c.args.interface c.args.name.now)

pub returns-in-None : goal.returns-in-None
returns-in-None c = λ abi imports same. ap (λ o. has o c.args.name.now) c.in-None.ensures.value ∙ same c.args.interface c.args.name.now
