use Rattle.wc_names.proofs.TextLemmas.{between_is}
use Rattle.wc_names.proofs.texts.between.Goals as goal

pub returns-in-Some : goal.returns-in-Some
returns-in-Some c =
    between_is c.args.name.now c.args.first.now c.args.last.now c.in-Some.rest.now c.before-in-Some.result c.in-Some.ensures.found c.before-in-Some.ensures
