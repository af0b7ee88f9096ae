use Rattle.wc_read.proofs.DistinctNamesLemmas.{texts_differ}
use Rattle.wc_names.proofs.TextLemmas.{choice_none}
use Rattle.wc_names.proofs.texts.pointer_type.Goals as goal

pub returns-else-eq-3 : goal.returns-else-eq-3
returns-else-eq-3 c =
    choice_none c.args.name.now c.args.first.now c.args.last.now c.in-Some.suffix.now c.in-Some.ensures (texts_differ _ _ c.if-eq.ensures)
    (texts_differ _ _ c.if-eq-2.ensures) (texts_differ _ _ c.if-eq-3.ensures)
