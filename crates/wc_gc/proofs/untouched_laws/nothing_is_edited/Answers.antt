use Rattle.wc_gc.proofs.OriginalLemmas.{edits_nothing}
use Rattle.wc_gc.proofs.untouched_laws.nothing_is_edited.Goals as goal

pub returns : goal.returns
returns c = edits_nothing
