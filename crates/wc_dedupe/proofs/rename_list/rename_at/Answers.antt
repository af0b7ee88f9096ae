use Rattle.wc_dedupe.proofs.RenameTextLemmas.{starts_at, original_starts_at, name_starts_at, ends_at, in_order}
use Rattle.wc_dedupe.proofs.rename_list.rename_at.Goals as goal

pub range-requires-clause-start_le_end : goal.range-requires-clause-start_le_end
range-requires-clause-start_le_end c = (in_order _ _ c.requires.0 c.requires.1).0

pub range-requires-clause-start_boundary : goal.range-requires-clause-start_boundary
range-requires-clause-start_boundary c = λ _. starts_at _ _ c.requires.0 c.requires.1

pub range-requires-clause-end_boundary : goal.range-requires-clause-end_boundary
range-requires-clause-end_boundary c = original_starts_at _ _ c.requires.0 c.requires.1

pub range-requires-2-clause-start_le_end : goal.range-requires-2-clause-start_le_end
range-requires-2-clause-start_le_end c = (in_order _ _ c.requires.0 c.requires.1).1

pub range-requires-2-clause-start_boundary : goal.range-requires-2-clause-start_boundary
range-requires-2-clause-start_boundary c = λ _. original_starts_at _ _ c.requires.0 c.requires.1

pub range-requires-2-clause-end_boundary : goal.range-requires-2-clause-end_boundary
range-requires-2-clause-end_boundary c = name_starts_at _ _ c.requires.0 c.requires.1

pub range-requires-3-clause-start_le_end : goal.range-requires-3-clause-start_le_end
range-requires-3-clause-start_le_end c = (in_order _ _ c.requires.0 c.requires.1).2

pub range-requires-3-clause-start_boundary : goal.range-requires-3-clause-start_boundary
range-requires-3-clause-start_boundary c = λ _. name_starts_at _ _ c.requires.0 c.requires.1

pub range-requires-3-clause-end_boundary : goal.range-requires-3-clause-end_boundary
range-requires-3-clause-end_boundary c = ends_at _ _ c.requires.0 c.requires.1
