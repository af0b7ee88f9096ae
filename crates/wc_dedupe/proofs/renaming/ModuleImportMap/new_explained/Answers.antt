use Rattle.wc_dedupe.proofs.renaming.ModuleImportMap.new_explained.Goals as goal

pub explained-requires : goal.explained-requires
explained-requires c = rw c.as_slice-in-Err.ensures.value (rw c.as_slice.ensures.value at c.in-Err.ensures.refused)

pub returns-clause-refused : goal.returns-clause-refused
returns-clause-refused c = rw c.as_slice-in-Err.ensures.value at c.explained.ensures.cause
