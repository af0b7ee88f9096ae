use Rattle.wc_validate.proofs.MemoryTypeLemmas.{recorded_memories}
use Rattle.wc_validate.proofs.laws.recorded_memories_valid.Goals as goal

pub returns : goal.returns
returns c = recorded_memories
