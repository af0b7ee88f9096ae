use Rattle.wc_gc.proofs.AddedCodeRunLemmas.{is_growing_realloc}
use Rattle.wc_gc.proofs.machine_laws.growing_body_grows.Goals as goal

pub returns : goal.returns
returns c = is_growing_realloc
