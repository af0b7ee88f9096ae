use Rattle.wc_gc.proofs.LazyCallLemmas.{is_stack_code}
use Rattle.wc_gc.proofs.machine_laws.stack_body_allocates.Goals as goal

pub returns : goal.returns
returns c = is_stack_code
