use Rattle.std.proofs.Common.{◌∙◌}
use Rattle.wc_read.proofs.place.read_module_explained.Goals as goal

pub returns-in-Err-clause-refused : goal.returns-in-Err-clause-refused
returns-in-Err-clause-refused c = λ real. c.in-Err.ensures.refused (λ memory. real (c.refused.ensures.fault real ∙ memory))
