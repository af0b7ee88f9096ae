use Rattle.std.proofs.Common.{arith, refl}
use Rattle.wc_read.proofs.ShortTypesLemmas.{short_read}
use Rattle.wc_read.proofs.reader.Reader.short_func_type.Goals as goal

pub returns : goal.returns
returns c = short_read _ _ _ _ _ _ _ _ _ _ c.of_short.result c.in_ok-code.ensures.cases.0 (omega arith) c.in_ok-params.ensures c.in_ok-results.ensures (grind arith) (rw c.of_short.ensures refl) (rw c.of_short.ensures refl)
