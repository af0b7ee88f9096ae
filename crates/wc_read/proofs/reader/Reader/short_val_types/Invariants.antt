use Rattle.wc_read.proofs.ShortTypesLemmas.{IsReading}
use Rattle.wc_read.proofs.reader.Reader.short_val_types.Given as goal

abbrev pub invariant-loop-index : goal.invariant-loop-index
invariant-loop-index l = IsReading l.from l.count l.index l.self.rest.now l.fn.self.rest.now l.fn.types l.types
