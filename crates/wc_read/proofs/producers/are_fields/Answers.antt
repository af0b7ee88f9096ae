use Rattle.std.proofs.Common.{map}
use Rattle.wc_read.specs.Reading.Producers.{field_value}
use Rattle.wc_read.proofs.ProducersReadLemmas.{no_fields, are_fields}
use Rattle.wc_read.proofs.producers.are_fields.Goals as goal

pub returns-in-Ok-clause-found : goal.returns-in-Ok-clause-found
returns-in-Ok-clause-found c = rw c.is_empty.ensures (are_fields c.args.bytes.now (map field_value c.in-Ok._fields.items) c.vector.new.self.rest.now (rw c.new-reader.ensures at c.in-Ok.ensures))

pub returns-in_default : goal.returns-in_default
returns-in_default c = record { found = no_fields c.args.bytes.now (rw c.new-reader.ensures at (c.in-Err.ensures.0 c.in_default.not-Memory)); memory = tt }
