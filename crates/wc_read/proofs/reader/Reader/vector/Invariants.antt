use Rattle.std.proofs.Common.{◌-◌, map}
use Rattle.wc_read.specs.Reading.Reader.{vector_at}
use Rattle.wc_read.proofs.CountedLemmas.{IsPartRead}
use Rattle.wc_read.proofs.reader.Reader.vector.Given as goal

abbrev pub invariant-loop : goal.invariant-loop
invariant-loop g l = IsPartRead g.T.Spelled.read (map g.T.Spelled.view l.items.items) (l.count - l.counter) l.self.rest.now (vector_at g.T.Spelled.read l.fn.self.rest.now)
