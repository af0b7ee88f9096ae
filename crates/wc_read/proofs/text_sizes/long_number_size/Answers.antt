use Rattle.wc_read.proofs.ShortestTextLemmas.{number_left, number_long}
use Rattle.wc_read.proofs.text_sizes.long_number_size.Goals as goal

pub overflow_sub-size : goal.overflow_sub-size
overflow_sub-size c = number_left c.args.bits c.args.input.now c.in-Ok.number c.number.new.self.rest.now (rw c.new-reader.ensures at c.in-Ok.ensures.read)

pub returns-then-is_shortest : goal.returns-then-is_shortest
returns-then-is_shortest c =
    number_long c.args.bits c.args.input.now c.in-Ok.number c.number.new.self.rest.now c.are_bytes.ensures (rw c.new-reader.ensures at c.in-Ok.ensures.read) (c.is_shortest.ensures.shortest c.if-is_shortest.true)
