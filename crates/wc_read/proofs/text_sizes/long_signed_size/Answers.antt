use Rattle.std.proofs.Common.{rules, w64, SFits}
use Rattle.std.proofs.lemmas.Int.{to_z-of_z}
use Rattle.wc_read.proofs.ShortestTextLemmas.{signed_left, signed_long}
use Rattle.wc_read.proofs.text_sizes.long_signed_size.Goals as goal

pub overflow_sub-size : goal.overflow_sub-size
overflow_sub-size c = signed_left c.args.bits c.args.input.now c.in-Ok.number c.signed.new.self.rest.now (rw c.new-reader.ensures at c.in-Ok.ensures.read)

pub returns-then-is_shortest_signed : goal.returns-then-is_shortest_signed
returns-then-is_shortest_signed c =
    signed_long c.args.bits c.args.input.now c.in-Ok.number c.signed.new.self.rest.now c.are_bytes.ensures (rw c.new-reader.ensures at c.in-Ok.ensures.read) (let fits : SFits w64 c.in-Ok.number = search rules in rw (to_z-of_z w64 c.in-Ok.number fits) at (c.is_shortest_signed.ensures c.if-is_shortest_signed.true))
