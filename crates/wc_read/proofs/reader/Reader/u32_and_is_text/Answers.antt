use Rattle.wc_read.proofs.ShortestTextLemmas.{number_left}
use Rattle.wc_read.proofs.LocalRunsLemmas.{number_longer, number_shortest}
use Rattle.wc_read.proofs.reader.Reader.u32_and_is_text.Goals as goal

pub overflow_sub-input : goal.overflow_sub-input
overflow_sub-input c = number_left 32 c.args.self.now.rest.now c.in_ok-number.number c.u32.new.self.rest.now c.in_ok-number.ensures

pub returns : goal.returns
returns c = (
  c.in_ok-number.ensures,
  (λ shortest. number_shortest c.args.self.now.rest.now c.in_ok-number.number c.u32.new.self.rest.now c.are_bytes.ensures c.in_ok-number.ensures (rw c.from.ensures at (c.is_shortest-is_text.ensures.shortest shortest))),
  (λ longer. number_longer c.args.self.now.rest.now c.in_ok-number.number c.u32.new.self.rest.now c.in_ok-number.ensures (rw c.from.ensures at (c.is_shortest-is_text.ensures.longer longer))),
)
