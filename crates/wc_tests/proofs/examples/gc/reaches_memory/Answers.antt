use Rattle.std.proofs.Common.{sym, subst, ◌↔◌, IsTrue}
use Rattle.wc_read.specs.declared.operators.Space.TheVariants.{Memories}
use Rattle.wc_gc.specs.LiveItems.{IsLive, names_of}
use Rattle.wc_tests.proofs.examples.gc.reaches_memory.Goals as goal

pub returns : goal.returns
returns c = (
  c.in_ok-found.ensures.live.0,
  c.in_ok-found.ensures.live.1,
  subst (λ b. IsTrue b ↔ IsLive (names_of c.args.required.now.keys) c.in_ok-found.ensures.live.0 (Memories, 0)) (sym c.contains.ensures)
      (c.in_ok-found.ensures.live.2.is_live (Memories, 0)),
)
