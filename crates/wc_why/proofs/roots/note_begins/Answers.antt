use Rattle.std.proofs.Common.{◌∙◌}
use Rattle.wc_why.proofs.FirstLemmas.{firsts_step}
use Rattle.wc_why.proofs.roots.note_begins.Goals as goal

pub loop-position-preserved : goal.loop-position-preserved
loop-position-preserved c = (
  c.note_root.ensures.sized ∙ c.loop-position.invariant.0,
  λ parts numbered.
      firsts_step c.args.begins.now c.loop-position.position _ c.loop-position-test.true parts c.args.numbers.now numbered c.args.part c.args.firsts.now.items
      c.loop-position.firsts.items c.note_root.new.firsts.items (c.loop-position.invariant.1 parts numbered) c.requires.sized c.note_root.ensures.noted,
)
