use Rattle.std.proofs.Common.{sym, ◌∙◌}
use Rattle.wc_read.specs.BodyOperators.{init_in}
use Rattle.wc_gc.specs.NewIndices.{new_of}
use Rattle.wc_gc.proofs.RewriteLemmas.{write_none}
use Rattle.wc_gc.proofs.rewrite.append_any_init.Goals as goal

pub returns-then-branch : goal.returns-then-branch
returns-then-branch c = rw c.new-operators.ensures at c.append_init_operators.ensures

pub returns-else-branch : goal.returns-else-branch
returns-else-branch c = write_none (new_of c.args.new.now) c.args.out.now.items (init_in c.args.bytes.now) (sym c.in_ok-is_init.ensures ∙ c.if-branch.false)
