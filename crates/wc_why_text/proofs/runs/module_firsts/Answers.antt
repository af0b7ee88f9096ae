use Rattle.std.proofs.Common.{◌∙◌, ap, cond}
use Rattle.wc_why_text.proofs.RunLemmas.{firsts_more}
use Rattle.wc_why_text.specs.Runs.{is_among, is_joined}
use Rattle.wc_why.specs.Tree.{tree_module_view}
use Rattle.wc_why_text.proofs.runs.module_firsts.Goals as goal

pub loop-position-preserved : goal.loop-position-preserved
loop-position-preserved c =
    let k = c.loop-position.position in
    let before = c.loop-position.first in
    firsts_more (is_joined (is_among c.args.ends.now.keys) c.args.index (tree_module_view c.args.«module».now)) k before c.first_at-first.result
    c.loop-position.firsts.items c.push.new.self.items c.loop-position.invariant.0 c.loop-position.invariant.1
    (c.first_at-first.ensures ∙ ap (λ b. cond b before k) c.is_joined-joined.ensures) c.in_ok-push.ensures.items
