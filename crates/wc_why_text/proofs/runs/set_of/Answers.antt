use Rattle.std.proofs.Common.{◌≤◌, ◌∙◌, ap, length, rules, arith}
use Rattle.std.proofs.lemmas.List.{take_all}
use Rattle.wc_why_text.proofs.RunLemmas.{ends_more}
use Rattle.wc_why_text.specs.Runs.{is_among}
use Rattle.wc_why_text.proofs.runs.set_of.Goals as goal

pub loop-position-init : goal.loop-position-init
loop-position-init c = λ p. ap (λ l. is_among l p) c.with_hasher-set.ensures.empty

pub loop-position-preserved : goal.loop-position-preserved
loop-position-preserved c =
    ends_more c.args.ends.now c.loop-position.position _ c.loop-position.set.keys c.insert.new.self.keys (search rules)
    c.loop-position.invariant c.in_ok-insert.ensures.keys

pub returns : goal.returns
returns c =
    let end : length c.args.ends.now ≤ c.loop-position.position = omega (arith, c.loop-position-test.false) in
    λ p. c.loop-position.invariant p ∙ ap (λ l. is_among l p) (take_all c.loop-position.position c.args.ends.now end)
