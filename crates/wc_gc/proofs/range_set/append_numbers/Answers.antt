use Rattle.std.proofs.Common.{◌≡◌, ◌∙◌, ◌++◌, ◌∷◌, [], ◌-◌, ap, inl, inr, arith}
use Rattle.std.specs.List.{range_with_len}
use Rattle.std.proofs.lemmas.Bool.{cases_lt}
use Rattle.wc_gc.proofs.NumbersBelowLemmas.{one_run}
use Rattle.wc_gc.proofs.range_set.append_numbers.Goals as goal

pub loop-x-preserved : goal.loop-x-preserved
loop-x-preserved c =
    let from = c.loop-x.auto.x in
    let test = c.loop-x-test.true in
    record {
      items = c.in_ok-push.ensures.items ∙ (ap (λ z. z ++ c.loop-x.x ∷ []) c.loop-x.invariant.items ∙ one_run c.args.numbers.now.items c.args.first c.loop-x.x (omega (arith, from)));
      none = λ le. absurd (omega (arith, from, test));
    }

pub returns : goal.returns
returns c =
    let done = c.loop-x-test.false in
    let from = c.loop-x.auto.x in
    let all : c.loop-x.x - c.args.first ≡ c.args.end - c.args.first = elim (cases_lt c.args.first c.args.end) [
      | inl less ↦ let to = c.loop-x.auto.x-end (omega arith) in omega (arith, done, to)
      | inr past ↦ let none = c.loop-x.invariant.none past in omega (arith, none)
    ] in
    c.loop-x.invariant.items ∙ ap (λ n. c.args.numbers.now.items ++ range_with_len c.args.first n) all
