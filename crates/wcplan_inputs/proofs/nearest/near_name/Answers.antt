use Rattle.std.proofs.Common.{◌∙◌, ap, sym}
use Rattle.wcplan_inputs.specs.Nearest.{is_near}
use Rattle.wcplan_inputs.proofs.NearestLemmas.{name_none, name_passed}
use Rattle.wcplan_inputs.proofs.nearest.near_name.Goals as goal

pub loop-function-preserved : goal.loop-function-preserved
loop-function-preserved c =
    name_passed c.loop-function.function-iterator c.next.new.self (c.in-Some.function.now, c.in-Some._declared.now) c.in-Some.ensures.steps c.args.name.now _
    (ap (is_near c.args.name.now) (sym c.deref.ensures) ∙ sym c.is_near.ensures ∙ c.if-is_near.false) c.loop-function.invariant

pub returns : goal.returns
returns c = name_none c.loop-function.function-iterator c.args.name.now _ c.in-None.ensures.steps.0 c.loop-function.invariant
