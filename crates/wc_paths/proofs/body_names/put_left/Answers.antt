use Rattle.std.proofs.Common.{◌≡◌, Some, ◌∙◌, ap, rules, subst, sym}
use Rattle.std.specs.Option.{option_map}
use Rattle.wc_read.specs.BodyOperators.{next_and_left, operators_left}
use Rattle.wc_read.specs.Operators.{instr_value}
use Rattle.wc_paths.specs.Private.BodyNames.{items_left}
use Rattle.wc_paths.proofs.BodyNamesLemmas.{IsLeft, left_all, left_more}
use Rattle.wc_paths.proofs.body_names.put_left.Goals as goal

pub loop-operator-init : goal.loop-operator-init
loop-operator-init c = left_all _ _

pub loop-operator-preserved : goal.loop-operator-preserved
loop-operator-preserved c =
    let read : c.in-Ok-Some.field-0 ≡ Some c.in-Ok-Some.operator = search rules in
    left_more c.args.names.now.items c.loop-operator.names.items c.put_operator.new.names.items _ (instr_value c.in-Ok-Some.operator)
    (operators_left c.pass_run.new.operators) (operators_left c.next.new.self)
    (subst (IsLeft c.args.names.now.items c.loop-operator.names.items (items_left c.args.operators.now)) (sym c.pass_run.ensures.left) c.loop-operator.invariant)
    (c.in-Ok-Some.ensures.found ∙ ap (λ o. next_and_left (option_map instr_value o) (operators_left c.next.new.self)) read) c.in_ok-put_operator-in-Ok-Some.ensures
