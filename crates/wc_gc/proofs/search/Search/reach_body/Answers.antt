use Rattle.std.proofs.Common.{sym, ◌∙◌, [], ◌∷◌, Some, refl, inr}
use Rattle.std.specs.Option.{option_map}
use Rattle.wc_read.specs.Operators.{instr_value}
use Rattle.wc_read.specs.BodyOperators.{body_in, locals_read, operators_left}
use Rattle.wc_read.specs.Decoded.{decoded_module}
use Rattle.wc_gc.proofs.BodyCutLemmas.{cut_none, cut_more, cut_end}
use Rattle.wc_gc.proofs.ReachLemmas.{body_start, body_more, body_passed, body_end, body_in_range, body_out_of_range}
use Rattle.wc_gc.proofs.search.Search.reach_body.Goals as goal

pub loop-operators-init : goal.loop-operators-init
loop-operators-init g c = (
  body_start g.L.LiveSet.has (decoded_module c.args.adapter.now) (body_in c.args.bytes.now)
      (locals_read c.in_ok-operators.operators) c.args.self.now c.reach_locals.new.self (operators_left c.in_ok-operators.operators)
      c.in_ok-operators.ensures.body c.in_ok-reach_locals.ensures.found (sym c.in_ok-reach_locals.ensures.there ∙ c.if-not-branch.false),
  λ kept. ((c.begin.ensures kept).1, cut_none c.begin.new.self.stretches.items (operators_left c.in_ok-operators.operators) (c.begin.ensures kept).0),
)

pub loop-operators-preserved : goal.loop-operators-preserved
loop-operators-preserved g c =
    let p = rw c.in-Some.is at c.in_ok-instr.ensures.found in
    let q = rw c.in-Some.is at c.in_ok-instr.ensures.cut in (
      body_more g.L.LiveSet.has (decoded_module c.args.adapter.now) (body_in c.args.bytes.now)
          (locals_read c.in_ok-operators.operators) c.args.self.now c.loop-operators.self c.reach_operator.new.self
          (option_map (λ is. instr_value c.in-Some.instr ∷ is) (operators_left c.next_unknown.new.operators)) (operators_left c.next_unknown.new.operators)
          (instr_value c.in-Some.instr)
          (body_passed g.L.LiveSet.has (decoded_module c.args.adapter.now) (body_in c.args.bytes.now)
          (locals_read c.in_ok-operators.operators) c.args.self.now c.loop-operators.self
          (operators_left c.loop-operators.operators) _ p.0 c.loop-operators.invariant.0 p.2 p.1) refl
          c.in_ok-is_operator_in_range.ensures.found (sym c.in_ok-is_operator_in_range.ensures.in_range ∙ c.if-not-is_operator_in_range.false),
      λ kept. cut_more c.loop-operators.cut c.next_unknown.new.cut c.push.new.self (operators_left c.in_ok-operators.operators) (operators_left c.loop-operators.operators)
          (operators_left c.next_unknown.new.operators) (instr_value c.in-Some.instr) c.loop-operators.invariant.1 q c.in_ok-push.ensures kept,
    )

pub returns-then-not-is_operator_in_range-clause-fault : goal.returns-then-not-is_operator_in_range-clause-fault
returns-then-not-is_operator_in_range-clause-fault g c =
    let p = rw c.in-Some.is at c.in_ok-instr.ensures.found in
    let unsound = body_out_of_range g.L.LiveSet.has (decoded_module c.args.adapter.now) (body_in c.args.bytes.now)
    (locals_read c.in_ok-operators.operators) c.args.self.now c.loop-operators.self
    (option_map (λ is. instr_value c.in-Some.instr ∷ is) (operators_left c.next_unknown.new.operators))
    (operators_left c.next_unknown.new.operators) (instr_value c.in-Some.instr)
    (body_passed g.L.LiveSet.has (decoded_module c.args.adapter.now) (body_in c.args.bytes.now)
    (locals_read c.in_ok-operators.operators) c.args.self.now c.loop-operators.self
    (operators_left c.loop-operators.operators) _ p.0 c.loop-operators.invariant.0 p.2 p.1) refl
    (sym c.in_ok-is_operator_in_range.ensures.in_range ∙ c.if-not-is_operator_in_range.true) in
    inr (refl, unsound)

pub returns-clause-found : goal.returns-clause-found
returns-clause-found g c =
    let p = rw c.in_default.is at c.in_ok-instr.ensures.found in
    body_end g.L.LiveSet.has (decoded_module c.args.adapter.now) (body_in c.args.bytes.now)
    (locals_read c.in_ok-operators.operators) c.args.self.now c.loop-operators.self (Some [])
    (body_passed g.L.LiveSet.has (decoded_module c.args.adapter.now) (body_in c.args.bytes.now)
    (locals_read c.in_ok-operators.operators) c.args.self.now c.loop-operators.self (operators_left c.loop-operators.operators)
    (Some []) p.0 c.loop-operators.invariant.0 p.2 p.1) refl

pub returns-clause-in_range : goal.returns-clause-in_range
returns-clause-in_range g c =
    let p = rw c.in_default.is at c.in_ok-instr.ensures.found in
    λ _. body_in_range g.L.LiveSet.has (decoded_module c.args.adapter.now) (body_in c.args.bytes.now)
    (locals_read c.in_ok-operators.operators) c.args.self.now c.loop-operators.self (Some [])
    (body_passed g.L.LiveSet.has (decoded_module c.args.adapter.now) (body_in c.args.bytes.now)
    (locals_read c.in_ok-operators.operators) c.args.self.now c.loop-operators.self (operators_left c.loop-operators.operators)
    (Some []) p.0 c.loop-operators.invariant.0 p.2 p.1) refl

pub returns-clause-cut : goal.returns-clause-cut
returns-clause-cut g c =
    let q = rw c.in_default.is at c.in_ok-instr.ensures.cut in
    λ _. cut_end c.loop-operators.cut c.next_unknown.new.cut c.end.new.self (locals_read c.in_ok-operators.operators) (body_in c.args.bytes.now)
    (operators_left c.in_ok-operators.operators) (operators_left c.loop-operators.operators) c.in_ok-operators.ensures.body c.loop-operators.invariant.1 q c.in_ok-end.ensures
