use Rattle.std.proofs.Common.{◌≡◌, List, Option, None, subst, sym, refl, true}
use Rattle.std.specs.Prelude.{IfOk, MatchOption}
use Rattle.wc_read.specs.Bodies.{BodyValue, body_value}
use Rattle.wc_read.specs.Operators.{instr_values}
use Rattle.wc_read.specs.declared.operators.Instr.{Instr}
use Rattle.wc_read.proofs.DecodingLemmas.{body_found, body_missing}
use Rattle.wc_read.specs.Decoded.{decoded_module}
use Rattle.wc_gc.specs.InRange.{is_code_in_range}
use Rattle.wc_gc.specs.TrimPlace.{IsFirstOutside, IsOperatorPlace}
use Rattle.wc_gc.proofs.trim_place.bodies.outside_in_body.Goals as goal

pub returns-in-Ok : goal.returns-in-Ok
returns-in-Ok c =
    let m = decoded_module c.args.adapter.now in
    subst (λ (z : Option BodyValue). IfOk c.first_outside.result (IsOperatorPlace m z)) (sym (body_found c.args.bytes.now (body_value c.in-Ok.body) c.in-Ok.ensures.found))
    (subst (λ (z : List Instr). IfOk c.first_outside.result (λ k. MatchOption k (is_code_in_range m (instr_values z) ≡ true) (IsFirstOutside m (instr_values z))))
    c.deref.ensures.value c.first_outside.ensures)

pub returns-in_default : goal.returns-in_default
returns-in_default c =
    subst (λ (z : Option BodyValue). IsOperatorPlace (decoded_module c.args.adapter.now) z None)
    (sym (body_missing c.args.bytes.now (c.in-Err.ensures.refused (λ e. c.in_default.not-Memory e)))) refl
