use Rattle.std.proofs.Common.{List, Option, sym, subst, refl}
use Rattle.std.specs.Prelude.{OnOk}
use Rattle.wc_read.specs.Bodies.{BodyValue, body_value}
use Rattle.wc_read.specs.Operators.{instr_values}
use Rattle.wc_read.specs.declared.operators.Instr.{Instr}
use Rattle.wc_read.proofs.DecodingLemmas.{body_found, body_missing}
use Rattle.wc_paths.specs.Private.CallLists.{ListsUnder, has_call, have_call}
use Rattle.wc_paths.proofs.call_lists.list_body.Goals as goal

pub returns-in-Ok : goal.returns-in-Ok
returns-in-Ok c =
    let firsts = c.args.firsts.now in
    let old = c.args.lists.now.entries in
    let new = c.list_calls.new.lists.entries in
    subst (λ (z : Option BodyValue). OnOk c.list_calls.result (ListsUnder (λ q. has_call firsts q z) c.args.function old new))
    (sym (body_found c.args.bytes.now (body_value c.in-Ok.body) c.in-Ok.ensures.found))
    (subst (λ (z : List Instr). OnOk c.list_calls.result (ListsUnder (λ q. have_call firsts q (instr_values z)) c.args.function old new))
    c.deref.ensures.value c.list_calls.ensures)

pub returns-in_default : goal.returns-in_default
returns-in_default c =
    let firsts = c.args.firsts.now in
    let old = c.args.lists.now.entries in
    subst (λ (z : Option BodyValue). ListsUnder (λ q. has_call firsts q z) c.args.function old old)
    (sym (body_missing c.args.bytes.now (c.in-Err.ensures.refused (λ e. c.in_default.not-Memory e)))) (λ q. refl)
