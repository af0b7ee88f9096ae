use Rattle.std.proofs.Common.{◌∙◌, arith}
use Rattle.wc_json.specs.declared.fault.Problem.TheVariants.{NotOneMember}
use Rattle.wc_json.proofs.FaultLemmas.{IsFaultOf_refusal}
use Rattle.wc_json.proofs.MemberLemmas.{name_and_value-not_one, name_and_value-one, only_member-value_view}
use Rattle.wc_json.proofs.members.only_member.Goals as goal

pub returns-then-len-ne1-clause-reads : goal.returns-then-len-ne1-clause-reads
returns-then-len-ne1-clause-reads c =
    let members = c.in-Object.members in
    IsFaultOf_refusal c.fault_here-then-len-ne1.result _ NotOneMember
    (only_member-value_view c.args.value.now members c.in-Object.is
    ∙ name_and_value-not_one members.items (λ one. c.if-len-ne1.true (omega (arith, one, c.len.ensures, members.ok.0))))
    c.fault_here-then-len-ne1.ensures.fault

pub returns-clause-reads : goal.returns-clause-reads
returns-clause-reads c =
    let members = c.in-Object.members in
    only_member-value_view c.args.value.now members c.in-Object.is
    ∙ name_and_value-one members.items c.index.result.now (omega (arith, c.if-len-ne1.false, c.len.ensures, members.ok.0)) c.index.ensures
