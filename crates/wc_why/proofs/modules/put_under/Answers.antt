use Rattle.std.proofs.Common.{◌≡◌, ℕ, Some, ap, get_or, rules, ◌∙◌}
use Rattle.std.specs.declared.alloc.Global.{Global}
use Rattle.std.specs.declared.vec.Vec.{Vec}
use Rattle.wc_why.proofs.PositionLemmas.{group_was, put_under}
use Rattle.wc_why.proofs.ViewLemmas.{if_both}
use Rattle.wc_why.proofs.modules.put_under.Goals as goal

pub returns : goal.returns
returns c =
    let groups = c.args.groups.now.items in
    let p = c.args.«module» in
    let old = c.index_mut.result.now in
    let same : get_or groups p old ≡ old = search rules in
    if_both c.push_position.result (λ place at is.
    put_under groups p c.args.position c.push_position.new.group place c.requires old.items
    (group_was groups p old c.requires ∙ ap (λ (v : Vec ℕ Global). Some v.items) same) at is)
    c.push_position.ensures.count c.push_position.ensures.put
