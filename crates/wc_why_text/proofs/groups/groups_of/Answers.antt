use Rattle.std.proofs.Common.{◌≤◌, length, map, rules, subst, arith}
use Rattle.std.proofs.lemmas.List.{take_all}
use Rattle.wc_why_text.proofs.GroupLemmas.{group_more, group_none}
use Rattle.wc_why_text.specs.Groups.{IsGrouped}
use Rattle.wc_why.specs.Tree.{tree_way_view}
use Rattle.wc_why_text.proofs.groups.groups_of.Goals as goal

pub loop-position-init : goal.loop-position-init
loop-position-init c = group_none _ c.with_hasher-groups.ensures.empty

pub loop-position-preserved : goal.loop-position-preserved
loop-position-preserved c =
    group_more c.args.ways.now c.loop-position.position _ c.loop-position.groups.entries c.put_way.new.groups.entries (search rules)
    c.loop-position.invariant c.in_ok-put_way.ensures

pub returns : goal.returns
returns c =
    let end : length c.args.ways.now ≤ c.loop-position.position = omega (arith, c.loop-position-test.false) in
    subst (λ l. IsGrouped (map tree_way_view l) c.loop-position.groups.entries) (take_all c.loop-position.position c.args.ways.now end)
    c.loop-position.invariant
