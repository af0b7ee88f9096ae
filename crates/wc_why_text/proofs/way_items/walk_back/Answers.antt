use Rattle.std.proofs.Common.{◌≡◌, ◌<◌, ◌≤◌, arith, false, map, rules, true}
use Rattle.wc_why.specs.Tree.{tree_module_view}
use Rattle.wc_why_text.specs.Runs.{is_among}
use Rattle.wc_why_text.specs.TreeLines.{most_items}
use Rattle.wc_why_text.proofs.WayItemLemmas.{begun_new, begun_shared, past_new, past_shared, seen_new, seen_shared, walked_more, walked_none}
use Rattle.wc_why_text.proofs.way_items.walk_back.Goals as goal

pub loop-init : goal.loop-init
loop-init c = walked_none _ _ _ _ _ c.new-items.ensures.items

pub loop-preserved : goal.loop-preserved
loop-preserved c =
    let within : c.loop.counter < most_items (map tree_module_view c.args.modules.now) c.args.end.0 = omega (arith, c.loop-test.true, c.most_items-most.ensures) in
    let unseen : is_among c.args.above.now.keys c.in-Some.item ≡ false = search rules in
    walked_more _ _ _ _ c.loop.counter c.loop.items.items c.push.new.self.items c.in-Some.item c.before-next.result within (rw c.in-Some.is at c.loop.invariant)
    unseen c.in_ok-push-in-Some.ensures.items c.before-next.ensures

pub returns-then-contains-clause-items : goal.returns-then-contains-clause-items
returns-then-contains-clause-items c =
    let within : c.loop.counter < most_items (map tree_module_view c.args.modules.now) c.args.end.0 = omega (arith, c.loop-test.true, c.most_items-most.ensures) in
    let seen : is_among c.args.above.now.keys c.in-Some.item ≡ true = search rules in
    seen_new _ _ _ _ c.loop.counter c.loop.items.items c.in-Some.item within (rw c.in-Some.is at c.loop.invariant) seen

pub returns-then-contains-clause-shared : goal.returns-then-contains-clause-shared
returns-then-contains-clause-shared c =
    let within : c.loop.counter < most_items (map tree_module_view c.args.modules.now) c.args.end.0 = omega (arith, c.loop-test.true, c.most_items-most.ensures) in
    let seen : is_among c.args.above.now.keys c.in-Some.item ≡ true = search rules in
    seen_shared _ _ _ _ c.loop.counter c.loop.items.items c.in-Some.item within (rw c.in-Some.is at c.loop.invariant) seen

pub returns-in-None-clause-items : goal.returns-in-None-clause-items
returns-in-None-clause-items c = begun_new _ _ _ _ c.loop.counter c.loop.items.items (rw c.in-None.is at c.loop.invariant)

pub returns-in-None-clause-shared : goal.returns-in-None-clause-shared
returns-in-None-clause-shared c = begun_shared _ _ _ _ c.loop.counter c.loop.items.items (rw c.in-None.is at c.loop.invariant)

pub returns-clause-items : goal.returns-clause-items
returns-clause-items c =
    let past : most_items (map tree_module_view c.args.modules.now) c.args.end.0 ≤ c.loop.counter = omega (arith, c.loop-test.false, c.most_items-most.ensures) in
    past_new _ _ _ _ c.loop.counter c.loop.items.items c.loop.next past c.loop.invariant

pub returns-clause-shared : goal.returns-clause-shared
returns-clause-shared c =
    let past : most_items (map tree_module_view c.args.modules.now) c.args.end.0 ≤ c.loop.counter = omega (arith, c.loop-test.false, c.most_items-most.ensures) in
    past_shared _ _ _ _ c.loop.counter c.loop.items.items c.loop.next past c.loop.invariant
