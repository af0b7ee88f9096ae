use Rattle.std.proofs.Common.{◌||◌, ◌∙◌, ap, map, sym}
use Rattle.std.specs.List.{list_any}
use Rattle.wc_resolve.specs.Views.{world_entry}
use Rattle.wc_ways.specs.Ways.{is_asked_type}
use Rattle.wc_ways.proofs.ways.is_own_type.Goals as goal

pub loop-name-init : goal.loop-name-init
loop-name-init c =
    let is = ap (map world_entry) c.into_iter-name-iterator.ensures.into_iter_gives in
    let all = ap (map world_entry) c.iter-name-items.ensures.rest in
    ap (list_any (is_asked_type c.args.key.now)) (sym (is ∙ all))

pub returns-then-is_asked_type : goal.returns-then-is_asked_type
returns-then-is_asked_type c =
    let f = is_asked_type c.args.key.now in
    sym (c.loop-name.invariant ∙ (ap (λ z. list_any f (map world_entry z)) c.in-Some.ensures.steps
    ∙ ap (λ b. b || list_any f (map world_entry c.next.new.self)) (sym c.is_asked_type.ensures ∙ c.if-is_asked_type.true)))

pub loop-name-preserved : goal.loop-name-preserved
loop-name-preserved c =
    let f = is_asked_type c.args.key.now in
    c.loop-name.invariant ∙ (ap (λ z. list_any f (map world_entry z)) c.in-Some.ensures.steps
    ∙ ap (λ b. b || list_any f (map world_entry c.next.new.self)) (sym c.is_asked_type.ensures ∙ c.if-is_asked_type.false))

pub returns : goal.returns
returns c = sym (c.loop-name.invariant ∙ ap (λ z. list_any (is_asked_type c.args.key.now) (map world_entry z)) c.in-None.ensures.steps.0)
