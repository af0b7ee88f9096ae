use Rattle.std.proofs.Common.{◌∙◌, [], ◌∷◌, String, Global}
use Rattle.wc_resolve.specs.declared.ids.TypeId.{TypeId}
use Rattle.wc_ways.proofs.NeedLemmas.{finds_end, finds_next, finds_start}
use Rattle.wc_ways.proofs.needs.note_types.Goals as goal

pub loop-name-init : goal.loop-name-init
loop-name-init c =
    finds_start c.args.needing.now (λ (e : String Global × TypeId). e.1.0 ∷ []) c.args.types.now.entries c.args.found.now _ (c.into_iter-name-iterator.ensures.into_iter_gives ∙ c.iter-name-items.ensures.rest)

pub loop-name-preserved : goal.loop-name-preserved
loop-name-preserved c =
    finds_next c.args.needing.now (λ (e : String Global × TypeId). e.1.0 ∷ []) c.args.types.now.entries c.args.found.now c.loop-name._name-iterator c.next.new.self (c.in-Some._name.now, c.in-Some.id.now) c.loop-name.found
    c.note_type.new.found c.in-Some.ensures.steps c.in_ok-note_type.ensures c.loop-name.invariant

pub returns : goal.returns
returns c =
    finds_end c.args.needing.now (λ (e : String Global × TypeId). e.1.0 ∷ []) c.args.types.now.entries c.args.found.now c.loop-name._name-iterator c.loop-name.found c.in-None.ensures.steps.0
    c.loop-name.invariant
