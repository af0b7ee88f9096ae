use Rattle.std.proofs.Common.{String, [], ◌∷◌, ◌∙◌, map, ap}
use Rattle.std.specs.declared.alloc.Global.{Global}
use Rattle.std.proofs.lemmas.List.{map-append}
use Rattle.wc_resolve.specs.declared.ids.TypeId.{TypeId}
use Rattle.wc_resolve.specs.Roots.{id_index}
use Rattle.wc_resolve.proofs.PushedLemmas.{push_step}
use Rattle.wc_resolve.proofs.roots.push_types.Goals as goal

pub loop-name-preserved : goal.loop-name-preserved
loop-name-preserved c =
    push_step (λ (e : String Global × TypeId). e.1.0 ∷ []) c.args.interface.now.types.entries c.loop-name._name-iterator c.next.new.self (c.in-Some._name.now, c.in-Some.id.now) (map id_index c.args.roots.now.items) (map id_index c.loop-name.roots.items) (map id_index c.push.new.self.items)
    c.loop-name.invariant c.in-Some.ensures.steps (ap (map id_index) c.in_ok-push.ensures.items ∙ map-append id_index c.loop-name.roots.items (c.in-Some.id.now ∷ []))
