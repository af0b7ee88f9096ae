use Rattle.std.proofs.Common.{String, [], ◌∷◌, ◌++◌, ◌∙◌, map, refl, sym, ap, append-nil, rules}
use Rattle.std.specs.Option.{option_to_list}
use Rattle.std.specs.declared.alloc.Global.{Global}
use Rattle.std.proofs.lemmas.List.{map-append}
use Rattle.wc_resolve.specs.declared.ids.TypeId.{TypeId}
use Rattle.wc_resolve.specs.Views.{interface_view}
use Rattle.wc_resolve.specs.Dependencies.{dependency, id_of_interface}
use Rattle.wc_resolve.proofs.AliasLemmas.{dependencies_end, entry_within}
use Rattle.wc_resolve.proofs.PushedLemmas.{push_step}
use Rattle.wc_resolve.proofs.resolve.Resolve.push_dependencies.Goals as goal

pub dependency-requires : goal.dependency-requires
dependency-requires c = entry_within c.args.self.now (interface_view c.args.interface.now) (λ (e : String Global × TypeId). option_to_list (dependency c.args.self.now c.args.id.0 e.1.0)) c.args.interface.now.types.entries c.loop-name._name-iterator c.next.new.self (c.in-Some._name.now, c.in-Some.ty.now) (map id_of_interface c.args.owners.now.items) (map id_of_interface c.loop-name.owners.items) c.requires refl c.loop-name.invariant c.in-Some.ensures.steps

pub loop-name-preserved-in-Continue-1 : goal.loop-name-preserved-in-Continue-1
loop-name-preserved-in-Continue-1 c =
    push_step (λ (e : String Global × TypeId). option_to_list (dependency c.args.self.now c.args.id.0 e.1.0)) c.args.interface.now.types.entries c.loop-name._name-iterator c.next.new.self (c.in-Some._name.now, c.in-Some.ty.now) (map id_of_interface c.args.owners.now.items) (map id_of_interface c.loop-name.owners.items) (map id_of_interface c.push.new.self.items) c.loop-name.invariant c.in-Some.ensures.steps
    (ap (map id_of_interface) c.in_ok-push.ensures.items ∙ map-append id_of_interface c.loop-name.owners.items (c.in-Some-dependency.owner ∷ []) ∙ ap (λ z. (map id_of_interface c.loop-name.owners.items) ++ option_to_list z) c.in-Some-dependency.ensures)

pub loop-name-preserved : goal.loop-name-preserved
loop-name-preserved c =
    push_step (λ (e : String Global × TypeId). option_to_list (dependency c.args.self.now c.args.id.0 e.1.0)) c.args.interface.now.types.entries c.loop-name._name-iterator c.next.new.self (c.in-Some._name.now, c.in-Some.ty.now) (map id_of_interface c.args.owners.now.items) (map id_of_interface c.loop-name.owners.items) (map id_of_interface c.loop-name.owners.items) c.loop-name.invariant c.in-Some.ensures.steps
    (sym (append-nil (map id_of_interface c.loop-name.owners.items)) ∙ ap (λ z. (map id_of_interface c.loop-name.owners.items) ++ option_to_list z) c.in_default.ensures)

pub returns : goal.returns
returns c =
    dependencies_end c.args.self.now c.args.id.0 (interface_view c.args.interface.now) c.args.interface.now.types.entries c.loop-name._name-iterator (map id_of_interface c.args.owners.now.items) (map id_of_interface c.loop-name.owners.items) refl c.loop-name.invariant (let none = c.in-None.ensures.steps in search (rules, none))
