use Rattle.std.proofs.Common.{◌≡◌, ◌<◌, length, sym, ap, subst, rules, ◌∙◌}
use Rattle.std.specs.Vec.{vec_len}
use Rattle.std.specs.Map.{lookup}
use Rattle.wc_maps.proofs.OrderedMapLemmas.{position_within, value_at_position, no_value}
use Rattle.wc_maps.proofs.ordered_map.OrderedMap.get.Goals as goal

pub index-requires : goal.index-requires
index-requires g c =
    let many : length c.self.inside.entries.items ≡ vec_len c.self.inside.entries = search rules in
    subst (λ n. c.in-Some.position.now < n) many
    (position_within (g.K.PartialEq.eq c.args.key.now) c.self.inside.entries.items c.in-Some.position.now
    (sym (c.self.invariant c.args.key.now) ∙ sym c.in-Some.ensures.value))

pub returns-in-Some : goal.returns-in-Some
returns-in-Some g c =
    value_at_position (g.K.PartialEq.eq c.args.key.now) c.self.inside.entries.items c.in-Some.position.now c.index.result.now
    (sym (c.self.invariant c.args.key.now) ∙ sym c.in-Some.ensures.value) c.index.ensures
    ∙ ap (lookup (g.K.PartialEq.eq c.args.key.now)) (search rules)

pub returns-in-None : goal.returns-in-None
returns-in-None g c =
    no_value (g.K.PartialEq.eq c.args.key.now) c.self.inside.entries.items
    (sym (c.self.invariant c.args.key.now) ∙ sym c.in-None.ensures.value)
    ∙ ap (lookup (g.K.PartialEq.eq c.args.key.now)) (search rules)
