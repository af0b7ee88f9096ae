use Rattle.std.proofs.Common.{◌≡◌, ◌<◌, length, None, OnOk, sym, ap, subst, rules, ◌∙◌}
use Rattle.std.specs.Vec.{vec_len}
use Rattle.indexmap.specs.IndexMap.{insert_entry}
use Rattle.wc_maps.specs.OrderedMap.{first_position}
use Rattle.wc_maps.proofs.OrderedMapLemmas.{position_within, positions_stay, replaced, put_last}
use Rattle.wc_maps.proofs.ordered_map.OrderedMap.insert.Goals as goal

pub index_mut-requires : goal.index_mut-requires
index_mut-requires g c =
    let many : length c.self.inside.entries.items ≡ vec_len c.self.inside.entries = search rules in
    subst (λ n. c.in-Some.position < n) many
    (position_within (g.K.PartialEq.eq c.args.key) c.self.inside.entries.items c.in-Some.position
    (sym (c.self.invariant c.args.key) ∙ sym c.get.ensures.value ∙ sym c.copied-position.ensures ∙ c.in-Some.is))

pub invariant_of-self : goal.invariant_of-self
invariant_of-self g c = λ q.
    c.self.invariant q ∙ positions_stay (g.K.PartialEq.eq q) c.self.inside.entries.items c.in-Some.position c.index_mut.result.now c.args.value c.index_mut.ensures.value

pub returns-in-Some-clause-entries : goal.returns-in-Some-clause-entries
returns-in-Some-clause-entries g c =
    replaced g.K.PartialEq.eq c.self.inside.entries.items c.args.key c.in-Some.position c.index_mut.result.now c.args.value
    (sym (c.self.invariant c.args.key) ∙ sym c.get.ensures.value ∙ sym c.copied-position.ensures ∙ c.in-Some.is) c.index_mut.ensures.value
    ∙ ap (λ es. insert_entry g.K.PartialEq.eq es c.args.key c.args.value) (search rules)

pub returns-in-None-clause-entries : goal.returns-in-None-clause-entries
returns-in-None-clause-entries g c =
    let none : first_position (g.K.PartialEq.eq c.args.key) c.self.inside.entries.items ≡ None = sym (c.self.invariant c.args.key) ∙ sym c.get.ensures.value ∙ sym c.copied-position.ensures ∙ c.in-None.is in
    subst (λ es. OnOk c.push.result (c.push.new.self.entries ≡ es)) (put_last g.K.PartialEq.eq c.args.self.now.entries c.args.key c.args.value (subst (λ es. first_position (g.K.PartialEq.eq c.args.key) es ≡ None) (search rules) none)) c.push.ensures.entries
