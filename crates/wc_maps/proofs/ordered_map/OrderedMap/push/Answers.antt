use Rattle.std.proofs.Common.{◌≡◌, ℕ, cond, [], ◌∷◌, ◌++◌, length, Some, sym, ap, subst, rules, ◌∙◌}
use Rattle.std.specs.Ordering.{is_eq}
use Rattle.std.specs.Vec.{vec_len}
use Rattle.std.specs.BTreeMap.{get}
use Rattle.wc_maps.specs.OrderedMap.{ArePositions}
use Rattle.wc_maps.proofs.OrderedMapLemmas.{positions_more}
use Rattle.wc_maps.proofs.ordered_map.OrderedMap.push.Goals as goal

pub invariant_of-self-2 : goal.invariant_of-self-2
invariant_of-self-2 g c =
    let items : c.push_reserved.new.self.items ≡ c.self.inside.entries.items ++ (c.args.key, c.args.value) ∷ [] = c.push_reserved.ensures.items ∙ ap (λ xs. xs ++ (c.args.key, c.args.value) ∷ []) c.reserve.ensures.items in
    let many : vec_len c.reserve.new.self ≡ length c.reserve.new.self.items = search rules in
    let position : c.len.result ≡ length c.self.inside.entries.items = c.len.ensures ∙ many ∙ ap length c.reserve.ensures.items in
    subst (ArePositions g.K.PartialEq.eq g.K.Ord.cmp c.insert.new.self) (sym items)
    (positions_more g.met.K.Ord.total g.met.K.Ord.matches_eq c.self.inside.positions c.insert.new.self c.self.inside.entries.items c.args.key c.args.value c.self.invariant
    (search rules)
    (subst (λ (n : ℕ). (q : g.row.K.Denot) → get g.K.Ord.cmp c.insert.new.self q ≡ cond (is_eq (g.K.Ord.cmp c.args.key q)) (Some n) (get g.K.Ord.cmp c.self.inside.positions q)) position c.in_ok-insert.ensures.updates.0))
