use Rattle.std.proofs.Common.{◌≡◌, ◌++◌, ◌∷◌, [], length, map, take, replicate, rules, ap, ◌∙◌}
use Rattle.wc_why.specs.Part.{part_view}
use Rattle.wc_why.proofs.NumberLemmas.{numbers_next, started}
use Rattle.wc_why.proofs.numbers.Numbers.of.Goals as goal

pub loop-position-preserved : goal.loop-position-preserved
loop-position-preserved c =
    let begins : c.push.new.self.items ≡ c.loop-position.starts.items ++ length c.loop-position.owners.items ∷ [] = search rules in
    let own : c.in_ok-own.own.items ≡ replicate (length c.index-parts-position.result.rows.now.closed.items) c.loop-position.position = search rules in
    numbers_next c.args.parts.now c.loop-position.position c.loop-position.starts.items c.loop-position.owners.items c.loop-position.invariant
    c.index-parts-position.result c.loop-position-test.true c.index-parts-position.is c.push.new.self.items c.extend_from_slice.new.self.items begins
    (c.in_ok-extend_from_slice.ensures.items ∙ ap (λ l. c.loop-position.owners.items ++ l) (c.deref.ensures.value ∙ own))

pub invariant_of-result : goal.invariant_of-result
invariant_of-result c = record {
  within = started (take c.loop-position.position (map part_view c.args.parts.now)) c.loop-position.starts.items c.loop-position.owners.items c.loop-position.invariant;
}
