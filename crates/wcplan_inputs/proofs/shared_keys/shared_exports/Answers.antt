use Rattle.std.proofs.Common.{◌≡◌, ◌++◌, IsTrue, map, rules, subst}
use Rattle.std.proofs.lemmas.Result.{err_from_is_err_and}
use Rattle.wc_maps.proofs.ListLemmas.{all_more}
use Rattle.wc_selection.specs.Keys.{named_key}
use Rattle.wcplan_inputs.specs.SharedKeys.{IsUnsharedKey, asked_key, is_shared, shared_pairs}
use Rattle.wcplan_inputs.specs.Private.SharedKeys.{exported_scope, names_view, own_pair}
use Rattle.wcplan_inputs.proofs.SharedKeyLemmas.{flat_more, unshared_at}
use Rattle.wcplan_inputs.proofs.shared_keys.shared_exports.Goals as goal

pub returns-in_err-push_shared-clause-fault : goal.returns-in_err-push_shared-clause-fault
returns-in_err-push_shared-clause-fault c =
    let s = exported_scope c.args.world in
    let x = names_view c.args.names.now in
    let f = c.in_err-push_shared.field-0.0 in
    let p = err_from_is_err_and c.from_residual.result c.from_residual.ensures.1 in
    rw (p.1, p.2) (λ other. unshared_at s x named_key c.args.world.keys.now c.loop-key.key-index c.key-item.result f (search rules) c.loop-key.invariant.1
    (subst (λ key. IsUnsharedKey x (asked_key s (named_key key)) f) c.key-item.is c.in_err-push_shared.ensures.fault))

pub loop-key-preserved : goal.loop-key-preserved
loop-key-preserved c =
    let s = exported_scope c.args.world in
    let x = names_view c.args.names.now in (
      flat_more (λ k. shared_pairs x (asked_key s k)) named_key c.args.world.keys.now c.loop-key.key-index c.key-item.result
          (map own_pair c.loop-key.pairs.items) (map own_pair c.push_shared.new.pairs.items) (search rules) c.loop-key.invariant.0
          (subst (λ key. map own_pair c.push_shared.new.pairs.items ≡ map own_pair c.loop-key.pairs.items ++ shared_pairs x (asked_key s (named_key key)))
          c.key-item.is c.in_ok-push_shared.ensures.pairs),
      all_more named_key (λ k. IsTrue (is_shared x (asked_key s k))) c.args.world.keys.now c.loop-key.key-index c.key-item.result (search rules)
          c.loop-key.invariant.1 (subst (λ key. IsTrue (is_shared x (asked_key s (named_key key)))) c.key-item.is c.in_ok-push_shared.ensures.shared),
    )
