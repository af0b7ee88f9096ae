use Rattle.std.proofs.Common.{◌∙◌, ap, is_some}
use Rattle.std.specs.Map.{lookup}
use Rattle.wc_resolve.specs.Views.{key_view}
use Rattle.wc_resolve.specs.contracts.worlds.WorldKeyPartialEq.TheImpl.{eq-value as world_key_eq}
use Rattle.wc_names.specs.Keys.{key_eq}
use Rattle.wc_validate.specs.FirstByKey.{under_key}
use Rattle.wc_validate.specs.FirstPositions.{kept_position}
use Rattle.wc_validate.proofs.FirstByKeyLemmas.{key_test, keys_law, keys_turned, position_added, position_stays}
use Rattle.wc_names.proofs.KeyLemmas.{keys_viewed as keys_agree}
use Rattle.wc_validate.proofs.first_by_key.keep_key.Goals as goal

pub returns-then-contains_key : goal.returns-then-contains_key
returns-then-contains_key c = λ asked.
    position_stays key_eq keys_law key_view c.args.keys.now.entries c.args.position (key_view c.args.key.now) asked c.contains_key.result
    (c.contains_key.ensures ∙ ap (λ z. is_some (lookup z c.args.keys.now.entries)) (key_test c.args.key.now)) c.if-contains_key.true
    ∙ ap (λ z. kept_position (under_key c.args.keys.now.entries asked) z c.args.position) (keys_turned asked (key_view c.args.key.now))

pub returns : goal.returns
returns c = λ asked.
    position_added key_eq keys_law key_view world_key_eq.it keys_agree c.args.keys.now.entries c.insert.new.self.entries c.in_ok-clone.field-0 c.args.position
    (key_view c.args.key.now) asked c.contains_key.result
    c.in_ok-insert.ensures.entries c.in_ok-clone.ensures (c.contains_key.ensures ∙ ap (λ z. is_some (lookup z c.args.keys.now.entries))
    (key_test c.args.key.now)) c.if-contains_key.false
    ∙ ap (λ z. kept_position (under_key c.args.keys.now.entries asked) z c.args.position) (keys_turned asked (key_view c.args.key.now))
