use Rattle.std.proofs.Common.{◌≡◌, IfOk, map, subst}
use Rattle.wc_selection.proofs.KeyTextLemmas.{found_given}
use Rattle.wc_selection.proofs.key_names.keys_as_given.Goals as goal
use Rattle.wc_selection.specs.Keys.{named_key}
use Rattle.wc_maps.specs.Texts.{text_of}

pub returns-clause-keys : goal.returns-clause-keys
returns-clause-keys c =
    subst (λ keys. IfOk c.keys_found.result (λ v. map named_key v.items ≡ keys))
    (found_given (map text_of c.args.given.now) (map text_of c.in_ok-set.set.keys) (map text_of c.in_ok-own.own.keys) (map named_key c.args.keys.now)
    c.in_ok-short.short.entries c.in_ok-set.ensures c.in_ok-own.ensures c.in_ok-short.ensures) c.keys_found.ensures.keys
