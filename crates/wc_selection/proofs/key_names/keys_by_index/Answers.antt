use Rattle.std.proofs.Common.{◌≡◌, IfOk, map, subst}
use Rattle.wc_selection.proofs.KeyTextLemmas.{indexed_same}
use Rattle.wc_selection.proofs.key_names.keys_by_index.Goals as goal
use Rattle.wc_selection.specs.Keys.{named_key}
use Rattle.wc_maps.specs.Texts.{text_of}

pub returns-clause-keys : goal.returns-clause-keys
returns-clause-keys c =
    subst (λ keys. IfOk c.indexed_in.result (λ v. map named_key v.items ≡ keys))
    (indexed_same (map text_of c.args.given.now) (map text_of c.in_ok-set.set.keys) c.in_ok-set.ensures (map named_key c.args.keys.now))
    c.indexed_in.ensures.keys
