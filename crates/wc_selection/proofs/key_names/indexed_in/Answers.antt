use Rattle.std.proofs.Common.{◌≡◌, ◌∙◌, ap, map, rules, subst, sym}
use Rattle.std.proofs.lemmas.List.{take_all}
use Rattle.wc_selection.proofs.KeyNameLemmas.{texted_apart}
use Rattle.wc_selection.proofs.key_names.indexed_in.Goals as goal
use Rattle.wc_selection.specs.KeyNames.{keys_by_index, text_or_index}
use Rattle.wc_selection.specs.Keys.{AreKeysApart, named_key}
use Rattle.wc_maps.specs.Texts.{text_of}

pub returns-clause-differ : goal.returns-clause-differ
returns-clause-differ c =
    let given = map text_of c.args.given.now.keys in
    let all = map named_key c.args.keys.now in
    let made : map named_key c.loop-key.named.items ≡ keys_by_index given all =
    c.loop-key.invariant ∙ ap (λ l. keys_by_index given (map named_key l)) (take_all c.loop-key.key-index c.args.keys.now (search rules)) in
    subst AreKeysApart (sym made) (texted_apart (text_or_index given) all c.requires)
