use Rattle.std.proofs.Common.{◌≡◌, ◌∙◌, ap, map, rules, subst, sym}
use Rattle.std.proofs.lemmas.List.{take_all}
use Rattle.wc_selection.proofs.KeyNameLemmas.{texted_apart}
use Rattle.wc_selection.proofs.key_names.keys_found.Goals as goal
use Rattle.wc_selection.specs.Keys.{AreKeysApart, named_key}
use Rattle.wc_selection.specs.KeyTexts.{keys_found, text_found}
use Rattle.wc_maps.specs.Texts.{text_of}

pub returns-clause-differ : goal.returns-clause-differ
returns-clause-differ c =
    let given = map text_of c.args.given.now.keys in
    let own = map text_of c.args.own.now.keys in
    let short = c.args.short.now.entries in
    let all = map named_key c.args.keys.now in
    let made : map named_key c.loop-key.named.items ≡ keys_found given own short all =
    c.loop-key.invariant ∙ ap (λ l. keys_found given own short (map named_key l)) (take_all c.loop-key.key-index c.args.keys.now (search rules)) in
    subst AreKeysApart (sym made) (texted_apart (text_found given own short) all c.requires)
