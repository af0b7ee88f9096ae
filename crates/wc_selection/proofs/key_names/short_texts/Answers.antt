use Rattle.std.proofs.Common.{◌+◌, ◌++◌, ◌∷◌, ◌≡◌, ◌∙◌, [], List, String, Global, ap, map, not, take, rules, subst, sym}
use Rattle.std.proofs.lemmas.List.{take_all}
use Rattle.wc_resolve.specs.declared.worlds.WorldKey.{WorldKey}
use Rattle.wc_selection.proofs.KeyTextLemmas.{single_more}
use Rattle.wc_maps.proofs.ListLemmas.{passed_more}
use Rattle.wc_selection.proofs.key_names.short_texts.Goals as goal
use Rattle.wc_selection.specs.Keys.{named_key}
use Rattle.wc_selection.specs.KeyTexts.{HasSingles}

pub loop-key-preserved : goal.loop-key-preserved
loop-key-preserved c =
    let keys = c.args.keys.now in
    let index = c.loop-key.key-index in
    let next : map named_key (take (index + 1) keys) ≡ map named_key (take index keys) ++ named_key c.key-item.result ∷ [] =
    passed_more named_key keys index c.key-item.result (search rules)
    ∙ ap (λ (z : WorldKey × String Global). map named_key (take index keys) ++ named_key z ∷ []) (sym c.key-item.is) in
    single_more (map named_key (take index keys)) (map named_key (take (index + 1) keys)) (named_key c.key-item.result) c.loop-key.short.entries
    c.insert.new.self.entries c.unversioned-text.result (not c.contains_key-is_first.result) next c.unversioned-text.ensures (ap not c.contains_key-is_first.ensures)
    c.in_ok-insert.ensures.updates.0 c.loop-key.invariant

pub returns : goal.returns
returns c =
    subst (λ (l : List (WorldKey × String Global)). HasSingles (map named_key l) c.loop-key.short.entries)
    (take_all c.loop-key.key-index c.args.keys.now (search rules)) c.loop-key.invariant
