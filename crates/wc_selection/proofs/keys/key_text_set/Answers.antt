use Rattle.std.proofs.Common.{◌+◌, List, String, Global, map, take, rules, subst}
use Rattle.std.proofs.lemmas.List.{take_all}
use Rattle.wc_resolve.specs.declared.worlds.WorldKey.{WorldKey}
use Rattle.wc_selection.proofs.KeyTextLemmas.{texts_more}
use Rattle.wc_maps.proofs.SetLemmas.{set_more}
use Rattle.wc_selection.proofs.keys.key_text_set.Goals as goal
use Rattle.wc_selection.specs.Keys.{named_key, texts_of}
use Rattle.wc_maps.specs.Texts.{HasTexts, text_of}

pub loop-key-preserved : goal.loop-key-preserved
loop-key-preserved c =
    set_more (texts_of (map named_key (take c.loop-key.key-index c.args.keys.now)))
    (texts_of (map named_key (take (c.loop-key.key-index + 1) c.args.keys.now))) c.loop-key.set.keys c.insert.new.self.keys c.as_str.result
    (texts_more c.args.keys.now c.loop-key.key-index c.key-item.result c.as_str.result (search rules) c.key-item.is c.as_str.ensures.value)
    c.in_ok-insert.ensures.keys c.loop-key.invariant

pub returns : goal.returns
returns c =
    subst (λ (l : List (WorldKey × String Global)). HasTexts (texts_of (map named_key l)) (map text_of c.loop-key.set.keys))
    (take_all c.loop-key.key-index c.args.keys.now (search rules)) c.loop-key.invariant
