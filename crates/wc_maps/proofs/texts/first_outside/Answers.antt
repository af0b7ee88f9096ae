use Rattle.std.proofs.Common.{All, Contains, map, sym, ◌∙◌, subst, rules}
use Rattle.std.proofs.lemmas.List.{take_all}
use Rattle.wc_maps.proofs.FirstLemmas.{in_contains, missing_at}
use Rattle.wc_maps.proofs.ListLemmas.{all_more}
use Rattle.wc_maps.proofs.texts.first_outside.Goals as goal
use Rattle.wc_maps.specs.Texts.{text_of}

pub returns-then-not-is_in_set-clause-missing : goal.returns-then-not-is_in_set-clause-missing
returns-then-not-is_in_set-clause-missing c =
    missing_at c.args.texts.now (map text_of c.args.set.now.keys) c.loop-text.text-index _ (search rules) c.loop-text.invariant
    (sym c.is_in_set.ensures ∙ c.if-not-is_in_set.true)

pub loop-text-preserved : goal.loop-text-preserved
loop-text-preserved c =
    all_more text_of (Contains (map text_of c.args.set.now.keys)) c.args.texts.now c.loop-text.text-index _ (search rules) c.loop-text.invariant
    (in_contains (map text_of c.args.set.now.keys) _ (sym c.is_in_set.ensures ∙ c.if-not-is_in_set.false))

pub returns-clause-none : goal.returns-clause-none
returns-clause-none c =
    subst (λ l. All (Contains (map text_of c.args.set.now.keys)) (map text_of l)) (take_all c.loop-text.text-index c.args.texts.now (search rules))
    c.loop-text.invariant
