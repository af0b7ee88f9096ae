use Rattle.std.proofs.Common.{◌≡◌, ◌+◌, ◌∷◌, drop, sym, ap, ◌∙◌, arith}
use Rattle.std.proofs.lemmas.List.{drop_more}
use Rattle.wc_json.proofs.LikenessLemmas.{left_end, left_here, left_later}
use Rattle.wc_json.specs.Likeness.{gap_after}
use Rattle.wc_json.proofs.likeness.gap_end.Goals as goal

pub returns-in-None : goal.returns-in-None
returns-in-None c =
    let l = c.loop-at in
    let here : drop l.at c.args.text.now ≡ _ ∷ drop (l.at + 1) c.args.text.now = drop_more c.args.text.now l.at 0 (omega arith) in
    sym (left_here l.gap _ _ _ here (ap (gap_after l.gap) (sym c.kind_of.ensures) ∙ (sym c.gap_after.ensures ∙ c.in-None.is))) ∙ l.invariant

pub loop-at-preserved : goal.loop-at-preserved
loop-at-preserved c =
    let l = c.loop-at in
    let here : drop l.at c.args.text.now ≡ _ ∷ drop (l.at + 1) c.args.text.now = drop_more c.args.text.now l.at 0 (omega arith) in
    sym (left_later l.gap _ _ _ here _ (ap (gap_after l.gap) (sym c.kind_of.ensures) ∙ (sym c.gap_after.ensures ∙ c.in-Some.is))) ∙ l.invariant

pub returns : goal.returns
returns c = left_end c.loop-at.gap c.args.text.now c.loop-at.at c.loop-at-test.false ∙ c.loop-at.invariant
