use Rattle.std.proofs.Common.{◌≡◌, ◌+◌, ◌∷◌, ◌++◌, [], drop, sym, ap, ◌∙◌, arith}
use Rattle.std.proofs.lemmas.List.{drop_more}
use Rattle.wc_json.proofs.JsonPlaceLemmas.{starts_all, starts_step}
use Rattle.wc_json.specs.JsonPlace.{start_here}
use Rattle.wc_json.proofs.json_place.lexeme_starts.Goals as goal

pub loop-at-preserved : goal.loop-at-preserved
loop-at-preserved c =
    let l = c.loop-at in
    let here : drop l.at c.args.text.now ≡ _ ∷ drop (l.at + 1) c.args.text.now = drop_more c.args.text.now l.at 0 (omega arith) in
    sym (starts_step c.args.text.now l.found.items _ l.at _ l.mode _ _ here c.class_of-class.ensures (c.in_ok-put_start.ensures ∙ ap (λ b. l.found.items ++ start_here b l.at []) c.begins.ensures) c.passed-mode.ensures) ∙ l.invariant

pub returns : goal.returns
returns c = sym (starts_all c.args.text.now c.loop-at.found.items c.loop-at.at c.loop-at.mode c.loop-at-test.false) ∙ c.loop-at.invariant
