use Rattle.std.proofs.Common.{sym, ap, ◌∙◌}
use Rattle.wc_json.proofs.JsonPlaceLemmas.{stop_here, stop_later}
use Rattle.wc_json.specs.JsonPlace.{place}
use Rattle.wc_json.proofs.json_place.stop_of.Goals as goal

pub returns-then-not-branch : goal.returns-then-not-branch
returns-then-not-branch c =
    let l = c.loop-token in
    c.place-at.ensures ∙ ap (place c.args.text.now l.rest.now) c.is_inside.ensures
    ∙ sym (stop_here _ _ _ _ _ _ _ _ c.in-Some.ensures.value c.in_ok-take.ensures c.if-not-branch.true) ∙ l.invariant

pub loop-token-preserved : goal.loop-token-preserved
loop-token-preserved c =
    sym (stop_later _ _ _ _ _ _ _ _ c.in-Some.ensures.value c.in_ok-take.ensures _ _ c.if-not-branch.false c.without_first-rest.ensures c.lexemes-lexemes.ensures)
    ∙ c.loop-token.invariant
