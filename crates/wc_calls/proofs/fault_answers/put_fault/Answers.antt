use Rattle.std.proofs.Common.{List, ℕ, length, ◌≡◌, ◌≤◌, ◌<◌, ◌++◌, ◌∙◌, ap, refl, subst}
use Rattle.wc_calls.specs.Answers.{IsFront}
use Rattle.wc_calls.proofs.ComponentWorldLemmas.{put_or_longer}
use Rattle.wc_calls.proofs.fault_answers.put_fault.Goals as goal

pub returns : goal.returns
returns c =
    let is = c.as_bytes.ensures.value ∙ c.requires in
    let old = c.args.out.now in
    let new = c.put-answer.new.out in
    let place = c.args.place.now in
    let p = put_or_longer c.put-answer.result.status c.put-answer.result.length (c.as_bytes.result.now ++ place) old new c.put-answer.ensures.length
    c.put-answer.ensures.done c.put-answer.ensures.too_small c.put-answer.ensures.unchanged c.put-answer.ensures.statuses in
    record {
      status = refl;
      number = c.number.ensures;
      size = c.put-answer.ensures.length ∙ ap (λ t. length (t ++ place)) is;
      cut = ap length c.requires;
      no_module = refl;
      put = subst (λ (t : List ℕ). length (t ++ place) ≤ length old → IsFront (t ++ place) old new) is p.0;
      longer = subst (λ (t : List ℕ). length old < length (t ++ place) → new ≡ old) is p.1;
    }
