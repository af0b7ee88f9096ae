use Rattle.std.proofs.Common.{refl}
use Rattle.wc_calls.proofs.ComponentWorldLemmas.{put_or_longer}
use Rattle.wc_calls.proofs.answers.put_refusal.Goals as goal

pub returns : goal.returns
returns c =
    let p = put_or_longer c.put-answer.result.status c.put-answer.result.length c.args.place.now c.args.out.now c.put-answer.new.out c.put-answer.ensures.length
    c.put-answer.ensures.done c.put-answer.ensures.too_small c.put-answer.ensures.unchanged c.put-answer.ensures.statuses in
    record {
      status = refl;
      number = refl;
      position = refl;
      size = c.put-answer.ensures.length;
      no_module = refl;
      put = p.0;
      longer = p.1;
    }
