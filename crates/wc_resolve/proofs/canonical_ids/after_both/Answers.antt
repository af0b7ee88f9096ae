use Rattle.std.proofs.Common.{◌++◌}
use Rattle.wc_resolve.proofs.CanonicalIdLemmas.{after_front, text_front}
use Rattle.wc_resolve.proofs.canonical_ids.after_both.Goals as goal

pub returns-in-Some : goal.returns-in-Some
returns-in-Some c = after_front (λ z. c.args.first.now ++ z) (text_front c.args.first.now) c.args.text.now c.in-Some.rest.now c.in-Some.ensures.found (λ z. c.args.second.now ++ z) c.strip_prefix-in-Some.result c.strip_prefix-in-Some.ensures.found
