use Rattle.std.proofs.Common.{◌∷◌, ◌++◌}
use Rattle.std.specs.Fmt.{decimal}
use Rattle.wc_texts.specs.Characters.{full_stop}
use Rattle.wc_resolve.proofs.CanonicalIdLemmas.{after_front, separator_front}
use Rattle.wc_resolve.proofs.canonical_ids.after_two_numbers.Goals as goal

pub returns-in-Some : goal.returns-in-Some
returns-in-Some c =
    after_front (λ z. decimal c.args.major ++ (full_stop ∷ z)) (separator_front (decimal c.args.major) full_stop) c.args.text.now c.in-Some.rest.now c.in-Some.ensures (λ z. decimal c.args.minor ++ (full_stop ∷ z)) c.after_number-in-Some.result
    c.after_number-in-Some.ensures
