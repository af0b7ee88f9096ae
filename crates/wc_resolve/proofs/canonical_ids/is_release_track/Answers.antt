use Rattle.std.proofs.Common.{◌≡◌, ◌↔◌, ◌∷◌, ◌++◌, IsTrue, List, ℕ, subst, sym}
use Rattle.std.specs.Fmt.{decimal}
use Rattle.wc_texts.specs.Characters.{full_stop}
use Rattle.wc_resolve.proofs.CanonicalIdLemmas.{first_track, is_after_front, two_separators_front}
use Rattle.wc_resolve.proofs.canonical_ids.is_release_track.Goals as goal

pub returns-in-Some-after_two_numbers : goal.returns-in-Some-after_two_numbers
returns-in-Some-after_two_numbers c =
    subst (λ (z : List ℕ). IsTrue c.is_number-in-Some-after_two_numbers.result ↔ (c.args.text.now ≡ z)) (sym (first_track c.args.major c.args.minor c.args.patch c.if-major-ne0.false c.if-minor-ne0.false))
    (is_after_front (λ z. decimal 0 ++ (full_stop ∷ (decimal 0 ++ (full_stop ∷ z)))) (two_separators_front (decimal 0) (decimal 0) full_stop full_stop) c.args.text.now c.in-Some-after_two_numbers.rest.now c.in-Some-after_two_numbers.ensures
    (decimal c.args.patch) c.is_number-in-Some-after_two_numbers.result c.is_number-in-Some-after_two_numbers.ensures)
