use Rattle.std.proofs.Common.{◌≡◌, ◌∙◌, ◌∷◌, ◌++◌, ap, sym}
use Rattle.std.specs.Fmt.{decimal}
use Rattle.semver.specs.Identifiers.{pre_text}
use Rattle.wc_texts.specs.Characters.{full_stop, hyphen}
use Rattle.wc_resolve.proofs.CanonicalIdLemmas.{is_after_front, refused, texts_equal, three_separators_front, two_separators_front}
use Rattle.wc_resolve.proofs.canonical_ids.is_prerelease.Goals as goal

pub returns-in-Some-after_number : goal.returns-in-Some-after_number
returns-in-Some-after_number c =
    let major = decimal c.args.version.now.major in
    let minor = decimal c.args.version.now.minor in
    let patch = decimal c.args.version.now.patch in
    is_after_front (λ z. major ++ (full_stop ∷ (minor ++ (full_stop ∷ (patch ++ (hyphen ∷ z)))))) (three_separators_front major minor patch full_stop full_stop hyphen) c.args.text.now c.in-Some-after_number.pre.now
    (c.in-Some.ensures ∙ ap (λ z. major ++ (full_stop ∷ (minor ++ (full_stop ∷ z)))) c.in-Some-after_number.ensures) (pre_text c.args.version.now.pre) c.eq.result
    (texts_equal c.in-Some-after_number.pre.now c.as_str.result.now (pre_text c.args.version.now.pre) c.eq.result c.eq.ensures c.as_str.ensures)

pub returns-in-None-after_number : goal.returns-in-None-after_number
returns-in-None-after_number c =
    let major = decimal c.args.version.now.major in
    let minor = decimal c.args.version.now.minor in
    let patch = decimal c.args.version.now.patch in
    let pre = pre_text c.args.version.now.pre in
    refused (c.args.text.now ≡ major ++ (full_stop ∷ (minor ++ (full_stop ∷ (patch ++ (hyphen ∷ pre)))))) (λ e.
    c.in-None-after_number.ensures pre (two_separators_front major minor full_stop full_stop c.in-Some.rest.now (patch ++ (hyphen ∷ pre)) (sym c.in-Some.ensures ∙ e)))
