use Rattle.std.proofs.Common.{◌≡◌, ◌∙◌, ◌∷◌, ◌++◌, ap, sym, string_bytes}
use Rattle.wc_texts.specs.Characters.{colon, slash}
use Rattle.wc_resolve.proofs.CanonicalIdLemmas.{after_front, separator_front, two_separators_front}
use Rattle.wc_resolve.proofs.canonical_ids.after_member.Goals as goal

pub returns-in-Some-after_both : goal.returns-in-Some-after_both
returns-in-Some-after_both c =
    let namespace = string_bytes c.args.package.now.namespace in
    let member = string_bytes c.args.package.now.name in
    let first : c.args.text.now ≡ namespace ++ (colon ∷ c.in-Some.member.now) = c.in-Some.ensures ∙ ap (λ z. z ++ (colon ∷ c.in-Some.member.now)) c.as_str.ensures.value in
    let second : c.in-Some.member.now ≡ member ++ (slash ∷ c.in-Some-after_both.rest.now) = c.in-Some-after_both.ensures ∙ ap (λ z. z ++ (slash ∷ c.in-Some-after_both.rest.now)) c.as_str-in-Some.ensures.value in
    after_front (λ z. namespace ++ (colon ∷ (member ++ (slash ∷ z)))) (two_separators_front namespace member colon slash) c.args.text.now c.in-Some-after_both.rest.now (first ∙ ap (λ z. namespace ++ (colon ∷ z)) second) (λ z. c.args.name.now ++ z)
    c.strip_prefix.result c.strip_prefix.ensures.found

pub returns-in-None-after_both : goal.returns-in-None-after_both
returns-in-None-after_both c = λ rest e.
    let namespace = string_bytes c.args.package.now.namespace in
    let member = string_bytes c.args.package.now.name in
    let first : c.args.text.now ≡ namespace ++ (colon ∷ c.in-Some.member.now) = c.in-Some.ensures ∙ ap (λ z. z ++ (colon ∷ c.in-Some.member.now)) c.as_str.ensures.value in
    c.in-None-after_both.ensures (c.args.name.now ++ rest)
    (separator_front namespace colon c.in-Some.member.now (member ++ (slash ∷ (c.args.name.now ++ rest))) (sym first ∙ e)
    ∙ ap (λ z. z ++ (slash ∷ (c.args.name.now ++ rest))) (sym c.as_str-in-Some.ensures.value))
