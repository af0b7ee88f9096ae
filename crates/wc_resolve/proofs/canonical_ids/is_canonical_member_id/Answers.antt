use Rattle.std.proofs.Common.{◌≡◌, ◌↔◌, ◌∙◌, ◌∷◌, ◌++◌, IsTrue, List, ℕ, ap, string_bytes, subst, sym}
use Rattle.semver.specs.Identifiers.{parts_of}
use Rattle.wc_texts.specs.Characters.{at_sign, colon, slash}
use Rattle.wc_resolve.specs.Names.{track}
use Rattle.wc_resolve.specs.Resolve.{joined_id, member_text}
use Rattle.wc_resolve.specs.Views.{package_name_view}
use Rattle.wc_resolve.proofs.CanonicalIdLemmas.{is_after_front, member_begins, refused, text_front, two_separators_front, version_front, versioned_member}
use Rattle.wc_resolve.proofs.canonical_ids.is_canonical_member_id.Goals as goal

pub returns-in-Some-strip_prefix : goal.returns-in-Some-strip_prefix
returns-in-Some-strip_prefix c =
    let namespace = string_bytes c.args.package.now.namespace in
    let member = string_bytes c.args.package.now.name in
    let name = c.args.name.now in
    subst (λ (z : List ℕ). IsTrue c.is_track.result ↔ (c.args.text.now ≡ z)) (sym (versioned_member c.args.package.now name c.in-Some-version.version c.in-Some-version.is))
    (is_after_front (λ z. joined_id namespace member (name ++ (at_sign ∷ z))) (version_front namespace member name) c.args.text.now c.in-Some-strip_prefix.shown.now
    (c.in-Some.ensures ∙ ap (λ z. joined_id namespace member (name ++ z)) c.in-Some-strip_prefix.ensures.found) (track (parts_of c.in-Some-version.version)) c.is_track.result c.is_track.ensures)

pub returns-in-None-strip_prefix : goal.returns-in-None-strip_prefix
returns-in-None-strip_prefix c =
    let namespace = string_bytes c.args.package.now.namespace in
    let member = string_bytes c.args.package.now.name in
    let name = c.args.name.now in
    let shown = track (parts_of c.in-Some-version.version) in
    refused (c.args.text.now ≡ member_text track (package_name_view c.args.package.now) name) (λ e.
    let both : joined_id namespace member (name ++ c.in-Some.rest.now) ≡ joined_id namespace member (name ++ (at_sign ∷ shown)) =
    sym c.in-Some.ensures ∙ (e ∙ versioned_member c.args.package.now name c.in-Some-version.version c.in-Some-version.is) in
    c.in-None-strip_prefix.ensures.found shown (text_front name c.in-Some.rest.now (at_sign ∷ shown)
    (two_separators_front namespace member colon slash (name ++ c.in-Some.rest.now) (name ++ (at_sign ∷ shown)) both)))

pub returns-in-None : goal.returns-in-None
returns-in-None c =
    refused (c.args.text.now ≡ member_text track (package_name_view c.args.package.now) c.args.name.now)
    (member_begins (package_name_view c.args.package.now) c.args.name.now c.args.text.now c.in-None.ensures)
