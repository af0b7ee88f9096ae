-- `==` of packages' names says whether they are equal.
use Rattle.std.proofs.Common.{◌≡◌, ◌↔◌, ℕ, true, List, Option, Some, None, refl, ap, ◌∙◌}
use Rattle.std.specs.Option.{option_eq, option_map}
use Rattle.std.proofs.lemmas.Bool.{and_parts, and_from}
use Rattle.std.proofs.lemmas.Slice.Eq.{bytes_eq-Decides}
use Rattle.std.specs.Prelude.{string_bytes}
use Rattle.semver.specs.declared.Version.{Version}
use Rattle.semver.specs.Identifiers.{parts_of, pre_text, build_text}
use Rattle.semver.specs.contracts.VersionPartialEq.TheImpl.{eq-value as version_eq}
use Rattle.wc_resolve.specs.declared.packages.PackageName.{PackageName}
use Rattle.wc_resolve.specs.contracts.packages.PackageNamePartialEq.TheImpl.{eq-value}
use Rattle.wc_resolve.specs.Views.{PackageNameView, package_name_view}
use Rattle.wc_resolve.proofs.KeyLemmas.{nat_from, nat_to}

version_from : (v w : Version) → version_eq.it v w ≡ true → parts_of v ≡ parts_of w
version_from v w h =
    let h1 = and_parts _ _ h in
    let h2 = and_parts _ _ h1.1 in
    let h3 = and_parts _ _ h2.1 in
    let h4 = and_parts _ _ h3.1 in
    ap (λ x. (x, v.minor, v.patch, pre_text v.pre, build_text v.build)) (nat_from v.major w.major h1.0)
    ∙ ap (λ x. (w.major, x, v.patch, pre_text v.pre, build_text v.build)) (nat_from v.minor w.minor h2.0)
    ∙ ap (λ x. (w.major, w.minor, x, pre_text v.pre, build_text v.build)) (nat_from v.patch w.patch h3.0)
    ∙ ap (λ x. (w.major, w.minor, w.patch, x, build_text v.build)) ((bytes_eq-Decides (pre_text v.pre) (pre_text w.pre)).0 h4.0)
    ∙ ap (λ x. (w.major, w.minor, w.patch, pre_text w.pre, x)) ((bytes_eq-Decides (build_text v.build) (build_text w.build)).0 h4.1)

version_to : (v w : Version) → parts_of v ≡ parts_of w → version_eq.it v w ≡ true
version_to v w e =
    and_from _ _ (nat_to v.major w.major (ap (λ p. p.0) e))
    (and_from _ _ (nat_to v.minor w.minor (ap (λ p. p.1) e))
    (and_from _ _ (nat_to v.patch w.patch (ap (λ p. p.2) e))
    (and_from _ _ ((bytes_eq-Decides (pre_text v.pre) (pre_text w.pre)).1 (ap (λ p. p.3) e))
    ((bytes_eq-Decides (build_text v.build) (build_text w.build)).1 (ap (λ p. p.4) e)))))

option_from : (v w : Option Version) → option_eq version_eq.it v w ≡ true → option_map parts_of v ≡ option_map parts_of w
option_from None None h = refl
option_from None (Some w) h = absurd (let bad : ⊥ = cc h in bad)
option_from (Some v) None h = absurd (let bad : ⊥ = cc h in bad)
option_from (Some v) (Some w) h = ap (λ p. Some p) (version_from v w h)

option_to : (v w : Option Version) → option_map parts_of v ≡ option_map parts_of w → option_eq version_eq.it v w ≡ true
option_to None None e = refl
option_to None (Some w) e = absurd (let bad : ⊥ = cc e in bad)
option_to (Some v) None e = absurd (let bad : ⊥ = cc e in bad)
option_to (Some v) (Some w) e = version_to v w (let same : parts_of v ≡ parts_of w = cc e in same)

pub names_law : (a b : PackageName) → (eq-value.it a b ≡ true) ↔ (package_name_view a ≡ package_name_view b)
names_law a b = (
  (λ h.
      let h1 = and_parts _ _ h in
      let h2 = and_parts _ _ h1.1 in
      let view : List ℕ → List ℕ → Option (ℕ × ℕ × ℕ × List ℕ × List ℕ) → PackageNameView = λ n m v. record { namespace = n; name = m; version = v } in
      let n : string_bytes a.namespace ≡ string_bytes b.namespace = (bytes_eq-Decides (string_bytes a.namespace) (string_bytes b.namespace)).0 h1.0 in
      let m : string_bytes a.name ≡ string_bytes b.name = (bytes_eq-Decides (string_bytes a.name) (string_bytes b.name)).0 h2.0 in
      let v : option_map parts_of a.version ≡ option_map parts_of b.version = option_from a.version b.version h2.1 in
      ap (λ x. view x (string_bytes a.name) (option_map parts_of a.version)) n ∙ ap (λ x. view (string_bytes b.namespace) x (option_map parts_of a.version)) m
      ∙ ap (λ x. view (string_bytes b.namespace) (string_bytes b.name) x) v),
  (λ e. and_from _ _ ((bytes_eq-Decides (string_bytes a.namespace) (string_bytes b.namespace)).1 (ap (λ (p : PackageNameView). p.namespace) e))
      (and_from _ _ ((bytes_eq-Decides (string_bytes a.name) (string_bytes b.name)).1 (ap (λ (p : PackageNameView). p.name) e))
      (option_to a.version b.version (ap (λ (p : PackageNameView). p.version) e)))),
)
