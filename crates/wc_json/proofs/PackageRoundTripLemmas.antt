-- Packages that are written are read back.
use Rattle.std.proofs.Common.{◌≡◌, ◌≢◌, ℕ, ◌+◌, ◌==◌, List, [], ◌∷◌, ◌++◌, Option, Some, None, Ok, All, IfSome, true, nat_lt, length, take, drop, refl, ap, ◌∙◌, arith, length-append, append-nil}
use Rattle.std.specs.List.{after_first, before_first, position_or_len}
use Rattle.std.proofs.Math.Seq.{drop-append-add, take-append_seam}
use Rattle.std.proofs.lemmas.Bool.{cond-true, lt-ltb, ltb-true, ne_eqb}
use Rattle.std.proofs.lemmas.List.Elements.{All-head, All-tail}
use Rattle.semver.specs.Grammar.{IsValid}
use Rattle.semver.specs.Identifiers.{parts_text}
use Rattle.semver.specs.Parse.{Parts}
use Rattle.semver.proofs.Grammar.{version_parts-complete}
use Rattle.wc_resolve.specs.Views.{PackageNameView, PackageView}
use Rattle.wc_json.specs.Fault.{◌>>=◌}
use Rattle.wc_json.specs.Fits.{PackageFits, PackageNameFits}
use Rattle.wc_json.specs.Packages.{name_from_parts, name_in_namespace, package_and_worlds, package_name, parts_or_refusal}
use Rattle.wc_texts.specs.Splits.{split_once}
use Rattle.wc_json.specs.ToJson.{package_json, package_name_text, version_suffix}
use Rattle.wc_json.proofs.IdLemmas.{cond-not_true}
use Rattle.wc_json.proofs.MapRoundTripLemmas.{name_map-number_json}

-- texts cut at their first separator c
module _ (c : ℕ) (is_itself : (c == c) ≡ true) where
  position-separator : (xs ys : List ℕ) → All (λ x. x ≢ c) xs → position_or_len (λ x. x == c) (xs ++ (c ∷ ys)) ≡ length xs
  position-separator [] ys none = rw is_itself refl
  position-separator (x ∷ xs) ys none =
      rw (ne_eqb x c (All-head (λ x. x ≢ c) x xs none), position-separator xs ys (All-tail (λ x. x ≢ c) x xs none)) (omega arith)

  position-none : (xs : List ℕ) → All (λ x. x ≢ c) xs → position_or_len (λ x. x == c) xs ≡ length xs
  position-none [] none = refl
  position-none (x ∷ xs) none =
      rw (ne_eqb x c (All-head (λ x. x ≢ c) x xs none), position-none xs (All-tail (λ x. x ≢ c) x xs none)) (omega arith)

  split_once-separator : (xs ys : List ℕ) → All (λ x. x ≢ c) xs → split_once c (xs ++ (c ∷ ys)) ≡ Some (xs, ys)
  split_once-separator xs ys none =
      let text = xs ++ (c ∷ ys) in
      let at = position-separator xs ys none in
      let before : before_first (λ x. x == c) text ≡ xs = ap (λ (n : ℕ). take n text) at ∙ take-append_seam xs (c ∷ ys) in
      let after : after_first (λ x. x == c) text ≡ ys = ap (λ (n : ℕ). drop (n + 1) text) at ∙ drop-append-add xs (c ∷ ys) 1 in
      cond-true (nat_lt (position_or_len (λ x. x == c) text) (length text)) _ None
      (lt-ltb (position_or_len (λ x. x == c) text) (length text) (omega (arith, at, length-append xs (c ∷ ys))))
      ∙ ap (λ (xs : List ℕ). Some (xs, after_first (λ x. x == c) text)) before ∙ ap (λ (ys : List ℕ). Some (xs, ys)) after

  split_once-none : (xs : List ℕ) → All (λ x. x ≢ c) xs → split_once c xs ≡ None
  split_once-none xs none =
      cond-not_true (nat_lt (position_or_len (λ x. x == c) xs) (length xs)) _ None
      (λ t. let within = ltb-true (position_or_len (λ x. x == c) xs) (length xs) t in omega (arith, within, position-none xs none))

-- names of packages

-- the namespace is cut off at the colon
package_name-cut : (namespace rest : List ℕ) → All (λ x. x ≢ 58) namespace
    → package_name (namespace ++ (58 ∷ rest)) ≡ name_in_namespace namespace rest (split_once 64 rest)
package_name-cut namespace rest fits = ap name_from_parts (split_once-separator 58 refl namespace rest fits)

package_name-parts : (namespace name : List ℕ) (version : Option Parts) → All (λ x. x ≢ 58) namespace → All (λ x. x ≢ 64) name → IfSome version IsValid
    → package_name (namespace ++ (58 ∷ (name ++ version_suffix version))) ≡ Ok (record { namespace = namespace; name = name; version = version })
package_name-parts namespace name None namespace_fits name_fits valid =
    package_name-cut namespace (name ++ []) namespace_fits
    ∙ ap (λ (rest : List ℕ). name_in_namespace namespace rest (split_once 64 rest)) (append-nil name)
    ∙ ap (name_in_namespace namespace name) (split_once-none 64 refl name name_fits)
package_name-parts namespace name (Some v) namespace_fits name_fits valid =
    let rest = name ++ (64 ∷ parts_text v) in
    package_name-cut namespace rest namespace_fits
    ∙ ap (name_in_namespace namespace rest) (split_once-separator 64 refl name (parts_text v) name_fits)
    ∙ ap (λ r. parts_or_refusal r >>= (λ (v : Parts). Ok (record { namespace = namespace; name = name; version = Some v }))) (version_parts-complete v valid)

pub package_name-package_name_text : (p : PackageNameView) → PackageNameFits p → package_name (package_name_text p) ≡ Ok p
package_name-package_name_text p fits = package_name-parts p.namespace p.name p.version fits.namespace fits.name fits.version

pub package_and_worlds-package_json : (p : PackageView × List (List ℕ × ℕ)) → PackageFits p → package_and_worlds (package_json p) ≡ Ok p
package_and_worlds-package_json p fits =
    rw (
      package_name-package_name_text p.0.name fits.name,
      name_map-number_json p.0.interfaces fits.interface_names fits.interfaces,
      name_map-number_json p.1 fits.world_names fits.worlds,
    ) refl
