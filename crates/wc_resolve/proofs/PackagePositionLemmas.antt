-- The search for a package by its name, among the names of the packages.
use Rattle.std.proofs.Common.{◌≡◌, ◌≢◌, Bool, true, false, ℕ, ◌<◌, ◌≤◌, ◌^◌, List, map, length, get_or, position, Option, Some, None, Result, Ok, Err, sym, ap, ◌∙◌, subst, inl, inr, arith}
use Rattle.std.specs.List.{position_or_len, slice_get}
use Rattle.std.specs.Option.{IfNone, IfSome}
use Rattle.std.specs.Result.{OkIff, result_ok}
use Rattle.std.proofs.lemmas.Bool.{cases_lt}
use Rattle.std.proofs.lemmas.Grind.{common_steps}
use Rattle.std.proofs.lemmas.List.Quantifiers.{position-Some}
use Rattle.std.proofs.lemmas.List.Sums.{fails_before_first}
use Rattle.std.proofs.lemmas.Option.{slice_get-map, slice_get_within}
use Rattle.std.proofs.lemmas.List.{length-map}
use Rattle.wc_resolve.specs.declared.packages.PackageName.{PackageName}
use Rattle.wc_resolve.specs.contracts.packages.PackageNamePartialEq.TheImpl.{eq-value}
use Rattle.wc_resolve.specs.Views.{PackageNameView, PackageView, package_name_view}
use Rattle.wc_resolve.specs.Resolve.{package_name_at}
use Rattle.wc_resolve.specs.Validate.{AreNamesOf}
use Rattle.wc_resolve.proofs.PackageNameLemmas.{names_law}
use Rattle.wc_maps.proofs.ListLemmas.{view_found}

-- the name at the position that was found
pub name_found : (names : List PackageName) (name : PackageName) (i : ℕ) → position (eq-value.it name) names ≡ Some i → slice_get (map package_name_view names) i ≡ Some (package_name_view name)
name_found names name i at =
    let first = position-Some (eq-value.it name) names i name at in
    view_found package_name_view names i name first.0 ∙ ap (λ (z : PackageNameView). Some z) (sym ((names_law name (get_or names i name)).0 first.1))

-- a name that is there passes the test
passes : (names : List PackageName) (name : PackageName) (k : ℕ) → slice_get (map package_name_view names) k ≡ Some (package_name_view name) → eq-value.it name (get_or names k name) ≡ true
passes names name k at =
    let small : k < length names = subst (λ (n : ℕ). k < n) (length-map names package_name_view) (slice_get_within (map package_name_view names) k (package_name_view name) at) in
    let read : Some (package_name_view (get_or names k name)) ≡ Some (package_name_view name) = sym (view_found package_name_view names k name small) ∙ at in
    (names_law name (get_or names k name)).1 (let same : package_name_view (get_or names k name) ≡ package_name_view name = cc read in sym same)

-- no name before the position that was found is this one
pub name_later : (names : List PackageName) (name : PackageName) (i k : ℕ) → position (eq-value.it name) names ≡ Some i → k < i → slice_get (map package_name_view names) k ≢ Some (package_name_view name)
name_later names name i k at before is =
    let first = position-Some (eq-value.it name) names i name at in
    let e : true ≡ false = sym (passes names name k is) ∙ first.2 k before in
    let bad : ⊥ = cc e in bad

none_passes : {X : Type 0} (p : X → Bool) (xs : List X) (d : X) → position p xs ≡ None → (k : ℕ) → k < length xs → p (get_or xs k d) ≡ false
none_passes p xs d none k small =
    elim (cases_lt (position_or_len p xs) (length xs)) [
      | inl there ↦ absurd (let found : position p xs ≡ Some (position_or_len p xs) = grind (arith, common_steps) in let e : Some (position_or_len p xs) ≡ None = sym found ∙ none in let bad : ⊥ = cc e in bad)
      | inr past ↦ fails_before_first p xs k d (omega (arith, past, small))
    ]

-- none is where none was found
pub name_absent : (names : List PackageName) (name : PackageName) → position (eq-value.it name) names ≡ None → (k : ℕ) → slice_get (map package_name_view names) k ≢ Some (package_name_view name)
name_absent names name none k is =
    let small : k < length names = subst (λ (n : ℕ). k < n) (length-map names package_name_view) (slice_get_within (map package_name_view names) k (package_name_view name) is) in
    let e : true ≡ false = sym (passes names name k is) ∙ none_passes (eq-value.it name) names name none k small in
    let bad : ⊥ = cc e in bad

-- the names are those of the packages
pub names_at : (packages : List PackageView) (names : List PackageName) (i : ℕ) → AreNamesOf packages names → slice_get (map package_name_view names) i ≡ package_name_at packages i
names_at packages names i same = ap (λ z. slice_get z i) same ∙ slice_get-map (λ (p : PackageView). p.name) packages i

pub none_then : {X : Type 0} (r : Option X) (P : Type 0) → P → IfNone r P
none_then None P p = p
none_then (Some x) P p = tt

-- an index as a number of 32 bits, where it is one
pub index_fits : {E : Type 0} (r : Result ℕ E) (i : ℕ) (P : ℕ → Type 0) → OkIff r (i < 2 ^ 32) i → P i → IfSome (result_ok r) P
index_fits (Ok n) i P fits p = subst P (sym (fits.1)) p
index_fits (Err e) i P fits p = tt

pub index_too_large : {E : Type 0} (r : Result ℕ E) (i : ℕ) (P : Type 0) → OkIff r (i < 2 ^ 32) i → (2 ^ 32 ≤ i → P) → IfNone (result_ok r) P
index_too_large (Ok n) i P fits p = tt
index_too_large (Err e) i P fits p = elim (cases_lt i (2 ^ 32)) [ inl small ↦ absurd (fits small) | inr large ↦ p large ]
