-- Names that are required of an adapter, by what is recorded of it before it is trimmed and after.
use Rattle.std.proofs.Common.{◌≡◌, ◌↔◌, ℕ, List, [], ◌∷◌, ◌++◌, not, map, filter, Contains, Result, Ok, Err, IfOk, sym, ap, ◌∙◌, subst, inl, inr}
use Rattle.std.specs.Str.{bytes_eq}
use Rattle.std.proofs.lemmas.List.Elements.{Contains-append_cases, Contains-append_left, Contains-append_right}
use Rattle.wc_read.specs.Types.{FuncTypeValue}
use Rattle.wc_maps.proofs.ListLemmas.{contains_cons, contains_head, contains_none, contains_tail}
use Rattle.wc_names.specs.ExportViews.{ExportView}
use Rattle.wc_texts.specs.Names.{first_occurrences}
use Rattle.wc_validate.specs.Imports.Map.{required_in}
use Rattle.wc_validate.specs.Validate.{ModuleRecord}
use Rattle.wc_validate.proofs.ContainedLemmas.{mapped_there}
use Rattle.wc_graph.proofs.ListLemmas.{contains_unmapped}
use Rattle.wc_graph.proofs.ListLemmas.{from_filter}
use Rattle.wc_world.specs.Trimming.{required_names}
use Rattle.wc_world.specs.Required.{AreSameNames, IsTrimmedFor}
use Rattle.wc_world.specs.World.{adapter_trim_input}
use Rattle.wc_world.proofs.RestrictedLemmas.{occurrence_there}

-- a first occurrence is one
occurrence_from : (names : List (List ℕ)) (name : List ℕ) → Contains (first_occurrences names) name → Contains names name
occurrence_from [] name h = absurd (contains_none name h)
occurrence_from (k ∷ names) name h = elim (contains_cons k (filter (λ z. not (bytes_eq k z)) (first_occurrences names)) name h) [
  | inl is ↦ subst (Contains (k ∷ names)) is (contains_head names k)
  | inr later ↦ contains_tail k names name (occurrence_from names name (from_filter (λ z. not (bytes_eq k z)) (first_occurrences names) name later))
]

-- names of things in one order, and in another
same_mapped : {X : Type 0} (xs ys : List (List ℕ × X)) → ((x : List ℕ × X) → Contains xs x → Contains ys x) → (name : List ℕ)
    → Contains (map (λ (x : List ℕ × X). x.0) xs) name → Contains (map (λ (x : List ℕ × X). x.0) ys) name
same_mapped {X} xs ys each name h =
    let found = contains_unmapped (λ (x : List ℕ × X). x.0) xs name h in
    subst (Contains (map (λ (x : List ℕ × X). x.0) ys)) found.2 (mapped_there (λ (x : List ℕ × X). x.0) ys found.0 (each found.0 found.1))

same_after : (front xs ys : List (List ℕ)) (name : List ℕ) → (Contains xs name → Contains ys name) → Contains (first_occurrences (front ++ xs)) name → Contains (first_occurrences (front ++ ys)) name
same_after front xs ys name rest h = elim (Contains-append_cases front xs name (occurrence_from (front ++ xs) name h)) [
  | inl early ↦ occurrence_there (front ++ ys) name (Contains-append_left front ys name early)
  | inr late ↦ occurrence_there (front ++ ys) name (Contains-append_right front ys name (rest late))
]

-- exports that are recorded in another order require the same names
same_required : (required : List (List ℕ × FuncTypeValue)) (first last : List (List ℕ × ExportView))
    → ((x : List ℕ × ExportView) → Contains last x ↔ Contains first x) → AreSameNames (required_names required last) (required_names required first)
same_required required first last same name =
    let front = map (λ (f : List ℕ × FuncTypeValue). f.0) required in
    let names = λ (xs : List (List ℕ × ExportView)). map (λ (x : List ℕ × ExportView). x.0) xs in (
      same_after front (names last) (names first) name (same_mapped last first (λ x. (same x).0) name),
      same_after front (names first) (names last) name (same_mapped first last (λ x. (same x).1) name),
    )

trimmed_names : (main : ModuleRecord) (name : List ℕ) (info : ModuleRecord) (names : List (List ℕ))
    → names ≡ required_names (required_in main.imports name) info.exports → IsTrimmedFor main name info names
trimmed_names main name info names is e x y t named recorded =
    let same = same_required (required_in main.imports x.0) t.first.exports y.info.exports t.restricted.records.exports in
    let are : required_names (required_in main.imports x.0) y.info.exports ≡ names =
    ap (λ z. required_names (required_in main.imports z) y.info.exports) named
    ∙ (ap (λ (z : ModuleRecord). required_names (required_in main.imports name) z.exports) recorded ∙ sym is) in
    subst (λ z. AreSameNames z (adapter_trim_input main x t.first).required) are same

pub trimmed_for_names : {S E : Type 0} (names_in : S → List (List ℕ)) (main : ModuleRecord) (name : List ℕ) (info : ModuleRecord) (r : Result S E)
    → IfOk r (λ s. names_in s ≡ required_names (required_in main.imports name) info.exports) → IfOk r (λ s. IsTrimmedFor main name info (names_in s))
trimmed_for_names names_in main name info (Ok s) is = trimmed_names main name info (names_in s) is
trimmed_for_names names_in main name info (Err e) is = tt
