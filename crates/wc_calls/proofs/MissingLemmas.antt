-- The name of a missing export is at its position among the names that are passed.
use Rattle.std.proofs.Common.{◌≡◌, ◌≢◌, ℕ, Bool, true, List, [], ◌∷◌, cond, Option, Some, refl, sym, ap, subst, inl, inr}
use Rattle.std.proofs.Math.Bool.{or-true}
use Rattle.std.proofs.lemmas.Bool.{cases_Bool, or_cases}
use Rattle.std.proofs.lemmas.Slice.Eq.{bytes_eq-Decides}
use Rattle.std.specs.Prelude.{string_bytes}
use Rattle.std.specs.List.{find, list_any, slice_get}
use Rattle.std.specs.Str.{bytes_eq}
use Rattle.wc_gc.specs.LiveItems.{IsFault, trim_input_for_names}
use Rattle.wc_texts.specs.Names.{first_occurrences}
use Rattle.wc_gc.specs.Parts.{SettingsView}
use Rattle.wc_gc.specs.Trim.{IsTrimFault}
use Rattle.wc_gc.specs.declared.fault.GcFault.{GcFault}
use Rattle.wc_gc.specs.declared.fault.GcFault.TheVariants.{Memory, MissingExport}
use Rattle.wc_gc.proofs.NameSetLemmas.{among_distinct}
use Rattle.wc_gc.specs.declared.trim_place.TrimPlace.{TrimPlace}
use Rattle.wc_import_paths.specs.Following.{IsRefusal}
use Rattle.wc_calls.specs.ExportNames.{position_of}
use Rattle.wc_calls.specs.Trimming.{IsPosition, position_in}

-- what is found is among the names
found_among : (p : List ℕ → Bool) (xs : List (List ℕ)) (x : List ℕ) → find p xs ≡ Some x → list_any (bytes_eq x) xs ≡ true
found_among p [] x e = absurd cc
found_among p (y ∷ ys) x e =
    elim (cases_Bool (p y)) [
      | inl passes ↦
          (let first : Some y ≡ Some x = subst (λ b. cond b (Some y) (find p ys) ≡ Some x) passes e in
          let same : x ≡ y = cc in
          rw ((bytes_eq-Decides x y).1 same) refl)
      | inr fails ↦
          (let rest : find p ys ≡ Some x = subst (λ b. cond b (Some y) (find p ys) ≡ Some x) fails e in
          rw (found_among p ys x rest) (or-true _))
    ]

-- what is among the names is at its position
position_there : (names : List (List ℕ)) (x : List ℕ) → list_any (bytes_eq x) names ≡ true → slice_get names (position_of names x) ≡ Some x
position_there [] x e = absurd cc
position_there (n ∷ names) x e =
    elim (cases_Bool (bytes_eq n x)) [
      | inl passes ↦ rw passes (ap Some ((bytes_eq-Decides n x).0 passes))
      | inr fails ↦
          (let other : list_any (bytes_eq x) names ≡ true =
          elim (or_cases (bytes_eq x n) (list_any (bytes_eq x) names) e) [
            | inl is ↦ absurd (let same : bytes_eq n x ≡ true = (bytes_eq-Decides n x).1 (sym ((bytes_eq-Decides x n).0 is)) in cc)
            | inr rest ↦ rest
          ] in
          rw fails (position_there names x other))
    ]

missing_there : (names : List (List ℕ)) (p : List ℕ → Bool) (x : List ℕ) → find p (first_occurrences names) ≡ Some x → slice_get names (position_of names x) ≡ Some x
missing_there names p x e =
    position_there names x (among_distinct names x (found_among p (first_occurrences names) x e))

-- the position that an answer has for a fault that has its cause
pub named_position : (s : SettingsView) (wasm : List ℕ) (names : List (List ℕ)) (f : GcFault) → f ≢ Memory → IsTrimFault s (trim_input_for_names wasm names) f → IsPosition names f (position_in names f)
named_position s wasm names (MissingExport name) other fault =
    elim fault [
      | inl memory ↦ absurd (other memory)
      | inr cause ↦
          elim cause.0 [
            | inl is ↦ (refl, missing_there names _ (string_bytes name) is.2)
            | inr later ↦ absurd later.4
          ]
    ]
named_position s wasm names f other fault = refl

-- the same of a fault that there are no chains
pub live_position : (wasm : List ℕ) (names : List (List ℕ)) (f : GcFault) → f ≢ Memory → IsFault (trim_input_for_names wasm names) f → IsPosition names f (position_in names f)
live_position wasm names (MissingExport name) other fault =
    elim fault [
      | inl memory ↦ absurd (other memory)
      | inr cause ↦ (let is = cause.0 in (refl, missing_there names _ (string_bytes name) is.2))
    ]
live_position wasm names f other fault = refl

-- the same of a fault of a module that is followed
pub followed_position : (wasm : List ℕ) (names : List (List ℕ)) (f : GcFault) (place : Option TrimPlace) → IsRefusal wasm names f place
    → IsPosition names f (position_in names f)
followed_position wasm names (MissingExport name) place ((m, s, both, is), none) =
    (refl, position_there names (string_bytes name) (found_among _ names (string_bytes name) is))
followed_position wasm names f place cause = refl
