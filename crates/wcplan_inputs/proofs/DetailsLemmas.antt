-- A place of a fault has a line at least, unless it is of sizes of pages.
use Rattle.std.proofs.Common.{◌≡◌, ◌≢◌, ℕ, List, [], ◌++◌, Some, string_bytes, subst, sym}
use Rattle.std.specs.Option.{option_map}
use Rattle.wc_validate.specs.Explain.{SubjectView, an_export, an_import, missing_export, missing_function, place_view, some_bytes}
use Rattle.wc_gc.specs.declared.trim_place.TrimPlace.{TrimPlace}
use Rattle.wc_validate.specs.declared.place.Place.{Place}
use Rattle.wc_world.specs.declared.places.ModulePlace.{ModulePlace}
use Rattle.wc_world.specs.declared.places.ModulePlace.TheVariants as place
use Rattle.wcplan_inputs.specs.Details.{module_place_lines, subject_line, world_fault_lines}
use Rattle.wcplan_inputs.specs.declared.explained.Explained.{Explained}

subject_some : (s : SubjectView) (rest : List ℕ) → subject_line s ++ rest ≢ []
subject_some (an_import module_name name index) rest = λ e. absurd cc
subject_some (an_export name) rest = λ e. absurd cc
subject_some (missing_function module_name name) rest = λ e. absurd cc
subject_some (missing_export name) rest = λ e. absurd cc
subject_some (some_bytes p) rest = λ e. absurd cc

lines_at : (x : Explained) (p : ModulePlace) → x.place.place ≡ p
    → module_place_lines p (option_map string_bytes x.nearest) (option_map string_bytes x.adapters) ≢ [] → world_fault_lines (Some x) ≢ []
lines_at x p is some =
    subst (λ (q : ModulePlace). module_place_lines q (option_map string_bytes x.nearest) (option_map string_bytes x.adapters) ≢ []) (sym is) some

pub placed : (x : Explained) (p : Place) → x.place.place ≡ place.Validation p → world_fault_lines (Some x) ≢ []
placed x p is = lines_at x (place.Validation p) is (subject_some (place_view p).subject _)

pub trimmed : (x : Explained) (p : TrimPlace) → x.place.place ≡ place.Trim p → world_fault_lines (Some x) ≢ []
trimmed x p is = lines_at x (place.Trim p) is (λ e. absurd cc)
