-- Which names a core module serves: the main module asks for functions of a name, and it exports each of them.
use Rattle.std.specs.Prelude.{◌≡◌, ◌≢◌, ℕ, Bool, true, false, not, ◌&&◌, ◌||◌, ◌==◌, List, map, filter, is_some}
use Rattle.std.specs.List.{list_any}
use Rattle.std.specs.Option.{option_map_or}
use Rattle.std.specs.Str.{bytes_eq}
use Rattle.wc_maps.specs.Texts.{is_in}
use Rattle.wc_read.specs.Exports.{ExportValue, export_kind_code}
use Rattle.wc_read.specs.Imports.{ImportValue}
use Rattle.wc_read.specs.Spaces.{func_of}
use Rattle.wc_read.specs.declared.exports.ExportKind.{ExportKind}
use Rattle.wc_read.specs.declared.exports.ExportKind.TheVariants.{Func}
use Rattle.wc_component_file.specs.Renamed.{original_import_name}

-- functions among imports: the names of their modules, and their own
abbrev pub function_pairs : List ImportValue → List (List ℕ × List ℕ)
function_pairs imports = map (λ (i : ImportValue). (i.module_name, i.name)) (filter (λ (i : ImportValue). is_some (func_of i.ty)) imports)

-- the names of exported functions
abbrev pub is_func : ExportKind → Bool
is_func kind = export_kind_code kind == export_kind_code Func

abbrev pub function_names : List ExportValue → List (List ℕ)
function_names exports = map (λ (e : ExportValue). e.name) (filter (λ (e : ExportValue). is_func e.kind) exports)

-- functions of which none is from a module of these names
abbrev pub without : List (List ℕ) → List (List ℕ × List ℕ) → List (List ℕ × List ℕ)
without names pairs = filter (λ (p : List ℕ × List ℕ). not (is_in names p.0)) pairs

-- who exports these functions gives one that is imported by a name, or by the name before it was renamed
unfoldable pub gives : List (List ℕ) → List ℕ → Bool
gives functions name = is_in functions name || option_map_or (is_in functions) (original_import_name name) false

-- a function is from the module of a name
abbrev pub is_from : List ℕ → (List ℕ × List ℕ) → Bool
is_from name p = bytes_eq p.0 name

abbrev pub lacks : List (List ℕ) → List ℕ → (List ℕ × List ℕ) → Bool
lacks functions name p = is_from name p && not (gives functions p.1)

-- who exports these functions serves a name: functions of it are asked for, and none of them is lacking
unfoldable pub serves : List (List ℕ × List ℕ) → List (List ℕ) → List ℕ → Bool
serves asked functions name = list_any (is_from name) asked && not (list_any (lacks functions name) asked)

-- it serves one name and no other
pub record ServesOnly (asked : List (List ℕ × List ℕ)) (functions : List (List ℕ)) (name : List ℕ) : Type 0 where
  pub it : serves asked functions name ≡ true
  pub only : (other : List ℕ) → serves asked functions other ≡ true → other ≡ name

abbrev pub ServesNone : List (List ℕ × List ℕ) → List (List ℕ) → Type 0
ServesNone asked functions = (name : List ℕ) → serves asked functions name ≡ false

-- it serves two names
pub record ServesTwo (asked : List (List ℕ × List ℕ)) (functions : List (List ℕ)) : Type 0 where
  pub first : List ℕ
  pub second : List ℕ
  pub serves_first : serves asked functions first ≡ true
  pub serves_second : serves asked functions second ≡ true
  pub differ : first ≢ second
