-- What a component imports of an interface: by which modules, and what it takes for it to go.
use Rattle.std.specs.Prelude.{◌≡◌, ◌⊎◌, ◌<◌, ℕ, ◌-◌, ◌^◌, ◌==◌, min, Bool, ◌||◌, nat_lt, List, length, map, cond, codes, Option, Some, slice_get, string_bytes}
use Rattle.std.specs.List.{list_any, sum_by}
use Rattle.std.specs.Option.{option_map}
use Rattle.std.specs.declared.alloc.Global.{Global}
use Rattle.std.specs.Prelude.{String}
use Rattle.wc_summary.specs.declared.summary.AdapterPart.{AdapterPart}
use Rattle.wc_summary.specs.declared.summary.Entry.{Entry}
use Rattle.wc_summary.specs.declared.summary.MainPart.{MainPart}
use Rattle.wc_summary.specs.declared.summary.Kind.{Kind}
use Rattle.wc_summary.specs.declared.summary.Kind.TheVariants.{Main, Goes, Types, Stays}

-- what the main module imports of it: how many imports, and the functions that are reached and name one
pub record MainPartView : Type 0 where
  pub imports : ℕ
  pub by : List ℕ

-- what an adapter or another core module imports of it: how many imports, the exports that lead to one, where else paths to one begin, and
-- what is live for these alone
pub record AdapterPartView : Type 0 where
  pub adapter : List ℕ
  pub is_library : Bool
  pub imports : ℕ
  pub exports : List (List ℕ)
  pub stays : List (List ℕ)
  pub roots : List (List ℕ)
  pub functions : ℕ
  pub bytes : ℕ

-- what modules import of an interface; and whether it is imported for its types, and who uses them
pub record PartsView : Type 0 where
  pub main : MainPartView
  pub adapters : List AdapterPartView
  pub types : Option (Option (List ℕ))

-- an interface, with this
abbrev pub EntryView : Type 0
EntryView = List ℕ × PartsView

abbrev pub part_view : AdapterPart → AdapterPartView
part_view p = record {
  adapter = p.adapter.now;
  is_library = p.is_library;
  imports = p.imports;
  exports = map string_bytes p.exports.items;
  stays = map string_bytes p.stays.items;
  roots = map string_bytes p.roots.items;
  functions = p.functions;
  bytes = p.bytes;
}

abbrev pub main_view : MainPart → MainPartView
main_view p = record { imports = p.imports; by = p.by.items }

abbrev pub user_view : Option (String Global) → Option (List ℕ)
user_view user = option_map string_bytes user

abbrev pub parts_view : Entry → PartsView
parts_view e = record { main = main_view e.main; adapters = map part_view e.adapters.items; types = option_map user_view e.types }

abbrev pub entry_view : String Global × Entry → EntryView
entry_view e = (string_bytes e.0, parts_view e.1)

-- an adapter or another core module imports of it whatever the main module imports
abbrev pub stays_in : AdapterPartView → Bool
stays_in p = (p.is_library || nat_lt 0 (length p.stays)) || nat_lt 0 (length p.roots)

-- what it takes for it to go: by whether the main module imports it, whether no adapter does, and whether one does whatever the
-- main module imports
abbrev pub kind_by : Bool → Bool → Bool → Kind
kind_by has_main has_none has_staying = cond has_main Main (cond has_none Types (cond has_staying Stays Goes))

abbrev pub kind_of : PartsView → Kind
kind_of e = kind_by (nat_lt 0 e.main.imports) (length e.adapters == 0) (list_any stays_in e.adapters)

abbrev pub kind_name : Kind → List ℕ
kind_name Main = codes "main"
kind_name Goes = codes "goes"
kind_name Types = codes "types"
kind_name Stays = codes "stays"

abbrev pub kind_rank : Kind → ℕ
kind_rank Main = 0
kind_rank Goes = 1
kind_rank Types = 2
kind_rank Stays = 3

-- how many bytes of adapters go with it, or as many as a number of 64 bits counts
abbrev pub bytes_of : List AdapterPartView → ℕ
bytes_of parts = min (sum_by (λ (p : AdapterPartView). p.bytes) parts) (2 ^ 64 - 1)

-- where it is listed: by its kind, and then the more bytes go with it the earlier
abbrev pub rank_of : PartsView → ℕ × ℕ
rank_of e = (kind_rank (kind_of e), 2 ^ 64 - 1 - bytes_of e.adapters)

-- an entry is listed before another one: by its rank, and then by its interface's place among these
abbrev pub IsPlacedBefore : List (List ℕ) → List ℕ → List ℕ → Type 0
IsPlacedBefore names x y = (i j : ℕ) × (i < j) × (slice_get names i ≡ Some x) × (slice_get names j ≡ Some y)

abbrev pub IsRankedBefore : ℕ × ℕ → ℕ × ℕ → Type 0
IsRankedBefore a b = (a.0 < b.0) ⊎ ((a.0 ≡ b.0) × (a.1 < b.1))

abbrev pub IsListedBefore : List (List ℕ) → EntryView → EntryView → Type 0
IsListedBefore names a b = IsRankedBefore (rank_of a.1) (rank_of b.1) ⊎ ((rank_of a.1 ≡ rank_of b.1) × IsPlacedBefore names a.0 b.0)
