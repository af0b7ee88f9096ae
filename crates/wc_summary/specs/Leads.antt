-- Which exports of a module lead to which of its imports, by the interfaces of these, and what is live for such exports alone.
use Rattle.std.specs.Prelude.{◌≡◌, ◌↔◌, ◌⊎◌, ℕ, Bool, true, false, ◌&&◌, List, Contains, cond, length, nat_eq, take, count_by, map, Option, Some, None, String, string_bytes}
use Rattle.std.specs.List.{filter_map, list_any, range_with_len, slice_get}
use Rattle.std.specs.Option.{option_and_then, option_map, option_map_or}
use Rattle.std.specs.Str.{bytes_eq}
use Rattle.std.specs.declared.alloc.Global.{Global}
use Rattle.wc_texts.specs.Names.{first_occurrences}
use Rattle.wc_read.specs.Exports.{ExportValue}
use Rattle.wc_read.specs.Imports.{ImportValue}
use Rattle.wc_read.specs.Items.{FuncValue, imported, local}
use Rattle.wc_read.specs.Modules.{ModuleValue}
use Rattle.wc_read.specs.declared.operators.Space.TheVariants.{Funcs}
use Rattle.wc_read.specs.Decoded.{ItemIndex, decode, is_in}
use Rattle.wc_read.specs.Entries.{refs_in}
use Rattle.wc_gc.specs.LiveChains.{item_named}
use Rattle.wc_graph.specs.Reached.{IsPath}
use Rattle.wc_read.specs.ImportItems.{is_in_space}
use Rattle.wc_paths.specs.Items.{CountsValue, GraphValue, counts_of, has_item, space_item}
use Rattle.wc_paths.specs.Numbers.{item_count, number_of, numbers_in}
use Rattle.wc_paths.specs.Roots.{import_space}
use Rattle.wc_paths.specs.declared.items.PathItem.{PathItem}
use Rattle.wc_graph.specs.Labels.{HasLabel}

-- of each import the interface to which it belongs, if there is one
abbrev pub Tags : Type 0
Tags = List (Option (List ℕ))

abbrev pub tag_view : Option (String Global) → Option (List ℕ)
tag_view t = option_map string_bytes t

abbrev pub tags_view : List (Option (String Global)) → Tags
tags_view tags = map tag_view tags

-- how many are this interface; which interfaces there are
abbrev pub is_tag : List ℕ → Option (List ℕ) → Bool
is_tag interface t = option_map_or (bytes_eq interface) t false

abbrev pub count_tag : List ℕ → Tags → ℕ
count_tag interface tags = count_by (is_tag interface) tags

abbrev pub named_in : Tags → List (List ℕ)
named_in tags = filter_map (λ (t : Option (List ℕ)). t) tags

abbrev pub found_in : Tags → List (List ℕ)
found_in tags = first_occurrences (named_in tags)

-- an export leads to an item: a path leads there from the item that is exported by this name
abbrev pub Reaches : ModuleValue → List ℕ → ItemIndex → Type 0
Reaches m export x = (first : ItemIndex) × (item_named m.exports export ≡ Some first) × (path : List ItemIndex) × IsPath (refs_in (decode m)) first path x

-- an item that is an import of the interface
abbrev pub import_index : List ImportValue → ℕ → ImportValue → ItemIndex
import_index imports k i = (import_space i.ty, count_by (λ (j : ImportValue). is_in_space (import_space i.ty) j.ty) (take k imports))

abbrev pub IsImportOf : ModuleValue → Tags → List ℕ → ItemIndex → Type 0
IsImportOf m tags interface x =
    (k : ℕ) × (i : ImportValue) × (slice_get m.imports k ≡ Some i) × (slice_get tags k ≡ Some (Some interface)) × (x ≡ import_index m.imports k i)
    × (is_in (decode m) x ≡ true)

-- an export leads to one
abbrev pub Leads : ModuleValue → Tags → List ℕ → List ℕ → Type 0
Leads m tags interface export = (x : ItemIndex) × IsImportOf m tags interface x × Reaches m export x

-- the export at a position among some leads there; the names at such positions
abbrev pub LeadsAt : ModuleValue → Tags → List (List ℕ) → List ℕ → ℕ → Type 0
LeadsAt m tags exports interface position = (export : List ℕ) × (slice_get exports position ≡ Some export) × Leads m tags interface export

abbrev pub names_at : List (List ℕ) → List ℕ → List (List ℕ)
names_at exports positions = filter_map (slice_get exports) positions

-- the functions of the module's own, each with the length of its body
abbrev pub own_body : FuncValue → Option (List ℕ)
own_body f = elim f.def as (λ d. Option (List ℕ)) [ imported from name ↦ None | local body ↦ Some body ]

abbrev pub sized_body : List FuncValue → ℕ → Option (ℕ × ℕ)
sized_body funcs f = option_map (λ (body : List ℕ). (f, length body)) (option_and_then own_body (slice_get funcs f))

abbrev pub own_bodies : List FuncValue → List (ℕ × ℕ)
own_bodies funcs = filter_map (sized_body funcs) (range_with_len 0 (length funcs))

-- a function of the module that some of these exports reach, and each that does leads to an import of the interface
pub record IsGone (m : ModuleValue) (tags : Tags) (exports : List (List ℕ)) (interface : List ℕ) (f : ℕ) : Type 0 where
  pub there : is_in (decode m) (Funcs, f) ≡ true
  pub live : (export : List ℕ) × Contains exports export × Reaches m export (Funcs, f)
  pub alone : (export : List ℕ) → Contains exports export → Reaches m export (Funcs, f) → Leads m tags interface export

-- the number of an item that is there
abbrev pub as_number : CountsValue → PathItem → Option ℕ
as_number c x = cond (has_item c x) (Some (number_of c x)) None

-- the number of the item of the export of a name
abbrev pub source_by : CountsValue → List ExportValue → List ℕ → Option ℕ
source_by c exports name = option_and_then (as_number c) (option_map space_item (item_named exports name))

-- an item is one of these roots, by its number
abbrev pub is_root : CountsValue → List PathItem → ℕ → Bool
is_root c roots n = list_any (λ (x : PathItem). has_item c x && nat_eq n (number_of c x)) roots

-- an item has the first label where a path leads to it from a root
pub record AreReached (g : GraphValue) (first second : List PathItem) (words : List ℕ) : Type 0 where
  pub sized : length words ≡ item_count (counts_of g)
  pub at : (n : ℕ) → HasLabel words n 0 ↔ ((root : ℕ) × ((is_root (counts_of g) first root ≡ true) ⊎ (is_root (counts_of g) second root ≡ true))
      × (path : List ℕ) × IsPath (numbers_in g) root path n)
