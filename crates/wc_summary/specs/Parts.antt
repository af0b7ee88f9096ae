-- What modules of a component import of an interface: the main module, an adapter that is trimmed, and a library. Of each import the
-- interface to which it belongs is known, if there is one.
use Rattle.std.specs.Prelude.{◌≡◌, ◌⊎◌, ℕ, ◌-◌, ◌^◌, min, Bool, true, false, not, List, [], ◌∷◌, Contains, filter, is_some, length, map, Option, Some, None}
use Rattle.std.specs.List.{slice_get, sum_by}
use Rattle.std.specs.Map.{lookup}
use Rattle.std.specs.Str.{bytes_eq}
use Rattle.wc_read.specs.Imports.{ImportValue}
use Rattle.wc_read.specs.Modules.{ModuleValue, module_value}
use Rattle.wc_read.specs.declared.operators.Space.TheVariants.{Funcs}
use Rattle.wc_texts.specs.Names.{named_view}
use Rattle.wc_gc.specs.LiveItems.{names_of}
use Rattle.wc_segments.specs.Segments.{SegmentsValue}
use Rattle.wc_paths.specs.Items.{graph_of, names_in}
use Rattle.wc_paths.specs.Paths.{IsReachedInAny}
use Rattle.wc_paths.specs.Roots.{first_roots, import_item, second_roots}
use Rattle.wc_paths.specs.declared.items.PathItem.TheVariants.{Item}
use Rattle.wc_graph.specs.Alone.{ArePicked}
use Rattle.wc_graph.specs.Positions.{AreAscending}
use Rattle.wc_summary.specs.Leads.{IsGone, LeadsAt, Tags, count_tag, named_in, names_at, own_bodies, tags_view}
use Rattle.wc_summary.specs.Summary.{AdapterPartView, MainPartView}
use Rattle.wc_summary.specs.declared.summary_adapters.AdapterImports.{AdapterImports}
use Rattle.wc_summary.specs.declared.uses.Required.{Required}

-- what is said of a module, if it imports something of the interface
abbrev pub ArePartsOf : Tags → List ℕ → (AdapterPartView → Type 0) → List AdapterPartView → Type 0
ArePartsOf tags interface Is parts =
    (¬ (Contains (named_in tags) interface) × (parts ≡ []))
    ⊎ (Contains (named_in tags) interface × (p : AdapterPartView) × Is p × (parts ≡ p ∷ []))

-- ---- the main module, with its segments, if it can be followed

-- a function names an import of the interface
abbrev pub NamesImport : ModuleValue → SegmentsValue → Tags → List ℕ → ℕ → Type 0
NamesImport m s tags interface f =
    (k : ℕ) × (i : ImportValue) × (slice_get m.imports k ≡ Some i) × (slice_get tags k ≡ Some (Some interface))
    × Contains (names_in (graph_of m s) (Item Funcs f)) (import_item m.imports k i)

-- and is reached from the exports, the start function or an active segment
abbrev pub IsNamer : ModuleValue → SegmentsValue → Tags → List ℕ → ℕ → Type 0
IsNamer m s tags interface f = IsReachedInAny (graph_of m s) (first_roots m) (second_roots s) (Item Funcs f) × NamesImport m s tags interface f

-- these functions; none, where the module can't be followed
abbrev pub AreNamersOf : ModuleValue → Option SegmentsValue → Tags → List ℕ → List ℕ → Type 0
AreNamersOf m None tags interface by = by ≡ []
AreNamersOf m (Some s) tags interface by = AreAscending (IsNamer m s tags interface) by

abbrev pub IsMainPartOf : ModuleValue → Option SegmentsValue → Tags → List ℕ → MainPartView → Type 0
IsMainPartOf m s tags interface p = (p.imports ≡ count_tag interface tags) × AreNamersOf m s tags interface p.by

-- ---- an adapter that is trimmed

-- its name, its module and the interfaces of its imports; the exports for which it is trimmed, and which of them the main module imports
pub record AdapterValue : Type 0 where
  pub name : List ℕ
  pub value : ModuleValue
  pub tags : Tags
  pub required : List (List ℕ)
  pub is_wanted : List ℕ → Bool

-- one of these is wanted by its name
abbrev pub is_wanted_in : {T : Type 0} → Required T → List ℕ → Bool
is_wanted_in r export = is_some (lookup (bytes_eq export) (map named_view r.wanted.now.entries))

abbrev pub adapter_value : {T : Type 0} → AdapterImports T → AdapterValue
adapter_value a = record {
  name = a.name.now;
  value = module_value a.code.now;
  tags = tags_view a.tags.now;
  required = names_of a.required.names.now.keys;
  is_wanted = is_wanted_in a.required;
}

-- what it imports of the interface
pub record IsAdapterPartOf (interface : List ℕ) (a : AdapterValue) (p : AdapterPartView) : Type 0 where
  pub named : p.adapter ≡ a.name
  pub trimmed : p.is_library ≡ false
  pub imports : p.imports ≡ count_tag interface a.tags
  -- the required exports that lead there: those that the main module imports, and the others
  pub led : List ℕ
  pub are_led : AreAscending (LeadsAt a.value a.tags a.required interface) led
  pub exports : p.exports ≡ filter a.is_wanted (names_at a.required led)
  pub stays : p.stays ≡ filter (λ (e : List ℕ). not (a.is_wanted e)) (names_at a.required led)
  pub roots : p.roots ≡ []
  -- and what is live for these alone, of whose bodies a number of 64 bits counts the bytes
  pub gone : List (ℕ × ℕ)
  pub are_gone : ArePicked (λ (b : ℕ × ℕ). IsGone a.value a.tags a.required interface b.0) (own_bodies a.value.funcs) gone
  pub functions : p.functions ≡ length gone
  pub bytes : p.bytes ≡ min (sum_by (λ (b : ℕ × ℕ). b.1) gone) (2 ^ 64 - 1)

-- ---- a library, of which only its imports are known
abbrev pub library_part : List ℕ → ℕ → AdapterPartView
library_part name imports = record { adapter = name; is_library = true; imports = imports; exports = []; stays = []; roots = []; functions = 0; bytes = 0 }
