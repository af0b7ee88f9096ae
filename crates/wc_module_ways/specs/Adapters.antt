-- The adapters of a component, and what is required of each.
use Rattle.std.specs.Prelude.{◌≡◌, ℕ, Bool, true, false, List, length, map, Option, Some, None}
use Rattle.std.specs.Borrow.{Bor}
use Rattle.std.specs.List.{slice_get}
use Rattle.std.specs.Option.{option_to_list}
use Rattle.wc_gc.specs.LiveItems.{TrimInput, names_of}
use Rattle.wc_read.specs.Modules.{ModuleValue, SpellsModule, module_value}
use Rattle.wc_import_paths.specs.Joined.{AreJoined}
use Rattle.wc_why.specs.Texts.{text_of}
use Rattle.wc_module_ways.specs.Names.{NamePair, names_under}
use Rattle.wc_module_ways.specs.Required.{always_names, is_needed, required_names}
use Rattle.wc_module_ways.specs.declared.adapter.AdapterModule.{AdapterModule}

-- an adapter as it is given: its name, and its bytes
abbrev pub Given : Type 0
Given = List ℕ × List ℕ

abbrev pub given_view : Bor (List ℕ) × Bor (List ℕ) → Given
given_view g = (g.0.now, g.1.now)

-- an adapter: its name, its bytes, its module, the exports that are required of it, and of these the ones that it has to have whatever
-- the main module imports
pub record AdapterView : Type 0 where
  pub name : List ℕ
  pub bytes : List ℕ
  pub code : ModuleValue
  pub required : List (List ℕ)
  pub always : List (List ℕ)

abbrev pub adapter_view : AdapterModule → AdapterView
adapter_view a = record {
  name = a.name.now;
  bytes = a.bytes.now;
  code = module_value a.code;
  required = names_of a.required.keys;
  always = map text_of a.always.items;
}

-- its bytes spell its module
abbrev pub IsRead : AdapterView → Type 0
IsRead a = SpellsModule a.bytes a.code

-- what is looked through for its imports
abbrev pub search_input : AdapterView → TrimInput
search_input a = record { bytes = a.bytes; required = a.required }

-- the main module imports these functions, and these exports are asked for: pairs of an adapter's name and another name

module _ (imported asked : List NamePair) where
  -- a component needs the adapter of a name with this module
  abbrev pub is_needed_as : List ℕ → ModuleValue → Bool
  is_needed_as name m = is_needed (names_under imported name) m (names_under asked name)

  -- the adapter that is given so
  pub record IsAdapter (g : Given) (a : AdapterView) : Type 0 where
    pub name : a.name ≡ g.0
    pub bytes : a.bytes ≡ g.1
    pub spelled : SpellsModule g.1 a.code
    pub required : a.required ≡ required_names (names_under imported g.0) a.code (names_under asked g.0)
    pub always : a.always ≡ always_names a.code (names_under asked g.0)
    pub needed : is_needed_as g.0 a.code ≡ true

  -- that, if a component needs it; otherwise none
  abbrev pub IsAdapterFor : Given → Option AdapterView → Type 0
  IsAdapterFor g (Some a) = IsAdapter g a
  IsAdapterFor g None = (m : ModuleValue) × SpellsModule g.1 m × (is_needed_as g.0 m ≡ false)

  -- of all that are given those that a component needs, in order
  abbrev pub IsPartAt : List Given → ℕ → List AdapterView → Type 0
  IsPartAt given k part = (g : Given) → slice_get given k ≡ Some g → (o : Option AdapterView) × IsAdapterFor g o × (part ≡ option_to_list o)

  abbrev pub AreAdapters : List Given → List AdapterView → Type 0
  AreAdapters given adapters = AreJoined (length given) (IsPartAt given) adapters
