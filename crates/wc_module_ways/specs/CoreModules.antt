-- The core modules of a component's file that are not its main module.
use Rattle.std.specs.Prelude.{◌≡◌, ℕ, ⊤, Bool, true, false, List, [], map, filter}
use Rattle.wc_read.specs.Modules.{ModuleValue, SpellsModule, module_value}
use Rattle.wc_paths.specs.Items.{GraphValue}
use Rattle.wc_import_paths.specs.Followed.{HasPaths, followed_view}
use Rattle.wc_import_paths.specs.declared.followed.Followed.{Followed}
use Rattle.wc_import_paths.specs.Following.{FollowedView, IsFollowed, graph_in}
use Rattle.wc_import_paths.specs.Rows.{bare_graph}
use Rattle.wc_module_ways.specs.Adapters.{Given}
use Rattle.wc_module_ways.specs.declared.core_module.CoreInput.{CoreInput}
use Rattle.wc_module_ways.specs.declared.core_module.CoreKind.{CoreKind}
use Rattle.wc_module_ways.specs.declared.core_module.CoreKind.TheVariants.{Adapter, Other, Library}
use Rattle.wc_module_ways.specs.declared.core_module.CoreModule.{CoreModule}
use Rattle.wc_module_ways.specs.declared.core_module.CoreModule.TheVariants.{Followed as followed, Unfollowed as unfollowed}

-- a core module as it is given: its position among all, its name, what it is to the main module, its bytes, and where they lie in the component's file
pub record CoreGiven : Type 0 where
  pub index : ℕ
  pub name : List ℕ
  pub kind : CoreKind
  pub bytes : List ℕ
  pub offset : ℕ

abbrev pub core_given : CoreInput → CoreGiven
core_given i = record { index = i.index; name = i.name.now; kind = i.kind; bytes = i.bytes.now; offset = i.offset }

-- it serves its name to the main module; it is a library, of which only its imports are known
abbrev pub is_server : CoreKind → Bool
is_server Adapter = true
is_server Other = false
is_server Library = false

abbrev pub is_library_kind : CoreKind → Bool
is_library_kind Adapter = false
is_library_kind Other = false
is_library_kind Library = true

-- other modules import from its name what it exports
abbrev pub is_named : CoreKind → Bool
is_named Adapter = true
is_named Other = false
is_named Library = true

-- those of these, as adapters are given
abbrev pub names_given : List CoreGiven → List Given
names_given given = map (λ (g : CoreGiven). (g.name, g.bytes)) (filter (λ (g : CoreGiven). is_named g.kind) given)

-- a core module: one that is followed, with its name, whether it serves it, and its bytes; and a library, with its name and bytes
pub data CoreView : Type 0 where
  followed_core : (name : List ℕ) (serves : Bool) (bytes : List ℕ) (f : FollowedView) → CoreView
  library_core : (name bytes : List ℕ) (m : ModuleValue) → CoreView

abbrev pub core_view : CoreModule → CoreView
core_view (followed c) = followed_core c.name.now c.serves c.followed.bytes.now (followed_view c.followed)
core_view (unfollowed c) = library_core c.name.now c.bytes.now (module_value c.code)

-- its bytes spell its module, and the paths in it were found; nothing more is known of a library
pub record HasCorePaths (f : Followed) : Type 0 where
  pub spelled : SpellsModule f.bytes.now (module_value f.code)
  pub paths : HasPaths f

abbrev pub HasCore : CoreModule → Type 0
HasCore (followed c) = HasCorePaths c.followed
HasCore (unfollowed c) = ⊤

-- its module; its items, and what each names; and whether it is a library
abbrev pub core_code : CoreView → ModuleValue
core_code (followed_core name serves bytes f) = f.code
core_code (library_core name bytes m) = m

abbrev pub core_graph : CoreView → GraphValue
core_graph (followed_core name serves bytes f) = graph_in f
core_graph (library_core name bytes m) = bare_graph m

abbrev pub is_library : CoreView → Bool
is_library (followed_core name serves bytes f) = false
is_library (library_core name bytes m) = true

-- the core module that is given so: it is followed from all its exports; of a library the module is read
pub record IsFollowedCore (g : CoreGiven) (name : List ℕ) (serves : Bool) (bytes : List ℕ) (f : FollowedView) : Type 0 where
  pub kind : is_library_kind g.kind ≡ false
  pub named : name ≡ g.name
  pub served : serves ≡ is_server g.kind
  pub spelled : bytes ≡ g.bytes
  pub followed : IsFollowed g.bytes [] f

pub record IsLibraryCore (g : CoreGiven) (name bytes : List ℕ) (m : ModuleValue) : Type 0 where
  pub kind : is_library_kind g.kind ≡ true
  pub named : name ≡ g.name
  pub spelled : bytes ≡ g.bytes
  pub read : SpellsModule g.bytes m

abbrev pub IsCore : CoreGiven → CoreView → Type 0
IsCore g (followed_core name serves bytes f) = IsFollowedCore g name serves bytes f
IsCore g (library_core name bytes m) = IsLibraryCore g name bytes m
