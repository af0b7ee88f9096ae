-- What a command asks about that a world imports.
use Rattle.std.specs.Prelude.{◌≡◌, ℕ, Bool, false, true, ◌||◌, List, codes, find, IfSome, Option, Some, String, string_bytes}
use Rattle.std.specs.Borrow.{Bor}
use Rattle.std.specs.List.{list_any}
use Rattle.std.specs.Option.{option_and_then, option_map, option_map_or, option_or}
use Rattle.std.specs.Str.{bytes_eq}
use Rattle.std.specs.declared.alloc.Global.{Global}
use Rattle.wc_resolve.specs.Kinds.{ResolveView}
use Rattle.wc_selection.specs.Keys.{NamedKey, import_keys, texts_of}
use Rattle.wc_why.specs.Keys.{asks_about, package_of, package_text}
use Rattle.wc_options.specs.Listing.{listing_text}
use Rattle.wcplan_inputs.specs.Nearest.{first_near, is_alike}
use Rattle.wcplan_inputs.specs.declared.fault.ProgramFault.{ProgramFault}
use Rattle.wcplan_inputs.specs.declared.fault.ProgramFault.TheVariants.{Memory, NoImport}

-- a key asks about all, about what is the world's own, or about one of these imports
abbrev pub is_asked_there : List ℕ → List NamedKey → Bool
is_asked_there key keys = bytes_eq key (codes "all") || (bytes_eq key (codes "$root") || list_any (asks_about key) (texts_of keys))

-- what a command asks about, if it asks, is there among what a world imports
abbrev pub IsAskedThere : Option (List ℕ) → ResolveView → ℕ → Type 0
IsAskedThere asked r world = IfSome asked (λ (key : List ℕ). is_asked_there key (import_keys r world) ≡ true)

-- the package of an interface is a key but for its version and for the case of letters
abbrev pub package_alike : List ℕ → List ℕ → Bool
package_alike key text = option_map_or (is_alike key) (package_of text) false

-- the first such package, with its version
abbrev pub nearest_package : List ℕ → List (List ℕ) → Option (List ℕ)
nearest_package key texts = option_and_then package_text (find (package_alike key) texts)

-- the first import that is near a key, or else the first package that is
abbrev pub nearest_import : List ℕ → List (List ℕ) → Option (List ℕ)
nearest_import key texts = option_or (first_near key texts) (nearest_package key texts)

-- what imports there are, and which is near the key
abbrev pub IsNoImport : List (List ℕ) → List ℕ → String Global → Option (String Global) → Type 0
IsNoImport texts key listing nearest = (string_bytes listing ≡ listing_text texts) × (option_map string_bytes nearest ≡ nearest_import key texts)

-- it is not
pub record IsUnasked (asked : Option (List ℕ)) (r : ResolveView) (world : ℕ) (key : Bor (List ℕ)) (listing : String Global) (nearest : Option (String Global)) : Type 0 where
  pub asks : asked ≡ Some key.now
  pub absent : is_asked_there key.now (import_keys r world) ≡ false
  pub said : IsNoImport (texts_of (import_keys r world)) key.now listing nearest

abbrev pub IsAskedCause : Option (List ℕ) → ResolveView → ℕ → ProgramFault → Type 0
IsAskedCause asked r world Memory = Unit {0}
IsAskedCause asked r world (NoImport key listing nearest) = IsUnasked asked r world key listing nearest
IsAskedCause asked r world f = ⊥

-- the fault where no import is asked about
abbrev pub IsNoImportFault : List NamedKey → Bor (List ℕ) → ProgramFault → Type 0
IsNoImportFault keys key Memory = Unit {0}
IsNoImportFault keys key (NoImport k listing nearest) = (k ≡ key) × IsNoImport (texts_of keys) key.now listing nearest
IsNoImportFault keys key f = ⊥
