-- What a `Resolve` keeps beside its parts: an order of its types, which of them are resources, and which hold strings or
-- lists, their flat types, their futures and streams and those of functions, and the names of its packages.
use Rattle.std.specs.Prelude.{◌≡◌, ℕ, ◌<◌, All, List, false, length, map, true, Contains}
use Rattle.wc_resolve.specs.declared.packages.PackageName.{PackageName}
use Rattle.wc_resolve.specs.declared.validate.FuturesTables.{FuturesTables}
use Rattle.wc_resolve.specs.declared.validate.Tables.{Tables}
use Rattle.wc_resolve.specs.Contents.{AreTextFlags}
use Rattle.wc_resolve.specs.Flat.{AreFlattened, lists}
use Rattle.wc_resolve.specs.Futures.{AreFuturesEntries, entry_view}
use Rattle.wc_resolve.specs.LongFunctions.{IsLongFunction}
use Rattle.wc_resolve.specs.Resources.{AreResourceFlags}
use Rattle.wc_resolve.specs.Shortcuts.{AreShortcuts}
use Rattle.wc_resolve.specs.Views.{PackageView, TypeView, package_name_view}
use Rattle.wc_resolve.specs.WellFormed.{IsWellFormed}
use Rattle.wc_resolve.specs.Kinds.{ResolveView, IsChildrenFirst, children}

-- an order of all types in which each is after those that it refers to
pub record IsOrder (types : List TypeView) (order : List ℕ) : Type 0 where
  pub first : IsChildrenFirst (children types) order
  pub within : (x : ℕ) → Contains order x → x < length types
  pub all : (x : ℕ) → x < length types → Contains order x

-- the names of the packages, in order
abbrev pub AreNamesOf : List PackageView → List PackageName → Type 0
AreNamesOf packages names = map package_name_view names ≡ map (λ (p : PackageView). p.name) packages

-- what is kept of futures and streams: of types and functions, with shortcuts from types to others below them
pub record AreFuturesTables (r : ResolveView) (kept : FuturesTables) : Type 0 where
  pub has_entries : AreFuturesEntries r.types (map entry_view kept.entries.items)
  pub has_shortcuts : AreShortcuts r.types kept.shortcuts.items
  pub has_functions : All (IsLongFunction r) kept.long_functions.items

pub record AreTables (r : ResolveView) (kept : Tables) : Type 0 where
  pub formed : IsWellFormed r
  pub ordered : IsOrder r.types kept.order.items
  pub has_resources : AreResourceFlags r.types kept.resources.items
  pub flattened : AreFlattened r.types (lists kept.flats.items)
  pub has_futures : AreFuturesTables r kept.futures
  pub has_strings : AreTextFlags false r.types kept.strings.items
  pub has_texts : AreTextFlags true r.types kept.texts.items
  pub has_names : AreNamesOf r.packages kept.package_names.keys
