-- Imports whose interfaces have names.
use Rattle.std.specs.Prelude.{All}
use Rattle.std.specs.Option.{IsSome}
use Rattle.semver.specs.Identifiers.{parts_text}
use Rattle.wc_resolve.specs.Resolve.{key_text}
use Rattle.wc_resolve.specs.Ranges.{IsKeyIn}
use Rattle.wc_resolve.specs.Kinds.{ResolveView}
use Rattle.wc_names.specs.Views.{ImportView, interface_func}
use Rattle.wc_validate.specs.Imports.Map.{imports_in}
use Rattle.wc_validate.specs.Validate.{ModuleRecord}
use Rattle.wc_world.specs.Slots.{all_imports, imports_of}
use Rattle.wc_world.specs.Views.{ComponentWorldView}

-- the interface of an import is there and has a name, if it is a function of one
abbrev pub IsNameable : ResolveView → ImportView → Type 0
IsNameable r (interface_func key i name abi) = IsKeyIn r key × IsSome (key_text parts_text r key)
IsNameable r import = Unit {0}

-- what the imports of a module name has names
abbrev pub AreModuleNameable : ResolveView → ModuleRecord → Type 0
AreModuleNameable r m = All (IsNameable r) (imports_of (imports_in m.imports))

-- what is imported can be named
abbrev pub AreNameable : ComponentWorldView → Type 0
AreNameable w = All (IsNameable w.encoder.resolve) (imports_of (all_imports w.info w.adapters))
