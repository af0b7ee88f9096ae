-- What the names of functions, resources and their built-ins are looked up in.
use Rattle.std.specs.Prelude.{ℕ, List, Bool, Option}
use Rattle.wc_resolve.specs.Views.{FunctionView, WorldView, world_view, function_view}
use Rattle.wc_resolve.specs.Kinds.{ResolveView}
use Rattle.wc_names.specs.Contexts.{context_scope}
use Rattle.wc_names.specs.Keys.{Scope, function_named, resource_named, type_named}
use Rattle.wc_names.specs.declared.payloads.PayloadLookupContext.{PayloadLookupContext}
use Rattle.std.specs.Borrow.{Bor}
use Rattle.wc_resolve.specs.declared.functions.Function.{Function}
use Rattle.std.specs.Option.{option_map}

-- the world of a `Resolve`: its imports, or its exports; and the key and the interface of one of them, or none of the world
-- itself
pub record LookupScope : Type 0 where
  pub resolve : ResolveView
  pub world : WorldView
  pub imported : Bool
  pub scope : Scope

-- the lookup scope of a context
abbrev pub lookup_scope : PayloadLookupContext → LookupScope
lookup_scope c = record { resolve = c.resolve.now; world = world_view c.world.now; imported = c.imported; scope = context_scope c }

-- what is of a name
abbrev pub function_in : LookupScope → List ℕ → Option FunctionView
function_in l name = function_named l.resolve l.world l.imported l.scope name

abbrev pub resource_in : LookupScope → List ℕ → Option ℕ
resource_in l name = resource_named l.resolve l.world l.scope name

abbrev pub type_in : LookupScope → List ℕ → Option ℕ
type_in l name = type_named l.resolve l.world l.scope.interface name

abbrev pub function_found : Option (Bor Function) → Option FunctionView
function_found found = option_map (λ (f : Bor Function). function_view f.now) found
