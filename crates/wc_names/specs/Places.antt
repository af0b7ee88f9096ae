-- Functions that names are of, and where a `Resolve` has them.
use Rattle.std.specs.Prelude.{◌≡◌, Some}
use Rattle.std.specs.Option.{IfSome}
use Rattle.wc_resolve.specs.Kinds.{ResolveView}
use Rattle.wc_resolve.specs.LongFunctions.{function_at_place}
use Rattle.wc_resolve.specs.Views.{FunctionView, function_view}
use Rattle.wc_names.specs.declared.payloads.NamedFunction.{NamedFunction}

abbrev pub named_view : NamedFunction → FunctionView
named_view n = function_view n.function.now

-- the place of the function, if it is known
abbrev pub IsPlaced : ResolveView → NamedFunction → Type 0
IsPlaced r n = IfSome n.place (λ place. function_at_place r place ≡ Some (named_view n))
