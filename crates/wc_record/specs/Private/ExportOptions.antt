-- What contracts see of a function with the options of its lifting, and which items have functions that can be lifted.
use Rattle.std.specs.Prelude.{ℕ, ◌<◌, length}
use Rattle.std.specs.Option.{option_map}
use Rattle.wc_resolve.specs.Dependencies.{id_of_interface}
use Rattle.wc_resolve.specs.Kinds.{ResolveView}
use Rattle.wc_resolve.specs.Views.{ItemView, function_item, interface_item, type_item}
use Rattle.wc_resolve.specs.WellFormed.{IsUsable}
use Rattle.wc_record.specs.ExportOptions.{LiftedView}
use Rattle.wc_record.specs.declared.export_options.LiftedFunction.{LiftedFunction}

abbrev pub lifted_view : LiftedFunction → LiftedView
lifted_view l = record { interface = option_map id_of_interface l.interface; name = l.name.now; options = l.options.0 }

-- an interface is there, and a function of the world itself is usable
abbrev pub IsLiftable : ResolveView → ItemView → Type 0
IsLiftable r (interface_item i external) = i < length r.interfaces
IsLiftable r (function_item f) = IsUsable r f
IsLiftable r (type_item t) = Unit {0}
