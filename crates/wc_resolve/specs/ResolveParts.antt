-- The parts that a `Resolve` is made of.
use Rattle.std.specs.Prelude.{map}
use Rattle.wc_resolve.specs.declared.resolve.Parts.{Parts}
use Rattle.wc_resolve.specs.Views.{world_view, interface_view, type_view, package_view}
use Rattle.wc_resolve.specs.Kinds.{ResolveView}

abbrev pub parts_view : Parts → ResolveView
parts_view p = record {
  worlds = map world_view p.worlds.items;
  interfaces = map interface_view p.interfaces.items;
  types = map type_view p.types.items;
  packages = map package_view p.packages.items;
}
