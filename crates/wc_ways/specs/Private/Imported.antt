-- An import of the world as the code has it.
use Rattle.wc_ways.specs.Asked.{WorldImport, of_interface, of_world}
use Rattle.wc_ways.specs.declared.asked.Imported.{Imported}
use Rattle.wc_ways.specs.declared.asked.Imported.TheVariants.{Interface, Own}

abbrev pub imported_view : Imported → WorldImport
imported_view (Interface id) = of_interface id.0
imported_view (Own name) = of_world name.now
