-- What is asked about, as the code has it.
use Rattle.wc_why.specs.Tree.{tree_import_view}
use Rattle.wc_ways.specs.Wanted.{WantedView, WhatView, of_import, of_types}
use Rattle.wc_ways.specs.Private.TypedFound.{typed_view}
use Rattle.wc_ways.specs.declared.wanted.Wanted.{Wanted}
use Rattle.wc_ways.specs.declared.wanted.What.{What}
use Rattle.wc_ways.specs.declared.wanted.What.TheVariants.{Import, Types}

abbrev pub what_view : What → WhatView
what_view (Import interface name import) = of_import interface.now name.now (tree_import_view import)
what_view (Types typed) = of_types (typed_view typed)

abbrev pub wanted_view : Wanted → WantedView
wanted_view v = record { what = what_view v.what; target = v.target }
