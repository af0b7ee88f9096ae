-- The interfaces that are imported for their types alone, as the code finds them.
use Rattle.std.specs.Prelude.{◌≡◌, ℕ, string_bytes, Some}
use Rattle.std.specs.List.{slice_get}
use Rattle.std.specs.Option.{option_map}
use Rattle.wc_why.specs.Texts.{text_of}
use Rattle.wc_why.specs.Tree.{tree_import_view}
use Rattle.wc_import_paths.specs.MainModules.{HasMain, code_of, main_view}
use Rattle.wc_import_paths.specs.Rows.{AreRowsFor, bare_graph}
use Rattle.wc_ways.specs.Wanted.{EndView, TypedView, nowhere, of_adapter, of_library, of_main, of_side}
use Rattle.wc_ways.specs.Private.Modules.{ArePlaces, code_in}
use Rattle.wc_ways.specs.declared.modules.AdapterModule.{AdapterModule}
use Rattle.wc_ways.specs.declared.modules.Modules.{Modules}
use Rattle.wc_ways.specs.declared.typed_found.FoundEnd.{FoundEnd}
use Rattle.wc_ways.specs.declared.typed_found.FoundEnd.TheVariants.{Nowhere, World, Main, Adapter, Library}
use Rattle.wc_ways.specs.declared.typed_found.FoundTyped.{FoundTyped}

abbrev pub end_view : FoundEnd → EndView
end_view Nowhere = nowhere
end_view (World side name) = of_side side (string_bytes name)
end_view (Main import) = of_main (tree_import_view import)
end_view (Adapter part import) = of_adapter part (tree_import_view import)
end_view (Library part import) = of_library part (tree_import_view import)

abbrev pub typed_view : FoundTyped → TypedView
typed_view t = record { interface = t.interface.now; ty = option_map text_of t.ty; end = end_view t.end }

pub record IsPlaced (a : AdapterModule) : Type 0 where
  pub places : ArePlaces (code_in a).imports a.places.entries
  pub rows : AreRowsFor (bare_graph (code_in a)) a.rows

-- the items of the imports of all modules are known
pub record AreAllRead (m : Modules) : Type 0 where
  pub has_main : HasMain m.main
  pub main : ArePlaces (code_of (main_view m.main)).imports m.places.entries
  pub others : (k : ℕ) (a : AdapterModule) → slice_get m.adapters.items k ≡ Some a → IsPlaced a
