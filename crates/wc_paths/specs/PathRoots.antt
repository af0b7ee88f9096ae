-- Where a path begins: at an export, at the start function, or at an active segment.
use Rattle.std.specs.Prelude.{ℕ, List}
use Rattle.std.specs.List.{slice_get}
use Rattle.std.specs.Option.{option_map_or}
use Rattle.wc_segments.specs.Data.{DataValue}
use Rattle.wc_segments.specs.Elements.{ElementValue}
use Rattle.wc_segments.specs.Modes.{ModeValue, passive, active, declarative}
use Rattle.wc_segments.specs.Segments.{SegmentsValue}
use Rattle.wc_paths.specs.declared.items.PathItem.{PathItem}
use Rattle.wc_paths.specs.declared.items.PathItem.TheVariants.{Item, Elements, Data}
use Rattle.wc_paths.specs.declared.path_roots.PathRoot.{PathRoot}
use Rattle.wc_paths.specs.declared.path_roots.PathRoot.TheVariants.{Export, Start, FillsTable, FillsMemory}

-- a path begins at an export of a name, at the start function, or at what fills a table or a memory
pub data RootView : Type 0 where
  by_export : (name : List ℕ) → RootView
  by_start : RootView
  by_table : (index : ℕ) → RootView
  by_memory : (index : ℕ) → RootView

abbrev pub root_view : PathRoot → RootView
root_view (Export name) = by_export name.now
root_view Start = by_start
root_view (FillsTable index) = by_table index
root_view (FillsMemory index) = by_memory index

-- what an active segment fills
abbrev pub filled_table : ModeValue → RootView
filled_table passive = by_start
filled_table (active index offset) = by_table index
filled_table declarative = by_start

abbrev pub filled_memory : ModeValue → RootView
filled_memory passive = by_start
filled_memory (active index offset) = by_memory index
filled_memory declarative = by_start

abbrev pub filled_by : SegmentsValue → PathItem → RootView
filled_by s (Item space n) = by_start
filled_by s (Elements n) = option_map_or (λ (e : ElementValue). filled_table e.mode) (slice_get s.elements n) by_start
filled_by s (Data n) = option_map_or (λ (d : DataValue). filled_memory d.mode) (slice_get s.data_segments n) by_start
