-- The cut of an adapter: its required exports and what they reach, and nothing else.
use Rattle.std.specs.Prelude.{ℕ, List, [], ◌++◌, map, Bool, None}
use Rattle.wc_read.specs.Exports.{ExportValue}
use Rattle.wc_read.specs.Names.{GlobalNameValue}
use Rattle.wc_read.specs.Renumbering.{renumber_func_type}
use Rattle.wc_read.specs.declared.operators.Space.TheVariants.{Types, Funcs, Tables, Memories, Globals}
use Rattle.wc_read.specs.Decoded.{DecodedModule, ItemIndex}
use Rattle.wc_gc.specs.Found.{allocation_state, found_in, stack_pointer}
use Rattle.wc_gc.specs.Image.{kept_of, new_export, new_table, rank}
use Rattle.wc_gc.specs.Unfolding.{renumber_func, renumber_global}

-- the ranks of some globals, each with this name
abbrev pub ranks_named : (ItemIndex → Bool) → List ℕ → List ℕ → List GlobalNameValue
ranks_named live name globals = map (λ n. (rank live Globals n, name)) globals

-- the live stack pointers and then the live states, by rank and name
abbrev pub part_names : DecodedModule → (ItemIndex → Bool) → List GlobalNameValue
part_names m live =
    ranks_named live stack_pointer (found_in m live).stacks ++ ranks_named live allocation_state (found_in m live).states

-- Some exports of an adapter, and of each space the live items in their order. An index becomes its rank: the number of
-- live items of its space before it. Stack pointers and states keep their names, and the producers stay; there is no start
-- function, no section of segments and no other name. An import is an item of the space of its kind, so the order of
-- imports of different kinds is not part of it.
unfoldable pub cut_of : DecodedModule → List ExportValue → (ItemIndex → Bool) → DecodedModule
cut_of m exports live = record {
  types = map (renumber_func_type (rank live)) (kept_of m live Types m.types);
  funcs = map (renumber_func (rank live)) (kept_of m live Funcs m.funcs);
  tables = map (new_table (rank live)) (kept_of m live Tables m.tables);
  memories = kept_of m live Memories m.memories;
  globals = map (renumber_global (rank live)) (kept_of m live Globals m.globals);
  exports = map (new_export (rank live)) exports;
  start = None;
  global_names = part_names m live;
  producers = m.producers;
  ids = [];
}
