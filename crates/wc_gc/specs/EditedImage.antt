-- What trimming makes of an edited adapter: its kept items and what is added, in their order, with every index replaced
-- by its rank.
use Rattle.std.specs.Prelude.{◌≡◌, ◌⊎◌, ℕ, ◌+◌, ◌-◌, ◌<◌, ◌^◌, ◌++◌, map, Bool, false, ◌&&◌, cond, nat_lt, length}
use Rattle.std.specs.List.{slice_get}
use Rattle.std.specs.Option.{option_map, option_map_or}
use Rattle.wc_read.specs.Renumbering.{Renumbering, renumber_func_type}
use Rattle.wc_read.specs.declared.operators.Space.TheVariants.{Types, Funcs, Tables, Memories, Globals}
use Rattle.wc_write.specs.BuiltValues.{is_imported, is_defined}
use Rattle.wc_write.specs.Modules.{BuiltValue, SizesFit}
use Rattle.wc_gc.specs.Counts.{count_below}
use Rattle.wc_read.specs.Decoded.{FuncCode}
use Rattle.wc_gc.specs.Edit.{EditedModule}
use Rattle.wc_gc.specs.declared.fault.GcFault.{GcFault}
use Rattle.wc_gc.specs.declared.fault.GcFault.TheVariants.{Memory, TooLarge}
use Rattle.wc_gc.specs.Image.{rank, kept_items, kept_of, new_func, new_table, new_global, new_export}

-- kept functions that are imported, and those that are defined, after they were edited

abbrev pub is_kept_import : EditedModule → ℕ → Bool
is_kept_import e n = e.kept (Funcs, n) && option_map_or (λ (f : FuncCode). is_imported f) (slice_get e.value.funcs n) false

abbrev pub is_kept_defined : EditedModule → ℕ → Bool
is_kept_defined e n = e.kept (Funcs, n) && option_map_or (λ (f : FuncCode). is_defined f) (slice_get e.value.funcs n) false

abbrev pub count_imports : EditedModule → ℕ
count_imports e = count_below (is_kept_import e) (length e.value.funcs)

abbrev pub count_defined : EditedModule → ℕ
count_defined e = count_below (is_kept_defined e) (length e.value.funcs)

-- how many items of its space come before an item. Functions are in four groups: imports, those that are added, defined
-- functions, those that are added; types in two. In each group they have their old order

abbrev pub func_rank : EditedModule → ℕ → ℕ
func_rank e n =
    cond (is_kept_import e n) (count_below (is_kept_import e) n) (count_imports e + length e.imports + count_below (is_kept_defined e) n)

abbrev pub added_func_rank : EditedModule → ℕ → ℕ
added_func_rank e k = cond (nat_lt k (length e.imports)) (count_imports e + k) (count_imports e + count_defined e + k)

abbrev pub edited_rank : EditedModule → Renumbering
edited_rank e Types n =
    cond (nat_lt n (length e.value.types)) (rank e.kept Types n) (rank e.kept Types (length e.value.types) + (n - length e.value.types))
edited_rank e Funcs n = cond (nat_lt n (length e.value.funcs)) (func_rank e n) (added_func_rank e (n - length e.value.funcs))
edited_rank e Tables n = rank e.kept Tables n
edited_rank e Memories n = rank e.kept Memories n
edited_rank e Globals n = rank e.kept Globals n

-- the image of an edited adapter
unfoldable pub edited_image : EditedModule → BuiltValue
edited_image e = record {
  types =
      map (renumber_func_type (edited_rank e)) (kept_of e.value e.kept Types e.value.types)
      ++ map (renumber_func_type (edited_rank e)) e.types;
  funcs =
      map (new_func (edited_rank e)) (kept_items (is_kept_import e) (length e.value.funcs) e.value.funcs)
      ++ (map (new_func (edited_rank e)) e.imports
      ++ (map (new_func (edited_rank e)) (kept_items (is_kept_defined e) (length e.value.funcs) e.value.funcs)
      ++ map (new_func (edited_rank e)) e.funcs));
  tables = map (new_table (edited_rank e)) (kept_of e.value e.kept Tables e.value.tables);
  memories = kept_of e.value e.kept Memories e.value.memories;
  globals = map (new_global (edited_rank e)) (kept_of e.value e.kept Globals e.value.globals);
  exports = map (new_export (edited_rank e)) e.value.exports;
  start = option_map (edited_rank e Funcs) e.value.start;
  producers = e.value.producers;
}

-- types and functions of an image have indices of 32 bits, and its sections sizes of 32 bits
pub record FitsBits (b : BuiltValue) : Type 0 where
  pub types : length b.types < 2 ^ 32
  pub funcs : length b.funcs < 2 ^ 32
  pub sizes : SizesFit b

-- memory ran out, or the image does not fit
abbrev pub IsImageFault : BuiltValue → GcFault → Type 0
IsImageFault b f = (f ≡ Memory) ⊎ ((f ≡ TooLarge) × ¬ (FitsBits b))
