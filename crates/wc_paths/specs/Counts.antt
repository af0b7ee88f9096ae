-- How many items there are of each kind.
use Rattle.wc_paths.specs.Items.{CountsValue}
use Rattle.wc_paths.specs.declared.counts.Counts.{Counts}

abbrev pub counts_value : Counts → CountsValue
counts_value c = record {
  types = c.types;
  funcs = c.funcs;
  tables = c.tables;
  memories = c.memories;
  globals = c.globals;
  elements = c.elements;
  data_segments = c.data_segments;
}
