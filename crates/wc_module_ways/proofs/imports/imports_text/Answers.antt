use Rattle.std.proofs.Common.{map, string_bytes}
use Rattle.wc_read.specs.Names.{name_entries}
use Rattle.wc_summary.specs.Summary.{entry_view}
use Rattle.wc_module_ways.proofs.ImportLemmas.{text_is}
use Rattle.wc_module_ways.proofs.imports.imports_text.Goals as goal

pub returns-clause-text : goal.returns-clause-text
returns-clause-text c =
    text_is c.args.modules.now (name_entries c.in_ok-names.names) (map entry_view c.in_ok-entries.entries.entries) (string_bytes c.in_ok-lines_of.field-0)
    c.in_ok-names.ensures c.in_ok-entries.ensures.entries c.in_ok-lines_of.ensures
