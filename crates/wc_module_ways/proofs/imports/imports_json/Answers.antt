use Rattle.std.proofs.Common.{map}
use Rattle.wc_read.specs.Names.{name_entries}
use Rattle.wc_summary.specs.Summary.{entry_view}
use Rattle.wc_module_ways.proofs.ImportLemmas.{json_is}
use Rattle.wc_module_ways.proofs.imports.imports_json.Goals as goal

pub returns-clause-json : goal.returns-clause-json
returns-clause-json c =
    json_is c.args.modules.now (name_entries c.in_ok-names.names) (map entry_view c.in_ok-entries.entries.entries) c.in_ok-json_of.field-0.items
    c.in_ok-names.ensures c.in_ok-entries.ensures.entries c.in_ok-json_of.ensures.0 c.in_ok-json_of.ensures.1
