use Rattle.wcplan_inputs.specs.SharedKeys.{exporters}
use Rattle.wcplan_inputs.specs.Private.SharedKeys.{asked_view, names_view}
use Rattle.wcplan_inputs.proofs.SharedKeyLemmas.{none_left, several_left}
use Rattle.wcplan_inputs.proofs.shared_keys.not_one_exporter.Goals as goal

pub no_exporter-requires-clause-adapters : goal.no_exporter-requires-clause-adapters
no_exporter-requires-clause-adapters c =
    none_left c.args.found.now (exporters (asked_view c.args.asked.now) (names_view c.args.names.now).adapters) c.is_empty.result c.requires.found
    c.is_empty.ensures c.if-is_empty.true

pub several_exporters-requires-clause-several : goal.several_exporters-requires-clause-several
several_exporters-requires-clause-several c =
    several_left c.args.found.now (exporters (asked_view c.args.asked.now) (names_view c.args.names.now).adapters) c.is_empty.result c.requires.found
    c.requires.several c.is_empty.ensures c.if-is_empty.false
