use Rattle.wc_module_ways.proofs.ModuleLemmas.{chains_of_read}
use Rattle.wc_module_ways.specs.Adapters.{adapter_view, search_input}
use Rattle.wc_module_ways.proofs.ModuleLemmas.{this_refused}
use Rattle.wc_module_ways.proofs.imports.note_adapter.Goals as goal

pub note_trimmed-requires : goal.note_trimmed-requires
note_trimmed-requires c =
    let a = adapter_view c.args.adapter.now in
    chains_of_read c.modules_unique.ensures (search_input a) a.code c.in-Ok.chains c.requires c.in-Ok.ensures.chains

pub returns-in-Err-clause-refused : goal.returns-in-Err-clause-refused
returns-in-Err-clause-refused c =
    let a = adapter_view c.args.adapter.now in
    this_refused a c.in-Err.refused.fault c.in-Err.refused.place c.of_adapter.result c.of_adapter.ensures c.in-Err.ensures.fault c.in-Err.ensures.place
