use Rattle.std.proofs.lemmas.Result.{on_ok_weaker}
use Rattle.wc_read.specs.Modules.{module_value}
use Rattle.wc_summary.specs.Entries.{entries_view}
use Rattle.wc_ways.proofs.AdapterNoteLemmas.{wasm_noted}
use Rattle.wc_ways.proofs.summary_adapters.note_read.Goals as goal

pub returns : goal.returns
returns c =
    on_ok_weaker c.note_original.result
    (wasm_noted c.args.named.now c.args.wasm.now (module_value c.in-Ok.original) c.in-Ok.ensures.found (entries_view c.args.entries.now.entries)
    (entries_view c.note_original.new.entries.entries)) c.note_original.ensures
