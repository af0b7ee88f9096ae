use Rattle.std.proofs.Common.{map}
use Rattle.wc_adapters.specs.Adapters.{adapter_entry}
use Rattle.wc_json.specs.Messages.{adapter_message_view}
use Rattle.wc_calls.proofs.AdapterLemmas.{AreAdaptersBefore}
use Rattle.wc_calls.proofs.encoders.adapters_of.Given as goal

abbrev pub invariant-loop-message : goal.invariant-loop-message
invariant-loop-message l = AreAdaptersBefore l.index (map adapter_message_view l.yielded) l.bytes l.rest (map adapter_entry l.adapters.entries)
