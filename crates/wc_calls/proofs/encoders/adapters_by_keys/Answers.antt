use Rattle.std.proofs.Common.{IfOk, List, map, subst}
use Rattle.wc_adapters.specs.Adapters.{adapter_entry}
use Rattle.wc_selection.specs.Keys.{NamedKey}
use Rattle.wc_json.specs.Messages.{adapter_message_view}
use Rattle.wc_calls.specs.Encoders.{AreAdaptersOf}
use Rattle.wc_calls.proofs.encoders.adapters_by_keys.Goals as goal

pub returns-clause-adapters : goal.returns-clause-adapters
returns-clause-adapters c =
    subst (λ (ks : List NamedKey). IfOk c.adapters_of.result (λ m. AreAdaptersOf ks (map adapter_message_view c.args.messages.items) c.args.bytes.now (map adapter_entry m.entries)))
    c.in_ok-index.ensures c.adapters_of.ensures.adapters
