use Rattle.std.proofs.Common.{List, ℕ, rules}
use Rattle.wc_resolve.proofs.ViewedLemmas.{viewed}
use Rattle.wc_adapters.specs.Adapters.{AdapterView, adapter_entry}
use Rattle.wc_adapters.specs.Entries.{entries_of}
use Rattle.wc_encoder.specs.Exported.{AreRequiredExported}
use Rattle.wc_encoder.proofs.exported.are_all_required_exported.Goals as goal

pub returns : goal.returns
returns c = viewed adapter_entry (λ (a : List ℕ × AdapterView). AreRequiredExported (entries_of c.args.exports.now) a.1) c.args.adapters.now.entries c.all.result (search rules)
