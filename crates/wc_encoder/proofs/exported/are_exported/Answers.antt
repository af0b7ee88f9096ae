use Rattle.std.proofs.Common.{rules}
use Rattle.wc_resolve.specs.Views.{key_view}
use Rattle.wc_resolve.proofs.ViewedLemmas.{viewed}
use Rattle.wc_adapters.specs.Entries.{entries_of}
use Rattle.wc_encoder.specs.Exported.{IsExported}
use Rattle.wc_encoder.proofs.exported.are_exported.Goals as goal

pub returns : goal.returns
returns c = viewed key_view (IsExported (entries_of c.args.exports.now)) c.args.keys.now.keys c.all.result (search rules)
