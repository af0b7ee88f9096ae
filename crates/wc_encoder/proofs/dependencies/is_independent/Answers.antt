use Rattle.std.proofs.Common.{string_bytes}
use Rattle.std.specs.Option.{option_map}
use Rattle.wc_resolve.proofs.ViewedLemmas.{iff_ok}
use Rattle.wc_adapters.specs.Entries.{entries_after}
use Rattle.wc_encoder.proofs.EntriesAfterLemmas.{none_depended, none_exported}
use Rattle.wc_encoder.proofs.dependencies.is_independent.Goals as goal

pub returns-in-Interface : goal.returns-in-Interface
returns-in-Interface c =
    let later = entries_after c.args.exports.now c.args.index in
    let external = option_map string_bytes c.in-Interface.external_id in
    rw c.in-Interface.is
    (iff_ok c.has_none_after.result
    (none_exported c.args.resolve.now c.in-Interface.id.0 external later, none_depended c.args.resolve.now c.in-Interface.id.0 external later)
    c.has_none_after.ensures)
