use Rattle.std.proofs.Common.{List, ap, map, subst}
use Rattle.wc_resolve.specs.Futures.{AreFuturesEntries, entry_view}
use Rattle.wc_resolve.specs.Views.{TypeView}
use Rattle.wc_resolve.specs.Kinds.{ResolveView}
use Rattle.wc_resolve.proofs.FuturesEntryLemmas.{entry_read}
use Rattle.wc_resolve.proofs.resolve.Resolve.futures_entry.Goals as goal

pub returns : goal.returns
returns c =
    let made : AreFuturesEntries c.args.self.now.types (map entry_view c.self.inside.kept.futures.entries.items) =
    subst (λ (z : List TypeView). AreFuturesEntries z (map entry_view c.self.inside.kept.futures.entries.items)) (ap (λ (v : ResolveView). v.types) c.self.view_is) c.self.invariant.has_futures.has_entries in
    entry_read c.args.self.now.types c.self.inside.kept.futures.entries.items c.args.id.0 c.index.result.now made c.requires c.index.ensures
