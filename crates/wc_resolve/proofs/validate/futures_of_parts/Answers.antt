use Rattle.std.proofs.Common.{List, map, sym, subst}
use Rattle.std.specs.Prelude.{IfOk}
use Rattle.wc_resolve.specs.declared.types.TypeDef.{TypeDef}
use Rattle.wc_resolve.specs.Futures.{AreFuturesEntries, entry_view}
use Rattle.wc_resolve.specs.Validate.{IsOrder}
use Rattle.wc_resolve.specs.Views.{type_view}
use Rattle.wc_resolve.proofs.validate.futures_of_parts.Goals as goal

pub futures_entries-requires : goal.futures_entries-requires
futures_entries-requires c = subst (λ (z : List TypeDef). IsOrder (map type_view z) c.args.order.now) (sym c.deref.ensures.value) c.requires

pub returns : goal.returns
returns c = subst (λ (z : List TypeDef). IfOk c.futures_entries.result (λ v. AreFuturesEntries (map type_view z) (map entry_view v.items))) c.deref.ensures.value c.futures_entries.ensures
