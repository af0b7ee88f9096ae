use Rattle.std.proofs.Common.{List, map, sym, subst}
use Rattle.std.specs.Prelude.{IfOk}
use Rattle.wc_resolve.specs.declared.types.TypeDef.{TypeDef}
use Rattle.wc_resolve.specs.Flat.{AreFlattened, lists}
use Rattle.wc_resolve.specs.Validate.{IsOrder}
use Rattle.wc_resolve.specs.Views.{type_view}
use Rattle.wc_resolve.proofs.validate.flatten_parts.Goals as goal

pub flatten_all-requires : goal.flatten_all-requires
flatten_all-requires c = subst (λ (z : List TypeDef). IsOrder (map type_view z) c.args.order.now) (sym c.deref.ensures.value) c.requires

pub returns : goal.returns
returns c = subst (λ (z : List TypeDef). IfOk c.flatten_all.result (λ flats. AreFlattened (map type_view z) (lists flats.items))) c.deref.ensures.value c.flatten_all.ensures
