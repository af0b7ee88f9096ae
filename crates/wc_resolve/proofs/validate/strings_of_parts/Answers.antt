use Rattle.std.proofs.Common.{List, false, map, sym, subst}
use Rattle.std.specs.Prelude.{IfOk}
use Rattle.wc_resolve.specs.declared.types.TypeDef.{TypeDef}
use Rattle.wc_resolve.specs.Contents.{AreTextFlags}
use Rattle.wc_resolve.specs.Validate.{IsOrder}
use Rattle.wc_resolve.specs.Views.{type_view}
use Rattle.wc_resolve.proofs.validate.strings_of_parts.Goals as goal

pub find_texts-requires : goal.find_texts-requires
find_texts-requires c = subst (λ (z : List TypeDef). IsOrder (map type_view z) c.args.order.now) (sym c.deref.ensures.value) c.requires

pub returns : goal.returns
returns c = subst (λ (z : List TypeDef). IfOk c.find_texts.result (λ flags. AreTextFlags false (map type_view z) flags.items)) c.deref.ensures.value c.find_texts.ensures
