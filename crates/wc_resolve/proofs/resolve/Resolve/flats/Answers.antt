use Rattle.std.proofs.Common.{List, subst, sym}
use Rattle.std.specs.Prelude.{Vec}
use Rattle.std.specs.declared.alloc.Global.{Global}
use Rattle.wc_resolve.specs.declared.flat.WasmType.{WasmType}
use Rattle.wc_resolve.specs.Flat.{AreFlattened, lists}
use Rattle.wc_resolve.specs.Kinds.{ResolveView}
use Rattle.wc_resolve.specs.ResolveParts.{parts_view}
use Rattle.wc_resolve.proofs.resolve.Resolve.flats.Goals as goal

pub returns : goal.returns
returns c =
    subst (λ (v : ResolveView). AreFlattened v.types (lists c.deref.result.now)) c.self.view_is
    (subst (λ (z : List (Vec WasmType Global)). AreFlattened (parts_view c.self.inside.parts).types (lists z)) (sym c.deref.ensures.value) c.self.invariant.flattened)
