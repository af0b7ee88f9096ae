use Rattle.std.proofs.Common.{◌≡◌, List, ap, ◌∙◌, subst}
use Rattle.std.specs.Prelude.{IfOk}
use Rattle.wc_resolve.specs.Flat.{flat_entry, lists}
use Rattle.wc_resolve.specs.Signature.{SignatureView, flatten_functype, signature_view}
use Rattle.wc_resolve.specs.Views.{TypeView, function_view}
use Rattle.wc_resolve.specs.Kinds.{ResolveView}
use Rattle.wc_resolve.proofs.CoreSignatureLemmas.{core_settled}
use Rattle.wc_resolve.specs.Flat.{AreFlattened}
use Rattle.wc_resolve.proofs.resolve.Resolve.wasm_signature.Goals as goal

pub returns : goal.returns
returns c =
    let made : AreFlattened c.args.self.now.types (lists c.self.inside.kept.flats.items) =
    subst (λ (z : List TypeView). AreFlattened z (lists c.self.inside.kept.flats.items)) (ap (λ (v : ResolveView). v.types) c.self.view_is) c.self.invariant.flattened in
    subst (λ (z : SignatureView). IfOk c.signature_of.result (λ s. signature_view s ≡ z))
    (ap (λ z. flatten_functype (flat_entry (lists z)) c.args.abi (function_view c.args.function.now)) c.deref.ensures.value
    ∙ core_settled c.args.self.now.types (lists c.self.inside.kept.flats.items) c.args.abi (function_view c.args.function.now) made c.requires.0)
    c.signature_of.ensures
