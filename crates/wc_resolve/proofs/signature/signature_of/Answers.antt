use Rattle.std.proofs.Common.{◌≡◌, subst}
use Rattle.std.specs.Prelude.{IfOk}
use Rattle.wc_resolve.specs.Flat.{flat_entry, lists}
use Rattle.wc_resolve.specs.Signature.{SignatureView, signature_view}
use Rattle.wc_resolve.proofs.CoreSignatureLemmas.{core_made}
use Rattle.wc_resolve.proofs.signature.signature_of.Goals as goal

pub returns : goal.returns
returns c =
    subst (λ (z : SignatureView). IfOk c.core_of.result (λ s. signature_view s ≡ z))
    (core_made (flat_entry (lists c.args.flats.now)) c.args.abi c.args.function.now c.in_ok-params.params.items c.flat_payload-results.result.now c.deref.result.now c.deref.ensures.value c.in_ok-params.ensures
    c.flat_payload-results.ensures)
    c.core_of.ensures
