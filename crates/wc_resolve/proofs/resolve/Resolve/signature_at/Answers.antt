use Rattle.std.proofs.Common.{◌≡◌, ◌∙◌, subst}
use Rattle.std.specs.Prelude.{IfOk}
use Rattle.wc_resolve.specs.Flat.{lists}
use Rattle.wc_resolve.specs.Signature.{SignatureView, signature_view}
use Rattle.wc_resolve.specs.Views.{function_view}
use Rattle.wc_resolve.proofs.CoreSignatureLemmas.{core_kept, core_settled}
use Rattle.wc_resolve.proofs.LongFunctionLemmas.{function_at_in, kept_flat}
use Rattle.wc_resolve.proofs.resolve.Resolve.signature_at.Goals as goal

pub returns-in-Some : goal.returns-in-Some
returns-in-Some c =
    let r = c.args.self.now in
    let f = function_view c.args.function.now in
    subst (λ (z : SignatureView). IfOk c.signature_by.result (λ s. signature_view s ≡ z))
    (core_kept r.types (lists c.flats.result.now) c.args.abi c.args.function.now c.deref.result.now c.flats.ensures (function_at_in r c.args.place f c.well_formedness.ensures.in_range c.requires)
    (c.deref.ensures.value ∙ kept_flat r c.in-Some.kept.now c.args.place f (c.in-Some.ensures.kept r c.long_functions.ensures) c.in-Some.ensures.place c.requires))
    c.signature_by.ensures

pub returns-in-None : goal.returns-in-None
returns-in-None c =
    let r = c.args.self.now in
    let f = function_view c.args.function.now in
    subst (λ (z : SignatureView). IfOk c.signature_of.result (λ s. signature_view s ≡ z))
    (core_settled r.types (lists c.flats-in-None.result.now) c.args.abi f c.flats-in-None.ensures (function_at_in r c.args.place f c.well_formedness.ensures.in_range c.requires))
    c.signature_of.ensures
