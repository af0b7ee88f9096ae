use Rattle.std.proofs.Common.{Option, None, subst, sym, refl}
use Rattle.std.specs.Prelude.{IfOk}
use Rattle.std.proofs.lemmas.Option.{slice_get_read}
use Rattle.wc_read.specs.Bodies.{BodyValue}
use Rattle.wc_read.specs.Decoded.{decoded_module}
use Rattle.wc_gc.specs.TrimPlace.{IsOperatorPlace}
use Rattle.wc_gc.proofs.TrimPlaceLemmas.{body_not_there, imported_body, local_body}
use Rattle.wc_graph.proofs.ListLemmas.{no_item}
use Rattle.wc_gc.proofs.trim_place.bodies.outside_operator.Goals as goal

pub returns-in-None : goal.returns-in-None
returns-in-None c =
    let past = rw c.deref.ensures.value at c.in-None.ensures.lookup.0 in
    subst (λ (z : Option BodyValue). IsOperatorPlace (decoded_module c.args.adapter.now) z None)
    (sym (body_not_there c.args.adapter.now c.args.function (no_item _ _ past))) refl

pub returns-in-Import : goal.returns-in-Import
returns-in-Import c =
    let at = rw c.deref.ensures.value at (slice_get_read _ _ _ _ refl c.in-Some.ensures.lookup.3.0 c.in-Some.ensures.lookup.1) in
    subst (λ (z : Option BodyValue). IsOperatorPlace (decoded_module c.args.adapter.now) z None)
    (sym (imported_body c.args.adapter.now c.args.function c.in-Some.func.now c.in-Import.field-0 c.in-Import.field-1 at c.in-Import.is)) refl

pub returns-in-Local : goal.returns-in-Local
returns-in-Local c =
    let at = rw c.deref.ensures.value at (slice_get_read _ _ _ _ refl c.in-Some.ensures.lookup.3.0 c.in-Some.ensures.lookup.1) in
    subst (λ (z : Option BodyValue). IfOk c.outside_in_body.result (IsOperatorPlace (decoded_module c.args.adapter.now) z))
    (sym (local_body c.args.adapter.now c.args.function c.in-Some.func.now c.in-Local.bytes at c.in-Local.is)) c.outside_in_body.ensures
