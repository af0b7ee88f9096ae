use Rattle.std.proofs.Common.{OnOk, subst, sym}
use Rattle.wc_names.specs.Views.{payload_type_view}
use Rattle.wc_world.specs.Live.{payload_roots}
use Rattle.wc_ways.specs.Private.Needs.{Finds}
use Rattle.wc_ways.proofs.NeedLemmas.{finds_none}
use Rattle.wc_ways.proofs.needs.note_payload.Goals as goal

pub returns-in-Typed : goal.returns-in-Typed
returns-in-Typed c =
    let g = c.args.needing.now in
    subst (λ z. OnOk c.note_type.result (Finds g c.args.found.now c.note_type.new.found (payload_roots (payload_type_view z))))
    (sym c.in-Typed.is) c.note_type.ensures

pub returns-in-UnitFuture : goal.returns-in-UnitFuture
returns-in-UnitFuture c =
    let g = c.args.needing.now in
    subst (λ z. Finds g c.args.found.now c.args.found.now (payload_roots (payload_type_view z))) (sym c.in-UnitFuture.is) (finds_none g c.args.found.now)

pub returns-in-UnitStream : goal.returns-in-UnitStream
returns-in-UnitStream c =
    let g = c.args.needing.now in
    subst (λ z. Finds g c.args.found.now c.args.found.now (payload_roots (payload_type_view z))) (sym c.in-UnitStream.is) (finds_none g c.args.found.now)
