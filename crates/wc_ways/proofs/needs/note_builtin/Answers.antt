use Rattle.std.proofs.Common.{ℕ, [], ◌∷◌, OnOk, Option, subst}
use Rattle.std.specs.Option.{option_map_or}
use Rattle.wc_names.specs.Views.{PayloadView, import_view}
use Rattle.wc_world.specs.Live.{import_payload, payload_roots}
use Rattle.wc_ways.specs.Private.Needs.{Finds}
use Rattle.wc_ways.proofs.NeedLemmas.{finds_none}
use Rattle.wc_ways.proofs.needs.note_builtin.Goals as goal

pub returns-in-Some : goal.returns-in-Some
returns-in-Some c =
    let g = c.args.needing.now in
    subst (λ (o : Option ℕ). OnOk c.note_type.result (Finds g c.args.found.now c.note_type.new.found
    (option_map_or (λ (t : ℕ). t ∷ []) o (option_map_or (λ (p : PayloadView). payload_roots p.ty) (import_payload (import_view c.args.import.now)) []))))
    c.in-Some.ensures c.note_type.ensures

pub returns-in-Some-import_payload : goal.returns-in-Some-import_payload
returns-in-Some-import_payload c =
    let g = c.args.needing.now in
    subst (λ (o : Option ℕ). OnOk c.note_payload.result (Finds g c.args.found.now c.note_payload.new.found
    (option_map_or (λ (t : ℕ). t ∷ []) o (option_map_or (λ (p : PayloadView). payload_roots p.ty) (import_payload (import_view c.args.import.now)) []))))
    c.in-None.ensures
    (subst (λ (o : Option PayloadView). OnOk c.note_payload.result (Finds g c.args.found.now c.note_payload.new.found
    (option_map_or (λ (p : PayloadView). payload_roots p.ty) o [])))
    c.in-Some-import_payload.ensures c.note_payload.ensures)

pub returns-in-None-import_payload : goal.returns-in-None-import_payload
returns-in-None-import_payload c =
    let g = c.args.needing.now in
    subst (λ (o : Option ℕ). Finds g c.args.found.now c.args.found.now
    (option_map_or (λ (t : ℕ). t ∷ []) o (option_map_or (λ (p : PayloadView). payload_roots p.ty) (import_payload (import_view c.args.import.now)) [])))
    c.in-None.ensures
    (subst (λ (o : Option PayloadView). Finds g c.args.found.now c.args.found.now (option_map_or (λ (p : PayloadView). payload_roots p.ty) o []))
    c.in-None-import_payload.ensures (finds_none g c.args.found.now))
