use Rattle.std.proofs.Common.{ℕ, [], ◌∷◌, OnOk, Option, subst}
use Rattle.std.specs.Option.{option_map_or}
use Rattle.wc_resolve.specs.Live.{AddsListings}
use Rattle.wc_names.specs.Views.{PayloadView, import_view}
use Rattle.wc_world.specs.Live.{import_payload, payload_roots}
use Rattle.wc_world.proofs.live.add_builtin.Goals as goal

pub returns-in-Some : goal.returns-in-Some
returns-in-Some c =
    subst (λ (o : Option ℕ). OnOk c.add_type_id.result (AddsListings c.args.resolve.now c.args.live.now c.add_type_id.new.self
    (option_map_or (λ (t : ℕ). t ∷ []) o (option_map_or (λ (p : PayloadView). payload_roots p.ty) (import_payload (import_view c.args.import.now)) []))))
    c.in-Some.ensures c.add_type_id.ensures.added

pub returns-in-Some-import_payload : goal.returns-in-Some-import_payload
returns-in-Some-import_payload c =
    subst (λ (o : Option ℕ). OnOk c.add_payload.result (AddsListings c.args.resolve.now c.args.live.now c.add_payload.new.live
    (option_map_or (λ (t : ℕ). t ∷ []) o (option_map_or (λ (p : PayloadView). payload_roots p.ty) (import_payload (import_view c.args.import.now)) []))))
    c.in-None.ensures
    (subst (λ (o : Option PayloadView). OnOk c.add_payload.result (AddsListings c.args.resolve.now c.args.live.now c.add_payload.new.live
    (option_map_or (λ (p : PayloadView). payload_roots p.ty) o [])))
    c.in-Some-import_payload.ensures c.add_payload.ensures)
