use Rattle.std.proofs.Common.{ap, ◌∙◌, nat_eq, refl}
use Rattle.wc_resolve.specs.declared.ids.TypeId.{TypeId}
use Rattle.wc_resolve.specs.contracts.ids.TypeIdPartialEq.TheImpl.{eq-value as type_eq}
use Rattle.wc_validate.specs.Exports.FirstExports.{type_position}
use Rattle.wc_validate.specs.FirstPositions.{kept_position}
use Rattle.wc_validate.proofs.FirstByKeyLemmas.{position_added, position_stays, turned}
use Rattle.wc_validate.proofs.FirstExportLemmas.{nats_law}
use Rattle.wc_validate.proofs.exports.first_exports.keep_destructor.Goals as goal

pub returns-then-contains_key : goal.returns-then-contains_key
returns-then-contains_key c = λ asked.
    position_stays nat_eq nats_law (λ (k : TypeId). k.0) c.args.destructors.now.entries c.args.position c.args.ty.0 asked c.contains_key.result
    c.contains_key.ensures c.if-contains_key.true
    ∙ ap (λ z. kept_position (type_position c.args.destructors.now.entries asked) z c.args.position)
    (turned nat_eq nats_law (λ (k : TypeId). k.0) asked c.args.ty.0)

pub returns : goal.returns
returns c = λ asked.
    position_added nat_eq nats_law (λ (k : TypeId). k.0) type_eq.it (λ a b. refl)
    c.args.destructors.now.entries c.insert.new.self.entries c.args.ty c.args.position c.args.ty.0 asked c.contains_key.result
    c.in_ok-insert.ensures.entries refl c.contains_key.ensures c.if-contains_key.false
    ∙ ap (λ z. kept_position (type_position c.args.destructors.now.entries asked) z c.args.position)
    (turned nat_eq nats_law (λ (k : TypeId). k.0) asked c.args.ty.0)
