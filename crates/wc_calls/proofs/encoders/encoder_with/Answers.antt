use Rattle.std.proofs.Common.{◌<◌, IfNone, length, subst}
use Rattle.std.proofs.lemmas.Result.{err_from_is_err_and}
use Rattle.wc_json.specs.Messages.{message_view}
use Rattle.wc_calls.specs.Encoders.{AreChosen}
use Rattle.wc_calls.proofs.CauseLemmas.{lengths_refused, world_refused}
use Rattle.wc_calls.proofs.encoders.encoder_with.Goals as goal

pub returns-in_err-world-clause-fault : goal.returns-in_err-world-clause-fault
returns-in_err-world-clause-fault c =
    let p = err_from_is_err_and c.from_residual.result c.from_residual.ensures.1 in
    rw (p.1, p.2) (world_refused (message_view c.args.message) c.args.modules.now c.in_err-world.field-0.0 c.in_err-world.ensures.fault)

pub returns-in_default-clause-fault : goal.returns-in_default-clause-fault
returns-in_default-clause-fault c =
    lengths_refused (message_view c.args.message) c.args.modules.now c.in_ok-world.world.0 c.without_place.result c.in_ok-world.ensures.named
    (subst (λ o. IfNone o (length c.args.modules.now < c.args.message.length)) c.in_default.is c.split.ensures.fewer) (c.without_place.ensures.fault, c.without_place.ensures.place)

pub returns-clause-parts : goal.returns-clause-parts
returns-clause-parts c =
    let chosen : AreChosen (message_view c.args.message) c.args.modules.now c.in_ok-world.world.0 c.in-Some.main.now c.in-Some.others.now =
    record { cut = c.in-Some.ensures.cut; size = c.in-Some.ensures.size; named = c.in_ok-world.ensures.named } in
    c.encoder_for.ensures.parts c.args.modules.now chosen

pub returns-clause-fault : goal.returns-clause-fault
returns-clause-fault c =
    let chosen : AreChosen (message_view c.args.message) c.args.modules.now c.in_ok-world.world.0 c.in-Some.main.now c.in-Some.others.now =
    record { cut = c.in-Some.ensures.cut; size = c.in-Some.ensures.size; named = c.in_ok-world.ensures.named } in
    c.encoder_for.ensures.fault c.args.modules.now chosen
