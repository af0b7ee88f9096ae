use Rattle.std.proofs.Common.{rules, subst}
use Rattle.std.proofs.lemmas.Result.{err_from_is_err_and}
use Rattle.wc_json.specs.Messages.{message_view}
use Rattle.wc_calls.specs.Encoders.{IsMessage}
use Rattle.wc_calls.specs.Private.Refusals.{IsTextRefused}
use Rattle.wc_calls.proofs.CauseLemmas.{json_refused, message_refused, no_memory, not_text}
use Rattle.wc_calls.proofs.encoders.input_of.Goals as goal

pub returns-in_default-clause-fault : goal.returns-in_default-clause-fault
returns-in_default-clause-fault c =
    not_text c.args.message.now c.args.modules.now c.without_place.result (search rules)
    (c.without_place.ensures.fault, c.without_place.ensures.place)

pub returns-in_err-message-clause-fault : goal.returns-in_err-message-clause-fault
returns-in_err-message-clause-fault c =
    let p = err_from_is_err_and c.from_residual.result c.from_residual.ensures.1 in
    let refused = subst (λ t. IsTextRefused t c.in_err-message.field-0.0) c.in-Ok.ensures.cases.0 c.in_err-message.ensures.fault in
    rw (p.1, p.2) (json_refused c.args.message.now c.args.modules.now c.in_err-message.field-0.0 refused)

pub returns-in_err-options-clause-fault : goal.returns-in_err-options-clause-fault
returns-in_err-options-clause-fault c =
    let p = err_from_is_err_and c.from_residual-in_err-options.result c.from_residual-in_err-options.ensures.1 in
    rw p.1 (no_memory c.args.message.now c.args.modules.now p.0 p.2)

pub returns-in_err-encoder-clause-fault : goal.returns-in_err-encoder-clause-fault
returns-in_err-encoder-clause-fault c =
    let p = err_from_is_err_and c.from_residual-in_err-encoder.result c.from_residual-in_err-encoder.ensures.1 in
    let m = message_view c.in_ok-message.message in
    let read : IsMessage c.args.message.now m = subst (λ t. IsMessage t m) c.in-Ok.ensures.cases.0 c.in_ok-message.ensures.ok in
    rw (p.1, p.2) (message_refused c.args.message.now c.args.modules.now m c.in_err-encoder.field-0.0 read c.in_err-encoder.ensures.fault)

pub returns-clause-encoder : goal.returns-clause-encoder
returns-clause-encoder c =
    let m = message_view c.in_ok-message.message in
    record {
      message = m;
      read = subst (λ t. IsMessage t m) c.in-Ok.ensures.cases.0 c.in_ok-message.ensures.ok;
      parts = c.in_ok-encoder.ensures.parts;
      formed = c.in_ok-encoder.ensures.formed;
    }

pub returns-clause-options : goal.returns-clause-options
returns-clause-options c =
    let m = message_view c.in_ok-message.message in
    (m, subst (λ t. IsMessage t m) c.in-Ok.ensures.cases.0 c.in_ok-message.ensures.ok, c.in_ok-options.ensures)
