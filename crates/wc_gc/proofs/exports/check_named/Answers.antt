use Rattle.std.proofs.Common.{inr, refl, sym, ◌∙◌, ap, Some}
use Rattle.wc_gc.proofs.exports.check_named.Goals as goal

pub returns-in_ok-from_str-in-Some-clause-fault : goal.returns-in_ok-from_str-in-Some-clause-fault
returns-in_ok-from_str-in-Some-clause-fault c =
    inr (c.in_ok-from_str-in-Some.field-0, refl, sym c.in-Some.ensures ∙ ap Some (sym c.in_ok-from_str-in-Some.ensures.ok))
