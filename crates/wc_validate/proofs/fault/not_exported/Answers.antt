use Rattle.std.proofs.Common.{refl}
use Rattle.wc_validate.proofs.fault.not_exported.Goals as goal

pub returns : goal.returns
returns c = (record { 0 = c.in_ok-from_str.field-0 }, refl, c.in_ok-from_str.ensures.ok)
