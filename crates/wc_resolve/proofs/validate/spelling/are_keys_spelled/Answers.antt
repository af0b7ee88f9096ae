use Rattle.std.proofs.Common.{rules}
use Rattle.wc_resolve.specs.Views.{world_entry}
use Rattle.wc_resolve.specs.WellFormed.{IsKeySpelled}
use Rattle.wc_resolve.proofs.ViewedLemmas.{viewed}
use Rattle.wc_resolve.proofs.validate.spelling.are_keys_spelled.Goals as goal

pub returns : goal.returns
returns c = viewed world_entry (λ e. IsKeySpelled e.0 e.1) c.args.entries.now.entries c.all.result (search rules)
