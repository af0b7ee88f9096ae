use Rattle.std.proofs.Common.{rules}
use Rattle.wc_calls.proofs.AskedKeyLemmas.{no_exports}
use Rattle.wc_calls.proofs.asked_keys.named_exports.Goals as goal

pub returns-else-has_world : goal.returns-else-has_world
returns-else-has_world c =
    rw (no_exports c.args.resolve.now c.args.world.0 (λ lt. absurd (let yes = c.has_world.ensures.1 lt in let no = c.if-has_world.false in cc))) (search rules)
