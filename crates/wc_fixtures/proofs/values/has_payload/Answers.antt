use Rattle.std.specs.Prelude.{[]}
use Rattle.wc_fixtures.proofs.values.has_payload.Goals as goal

pub returns-in-Typed : goal.returns-in-Typed
returns-in-Typed c = rw c.in-Typed.is (λ t. c.is_async_value.ensures t [])
