use Rattle.std.proofs.Common.{rules}
use Rattle.wc_resolve.specs.Views.{world_entry}
use Rattle.wc_resolve.specs.Kinds.{DoesItemPass}
use Rattle.wc_resolve.proofs.ViewedLemmas.{viewed}
use Rattle.wc_resolve.proofs.validate.type_test.entries_pass.Goals as goal

pub returns : goal.returns
returns g c = viewed world_entry (λ e. DoesItemPass (g.T.TypeTest.Passes c.args.test.now) e.1) c.args.entries.now.entries c.all.result (search rules)
