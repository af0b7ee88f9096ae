use Rattle.std.proofs.Common.{rules}
use Rattle.wc_resolve.specs.Views.{function_entry}
use Rattle.wc_resolve.specs.Kinds.{SignatureHasOnly}
use Rattle.wc_resolve.proofs.ViewedLemmas.{viewed}
use Rattle.wc_resolve.proofs.validate.type_test.functions_pass.Goals as goal

pub returns : goal.returns
returns g c = viewed function_entry (λ e. SignatureHasOnly (g.T.TypeTest.Passes c.args.test.now) e.1) c.args.functions.now.entries c.all.result (search rules)
