use Rattle.std.proofs.Common.{◌≡◌, rules}
use Rattle.wc_resolve.specs.Views.{function_entry}
use Rattle.wc_resolve.proofs.ViewedLemmas.{viewed}
use Rattle.wc_resolve.proofs.validate.keys.are_functions_called.Goals as goal

pub returns : goal.returns
returns c = viewed function_entry (λ e. e.1.name ≡ e.0) c.args.functions.now.entries c.all.result (search rules)
