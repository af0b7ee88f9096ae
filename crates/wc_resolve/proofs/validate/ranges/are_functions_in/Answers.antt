use Rattle.std.proofs.Common.{rules}
use Rattle.wc_resolve.specs.Views.{function_entry}
use Rattle.wc_resolve.specs.Ranges.{IsFunctionIn}
use Rattle.wc_resolve.proofs.ViewedLemmas.{viewed}
use Rattle.wc_resolve.proofs.validate.ranges.are_functions_in.Goals as goal

pub returns : goal.returns
returns c = viewed function_entry (λ e. IsFunctionIn c.args.count e.1) c.args.functions.now.entries c.all.result (search rules)
