use Rattle.std.proofs.Common.{rules}
use Rattle.wc_resolve.specs.Views.{function_entry}
use Rattle.wc_resolve.specs.Names.{IsFunctionName}
use Rattle.wc_resolve.proofs.ViewedLemmas.{viewed}
use Rattle.wc_resolve.proofs.validate.spelling.are_functions_spelled.Goals as goal

pub returns : goal.returns
returns c = viewed function_entry (λ e. IsFunctionName e.0) c.args.functions.now.entries c.all.result (search rules)
