use Rattle.std.proofs.Common.{List, map, subst, ℕ}
use Rattle.std.proofs.lemmas.Result.{IfOk-weaker}
use Rattle.wc_read.specs.Names.{name_entries}
use Rattle.wc_read.specs.Reading.Names.{AreFunctionNames}
use Rattle.wc_summary.specs.Summary.{entry_view}
use Rattle.wc_ways.proofs.imports.text_of.Goals as goal

pub returns-in-Ok : goal.returns-in-Ok
returns-in-Ok c =
    let names = name_entries c.in-Ok.names in
    IfOk-weaker c.lines_of.result _ _
    (λ s is. (names, map entry_view c.args.entries.now.entries, subst (λ (b : List ℕ). AreFunctionNames b names) c.module.ensures c.in-Ok.ensures.found, c.requires, is)) c.lines_of.ensures
