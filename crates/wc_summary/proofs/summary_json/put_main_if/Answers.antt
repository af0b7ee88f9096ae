use Rattle.std.proofs.Common.{◌≡◌, true, false, nat_lt, rules}
use Rattle.wc_read.specs.Names.{name_entries}
use Rattle.wc_summary.specs.Summary.{main_view}
use Rattle.wc_summary.specs.SummaryJson.{main_json}
use Rattle.wc_summary.proofs.SummaryTextLemmas.{values_none, values_one}
use Rattle.wc_summary.proofs.summary_json.put_main_if.Goals as goal

pub returns-then-part-gt0 : goal.returns-then-part-gt0
returns-then-part-gt0 c =
    let t : nat_lt 0 c.args.part.now.imports ≡ true = search rules in
    rw t (values_one (main_json (name_entries c.args.names.now) (main_view c.args.part.now)) _ _ _ c.put_main.ensures)

pub returns-else-part-gt0 : goal.returns-else-part-gt0
returns-else-part-gt0 c = let f : nat_lt 0 c.args.part.now.imports ≡ false = search rules in rw f (values_none c.args.out.now)
