use Rattle.std.proofs.Common.{◌∙◌, ◌++◌, List, ap, append-nil, map, option_map, sym}
use Rattle.std.proofs.lemmas.Result.{on_ok_weaker}
use Rattle.wc_names.specs.Views.{import_view}
use Rattle.wc_paths.specs.Counts.{counts_value}
use Rattle.wc_read.specs.Imports.{import_value}
use Rattle.wc_summary.specs.Leads.{as_number}
use Rattle.wc_ways.specs.Found.{found_as}
use Rattle.wc_ways.specs.Wanted.{WantedView}
use Rattle.wc_ways.specs.Private.Wanted.{wanted_view}
use Rattle.wc_ways.proofs.FoundLemmas.{by_record}
use Rattle.wc_ways.proofs.found.put_from_file.Goals as goal

pub returns-in-Some : goal.returns-in-Some
returns-in-Some c w key asked =
    let a = c.args.asking in
    let i = import_value c.args.import.now in
    let old = map wanted_view c.args.wanted.now.items in
    on_ok_weaker c.put_import.result
    (λ put. put ∙ ap (λ (z : List WantedView). old ++ z)
    (by_record w key a.part c.as_number-number.result c.args.records.now i _ (sym (ap (option_map (λ r. import_view r.now)) c.in-Some.is) ∙ c.recorded_at.ensures)
    ∙ ap (λ n. found_as w key a.part n c.args.records.now i) c.as_number-number.ensures))
    (c.put_import.ensures w key asked)

pub returns-in-None : goal.returns-in-None
returns-in-None c w key asked =
    let a = c.args.asking in
    let old = map wanted_view c.args.wanted.now.items in
    sym (append-nil old) ∙ ap (λ (z : List WantedView). old ++ z)
    (by_record w key a.part (as_number (counts_value a.rows.now.counts) c.args.item) c.args.records.now (import_value c.args.import.now) _
    (sym (ap (option_map (λ r. import_view r.now)) c.in-None.is) ∙ c.recorded_at.ensures))
