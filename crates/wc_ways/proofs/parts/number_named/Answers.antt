use Rattle.std.proofs.Common.{◌∙◌, ap, sym}
use Rattle.std.specs.Option.{option_and_then, option_copied}
use Rattle.wc_paths.specs.Counts.{counts_value}
use Rattle.wc_summary.specs.Leads.{as_number}
use Rattle.wc_ways.proofs.parts.number_named.Goals as goal

pub returns-in-Some : goal.returns-in-Some
returns-in-Some c imports are =
    c.as_number.ensures
    ∙ ap (option_and_then (as_number (counts_value c.args.rows.now.counts)))
    (sym (ap option_copied c.in-Some.is) ∙ c.get.ensures.value ∙ are (c.args.import.«module», c.args.import.name))

pub returns-in-None : goal.returns-in-None
returns-in-None c imports are =
    ap (option_and_then (as_number (counts_value c.args.rows.now.counts)))
    (sym (ap option_copied c.in-None.is) ∙ c.get.ensures.value ∙ are (c.args.import.«module», c.args.import.name))
