use Rattle.std.proofs.Common.{ap, sym, ◌∙◌, refl}
use Rattle.std.specs.Option.{option_copied_mut}
use Rattle.wc_summary.proofs.EntryLemmas.{changed_at, changed_past}
use Rattle.wc_ways.specs.Imports.{with_modules}
use Rattle.wc_ways.specs.Private.SummaryShared.{modules_in}
use Rattle.wc_ways.proofs.summary_shared.set_modules.Goals as goal

pub returns-in-Some : goal.returns-in-Some
returns-in-Some c =
    changed_at (with_modules (modules_in c.args.main c.args.adapters.items)) c.args.entries.now.entries c.args.place c.in-Some.entry.now _ c.get_index_mut.ensures.unique
    (sym c.get_index_mut.ensures.value ∙ ap option_copied_mut c.in-Some.is) refl

pub returns-in_default : goal.returns-in_default
returns-in_default c =
    changed_past (with_modules (modules_in c.args.main c.args.adapters.items)) c.args.entries.now.entries c.args.place
    (sym c.get_index_mut.ensures.value ∙ ap option_copied_mut c.in_default.is)
