use Rattle.std.proofs.Common.{ap, option_map, string_bytes, subst}
use Rattle.std.proofs.lemmas.Result.{on_ok_weaker}
use Rattle.wc_resolve.specs.Dependencies.{id_of_interface}
use Rattle.wc_summary.specs.Entries.{entries_view}
use Rattle.wc_ways.specs.Imports.{first_name}
use Rattle.wc_ways.specs.Private.AskedKeys.{imported_shown}
use Rattle.wc_ways.specs.Private.SummaryShared.{SharesFirst}
use Rattle.wc_ways.proofs.SharedEntryLemmas.{import_none, import_shared, import_unnamed}
use Rattle.wc_ways.proofs.summary_shared.share_import.Goals as goal

pub returns-in-Some-interface : goal.returns-in-Some-interface
returns-in-Some-interface c w h =
    let old = entries_view c.args.entries.now.entries in
    let new = entries_view c.share_under.new.entries.entries in
    on_ok_weaker c.share_under.result
    (λ s. import_shared w (imported_shown c.args.import) old new (string_bytes c.in-Some.name) c.in-Some-interface.id.0 (ap (option_map string_bytes) c.in-Some.is)
    (ap (option_map id_of_interface) c.in-Some-interface.is) (subst (λ z. SharesFirst (first_name w c.in-Some-interface.id.0) z old new) c.deref.ensures s))
    (c.share_under.ensures w h)

pub returns-in-None-interface : goal.returns-in-None-interface
returns-in-None-interface c w h =
    import_none w (imported_shown c.args.import) (entries_view c.args.entries.now.entries) (ap (option_map id_of_interface) c.in-None-interface.is)

pub returns-in-None : goal.returns-in-None
returns-in-None c w h =
    import_unnamed w (imported_shown c.args.import) (entries_view c.args.entries.now.entries) (ap (option_map string_bytes) c.in-None.is)
