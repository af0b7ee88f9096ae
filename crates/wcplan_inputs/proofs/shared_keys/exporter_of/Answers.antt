use Rattle.std.proofs.Common.{◌∙◌, sym}
use Rattle.wcplan_inputs.specs.Private.SharedKeys.{asked_view, names_view}
use Rattle.wcplan_inputs.proofs.SharedKeyLemmas.{adapter_named, adapter_shared, main_pairs, main_shared}
use Rattle.wcplan_inputs.proofs.shared_keys.exporter_of.Goals as goal

pub returns-then-branch-clause-pairs : goal.returns-then-branch-clause-pairs
returns-then-branch-clause-pairs c =
    main_pairs (names_view c.args.names.now) (asked_view c.args.asked.now) (sym c.in_ok-has_all.ensures ∙ c.if-branch.true)

pub returns-then-branch-clause-shared : goal.returns-then-branch-clause-shared
returns-then-branch-clause-shared c =
    main_shared (names_view c.args.names.now) (asked_view c.args.asked.now) (sym c.in_ok-has_all.ensures ∙ c.if-branch.true)

pub returns-clause-pairs : goal.returns-clause-pairs
returns-clause-pairs c =
    adapter_named (names_view c.args.names.now) (asked_view c.args.asked.now) c.only_exporter.result (sym c.in_ok-has_all.ensures ∙ c.if-branch.false)
    c.only_exporter.ensures.pairs

pub returns-clause-shared : goal.returns-clause-shared
returns-clause-shared c =
    adapter_shared (names_view c.args.names.now) (asked_view c.args.asked.now) c.only_exporter.result (sym c.in_ok-has_all.ensures ∙ c.if-branch.false)
    c.only_exporter.ensures.one
