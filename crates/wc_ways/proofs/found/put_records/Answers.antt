use Rattle.std.proofs.Common.{◌∙◌, ◌++◌, ℕ, Option, ap, map}
use Rattle.wc_names.specs.Views.{import_view}
use Rattle.wc_paths.specs.Counts.{counts_value}
use Rattle.wc_validate.specs.Imports.Iter.{imports_left}
use Rattle.wc_ways.specs.Found.{found_with, recorded_found}
use Rattle.wc_ways.specs.Private.Wanted.{wanted_view}
use Rattle.wc_ways.proofs.LoopLemmas.{flat_end, flat_next}
use Rattle.wc_ways.proofs.found.put_records.Goals as goal

pub loop-module-preserved : goal.loop-module-preserved
loop-module-preserved c w key imports asked are =
    let a = c.args.asking in
    let now = map wanted_view c.loop-module.wanted.items in
    flat_next (recorded_found w key a.part (counts_value a.rows.now.counts) imports) now (map wanted_view c.put_import.new.wanted.items)
    (imports_left c.loop-module.module-iterator) (imports_left c.next.new.self) _ _ c.in-Some.ensures.steps
    (c.in_ok-put_import.ensures w key asked
    ∙ ap (λ (n : Option ℕ). now ++ found_with w key a.part c.in-Some.«module».now c.in-Some.name.now (import_view c.in-Some.recorded.now) n)
    (c.number_named-number.ensures imports are))
    (c.loop-module.invariant w key imports asked are)

pub returns : goal.returns
returns c w key asked imports are =
    let a = c.args.asking in
    flat_end (recorded_found w key a.part (counts_value a.rows.now.counts) imports) _ (imports_left c.loop-module.module-iterator) _ c.in-None.ensures.steps.0
    (c.loop-module.invariant w key imports asked are)
