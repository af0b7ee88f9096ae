use Rattle.std.proofs.Common.{◌∙◌, ap, map, sym}
use Rattle.std.specs.Option.{option_map}
use Rattle.wc_read.specs.Exports.{export_value}
use Rattle.wc_gc.specs.Exports.{export_entries}
use Rattle.wc_why.specs.Texts.{text_of}
use Rattle.wc_import_paths.proofs.RootLemmas.{found_more, is_missing, missing_fault, still_there}
use Rattle.wc_import_paths.proofs.roots.exports_named.Goals as goal

pub loop-name-preserved : goal.loop-name-preserved
loop-name-preserved c =
    let es = export_entries c.args.named.now.entries in
    let is = sym (ap (option_map export_value) c.in-Some.is) ∙ c.export_named.ensures in
    record {
      found = ap (map export_value) c.in_ok-push-in-Some.ensures.items
          ∙ found_more es c.args.names.now c.loop-name.name-index _ c.loop-name-test.true c.loop-name.found.items c.in-Some.export c.loop-name.invariant.found is;
      there = still_there es c.args.names.now c.loop-name.name-index _ c.loop-name-test.true c.in-Some.export c.loop-name.invariant.there is;
    }

pub returns-in-None-clause-fault : goal.returns-in-None-clause-fault
returns-in-None-clause-fault c =
    let es = export_entries c.args.named.now.entries in
    let is = sym (ap (option_map export_value) c.in-None.is) ∙ c.export_named.ensures in
    missing_fault es (map text_of c.args.names.now) _ c.missing.result
    (is_missing es c.args.names.now c.loop-name.name-index _ c.loop-name-test.true c.loop-name.invariant.there is) c.missing.ensures
