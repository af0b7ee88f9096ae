use Rattle.std.proofs.Common.{◌++◌, ◌∙◌, [], ap, map}
use Rattle.std.specs.Option.{option_to_list}
use Rattle.wc_read.specs.Exports.{export_value}
use Rattle.wc_gc.specs.Exports.{export_entries}
use Rattle.wc_why.specs.Texts.{text_of}
use Rattle.wc_import_paths.specs.Roots.{export_named}
use Rattle.wc_import_paths.proofs.PickedLemmas.{joined_more}
use Rattle.wc_import_paths.proofs.roots.exports_among.Goals as goal

pub loop-name-preserved : goal.loop-name-preserved
loop-name-preserved c =
    let es = export_entries c.args.named.now.entries in
    joined_more text_of (λ name. option_to_list (export_named es name)) c.args.names.now c.loop-name.name-index _ [] (map export_value c.loop-name.found.items)
    (map export_value c.push_some.new.found.items) c.loop-name-test.true c.loop-name.invariant
    (c.in_ok-push_some.ensures ∙ ap (λ z. map export_value c.loop-name.found.items ++ option_to_list z) c.export_named.ensures)
