use Rattle.std.proofs.Common.{◌<◌, ◌≤◌, ◌∙◌, List, true, ap, arith, length}
use Rattle.std.proofs.lemmas.List.{take_all}
use Rattle.wc_read.specs.Imports.{ImportValue, import_values}
use Rattle.wc_read.specs.declared.types.Import.{Import}
use Rattle.wc_module_ways.specs.CoreImports.{library_tags}
use Rattle.wc_module_ways.specs.Modules.{is_of_core}
use Rattle.wc_module_ways.specs.Tags.{tag_if}
use Rattle.wc_module_ways.proofs.ImportLemmas.{tags_next}
use Rattle.wc_module_ways.proofs.core_imports.library_tags.Goals as goal

pub loop-import-preserved : goal.loop-import-preserved
loop-import-preserved c given has =
    let within : c.loop-import.import-index < length c.args.imports.now = omega arith in
    tags_next (λ (i : ImportValue). tag_if (is_of_core given true i) i) c.args.imports.now c.loop-import.import-index _ c.loop-import.tags.items
    c.push.new.self.items _ within
    (c.in_ok-library_tag.ensures given has) c.in_ok-push.ensures.items (c.loop-import.invariant given has)

pub returns : goal.returns
returns c given has =
    let over : length c.args.imports.now ≤ c.loop-import.import-index = omega arith in
    c.loop-import.invariant given has
    ∙ ap (λ (l : List Import). library_tags given (import_values l)) (take_all c.loop-import.import-index c.args.imports.now over)
