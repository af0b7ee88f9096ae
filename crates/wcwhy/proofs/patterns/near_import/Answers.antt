use Rattle.std.proofs.Common.{◌∙◌, sym}
use Rattle.wc_read.specs.Imports.{import_value}
use Rattle.wc_import_paths.specs.Patterns.{pattern_view}
use Rattle.wcwhy.specs.Patterns.{is_near}
use Rattle.wc_import_paths.proofs.SearchLemmas.{found_here, none_more}
use Rattle.wcwhy.proofs.patterns.near_import.Goals as goal

pub returns-then-is_near : goal.returns-then-is_near
returns-then-is_near c =
    sym (found_here import_value (is_near (pattern_view c.args.pattern.now)) c.args.imports.now c.loop-import.import-index _ c.loop-import-test.true
    c.loop-import.invariant (sym c.is_near.ensures ∙ c.if-is_near.true))

pub loop-import-preserved : goal.loop-import-preserved
loop-import-preserved c =
    none_more import_value (is_near (pattern_view c.args.pattern.now)) c.args.imports.now c.loop-import.import-index _ c.loop-import-test.true
    c.loop-import.invariant (sym c.is_near.ensures ∙ c.if-is_near.false)
