use Rattle.std.proofs.Common.{◌∙◌, sym}
use Rattle.wc_read.specs.Imports.{import_value}
use Rattle.wc_import_paths.specs.Patterns.{pattern_view}
use Rattle.wcwhy.specs.Patterns.{is_near_package}
use Rattle.wc_import_paths.proofs.SearchLemmas.{found_here, none_more}
use Rattle.wcwhy.proofs.patterns.near_package.Goals as goal

pub returns-then-is_near_package : goal.returns-then-is_near_package
returns-then-is_near_package c =
    sym (found_here import_value (is_near_package (pattern_view c.args.pattern.now)) c.args.imports.now c.loop-one.one-index _ c.loop-one-test.true
    c.loop-one.invariant (sym c.is_near_package.ensures ∙ c.if-is_near_package.true))

pub loop-one-preserved : goal.loop-one-preserved
loop-one-preserved c =
    none_more import_value (is_near_package (pattern_view c.args.pattern.now)) c.args.imports.now c.loop-one.one-index _ c.loop-one-test.true
    c.loop-one.invariant (sym c.is_near_package.ensures ∙ c.if-is_near_package.false)
