use Rattle.std.proofs.Common.{◌∙◌, sym}
use Rattle.wc_read.specs.Imports.{import_value}
use Rattle.wc_import_paths.specs.Patterns.{pattern_view}
use Rattle.wc_import_paths.specs.Patterns.{is_match}
use Rattle.wc_import_paths.proofs.SearchLemmas.{any_here}
use Rattle.wc_import_paths.proofs.patterns.is_known.Goals as goal

pub returns-then-is_match : goal.returns-then-is_match
returns-then-is_match c =
    sym (any_here import_value (is_match (pattern_view c.args.pattern.now)) c.args.imports.now c.loop-import.import-index _ c.loop-import-test.true
    (sym c.is_match.ensures ∙ c.if-is_match.true))
