use Rattle.std.proofs.Common.{◌∙◌, sym}
use Rattle.wc_read.specs.Imports.{import_value}
use Rattle.wc_import_paths.specs.Patterns.{pattern_view}
use Rattle.wc_import_paths.specs.Patterns.{is_match}
use Rattle.wc_import_paths.proofs.SearchLemmas.{any_here}
use Rattle.wc_import_paths.proofs.patterns.is_asked.Goals as goal

pub returns-then-is_match : goal.returns-then-is_match
returns-then-is_match c =
    sym (any_here pattern_view (λ p. is_match p (import_value c.args.import.now)) c.args.patterns.now c.loop-pattern.pattern-index _ c.loop-pattern-test.true
    (sym c.is_match.ensures ∙ c.if-is_match.true))
