use Rattle.std.proofs.Common.{◌∙◌, ap, sym}
use Rattle.std.specs.List.{list_any}
use Rattle.wc_import_paths.specs.Patterns.{pattern_view}
use Rattle.wc_import_paths.specs.Private.Asked.{is_offered}
use Rattle.wc_import_paths.proofs.AskedLemmas.{known_is}
use Rattle.wc_import_paths.proofs.asked.has_pattern.Goals as goal

pub returns : goal.returns
returns c imports has =
    c.contains.ensures
    ∙ (has c.key_of.result
    ∙ (ap (λ k. list_any (is_offered k) imports) c.key_of.ensures ∙ sym (known_is imports (pattern_view c.args.pattern.now))))
