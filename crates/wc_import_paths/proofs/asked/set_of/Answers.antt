use Rattle.std.proofs.Common.{◌∙◌, ◌||◌, [], None, ap, get_or, sym}
use Rattle.wc_import_paths.specs.Patterns.{pattern_view}
use Rattle.wc_import_paths.specs.Private.Asked.{in_set, is_same, key_of, key_view}
use Rattle.wc_import_paths.proofs.AskedLemmas.{one_added}
use Rattle.wc_import_paths.proofs.SearchLemmas.{any_next}
use Rattle.wc_import_paths.specs.declared.patterns.ImportPattern.{ImportPattern}
use Rattle.wc_import_paths.proofs.asked.set_of.Goals as goal

pub loop-pattern-preserved : goal.loop-pattern-preserved
loop-pattern-preserved c q =
    let d : ImportPattern = record { key = record { ref_ptr = (0, 0); now = [] }; name = None } in
    let x = get_or c.args.patterns.now c.loop-pattern.pattern-index d in
    one_added c.loop-pattern.set.keys c.insert.new.self.keys c.key_of.result q (c.in_ok-insert.ensures.updates.0 q)
    ∙ (ap (λ k. in_set c.loop-pattern.set.keys q || is_same k (key_view q)) c.key_of.ensures
    ∙ (ap (λ b. b || is_same (key_of (pattern_view x)) (key_view q)) (c.loop-pattern.invariant q)
    ∙ sym (any_next pattern_view (λ y. is_same (key_of y) (key_view q)) c.args.patterns.now c.loop-pattern.pattern-index d c.loop-pattern-test.true)))
