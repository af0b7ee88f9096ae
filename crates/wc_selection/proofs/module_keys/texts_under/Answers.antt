use Rattle.std.proofs.Common.{ℕ, List, [], ◌∙◌, ap, map, rules, sym}
use Rattle.std.specs.Borrow.{Bor}
use Rattle.wc_selection.proofs.RequiredLemmas.{Pair, under_no, under_yes}
use Rattle.wc_selection.proofs.module_keys.texts_under.Goals as goal
use Rattle.wc_selection.proofs.module_keys.texts_under.Goals.{then-is_under+in_ok-push, else-is_under}
use Rattle.wc_maps.specs.Texts.{text_of}

pub loop-pair-preserved : goal.loop-pair-preserved
loop-pair-preserved c =
    let first = c.args.first.now in
    let e : Bor (List ℕ) = record { ref_ptr = (0, 0); now = [] } in
    let d : Pair = (e, e) in
    elim c.if-is_under.branch [
      | then-is_under+in_ok-push w ↦
          ap (λ v. map text_of v.items) w.texts-is ∙ ap (map text_of) w.in_ok-push.ensures.items
          ∙ under_yes first c.args.pairs.now c.loop-pair.pair-index d c.loop-pair.texts.items (search rules)
          (sym c.is_under.ensures ∙ w.if-is_under.true) c.loop-pair.invariant
      | else-is_under w ↦
          ap (λ v. map text_of v.items) w.texts-is
          ∙ under_no first c.args.pairs.now c.loop-pair.pair-index d c.loop-pair.texts.items (search rules)
          (sym c.is_under.ensures ∙ w.if-is_under.false) c.loop-pair.invariant
    ]
