use Rattle.std.proofs.Common.{◌++◌, ◌∷◌, [], sym, ◌∙◌, ap}
use Rattle.wc_json.specs.Document.{document_view}
use Rattle.wc_selection.specs.Worlds.{is_named}
use Rattle.wc_selection.proofs.WorldLemmas.{named_no, named_yes}
use Rattle.wc_selection.proofs.worlds.worlds_named.Goals as goal
use Rattle.wc_selection.proofs.worlds.worlds_named.Goals.{then-branch+in_ok-push, else-branch}

pub loop-index-preserved : goal.loop-index-preserved
loop-index-preserved c =
    let test = is_named (document_view c.args.document.now) c.args.form c.args.name.now in
    elim c.if-branch.branch [
      | then-branch+in_ok-push w ↦ ap (λ v. v.items) w.indices-is ∙
          (w.in_ok-push.ensures.items ∙ ap (λ l. l ++ c.loop-index.index ∷ []) c.loop-index.invariant
          ∙ sym (named_yes test c.loop-index.index (sym c.in_ok-is_named.ensures ∙ w.if-branch.true)))
      | else-branch w ↦ ap (λ v. v.items) w.indices-is ∙ (c.loop-index.invariant
          ∙ sym (named_no test c.loop-index.index (sym c.in_ok-is_named.ensures ∙ w.if-branch.false)))
    ]
