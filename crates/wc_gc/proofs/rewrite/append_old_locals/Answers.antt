use Rattle.std.proofs.Common.{sym, ◌∙◌, ap, ◌++◌}
use Rattle.wc_read.specs.BodyOperators.{locals_read}
use Rattle.wc_write.specs.Bodies.{locals_text}
use Rattle.wc_write.specs.Text.{vector_text}
use Rattle.wc_gc.specs.NewIndices.{new_of}
use Rattle.wc_gc.proofs.RewriteLemmas.{same_locals}
use Rattle.wc_gc.proofs.rewrite.append_old_locals.Goals as goal

pub returns-in_ok-extend_from_slice-in-Some : goal.returns-in_ok-extend_from_slice-in-Some
returns-in_ok-extend_from_slice-in-Some c =
    let new = new_of c.args.new.now in
    let text = rw c.in-Some.is at c.shortest_locals.ensures.text in
    let none = rw c.in-Some.is at c.shortest_locals.ensures.no_types in
    c.in_ok-extend_from_slice-in-Some.ensures.items
    ∙ ap (λ z. c.args.out.now.items ++ z)
    (text ∙ ap (vector_text locals_text) (sym (same_locals new (locals_read c.args.operators.now) none)))
