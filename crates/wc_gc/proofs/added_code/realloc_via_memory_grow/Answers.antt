use Rattle.std.proofs.Common.{ℕ, List, ◌++◌, ◌∙◌, ap}
use Rattle.wc_write.specs.Bodies.{body_text}
use Rattle.wc_gc.specs.AddedCode.{growing_body}
use Rattle.wc_gc.specs.MachineLaws.{IsGrowingRealloc}
use Rattle.wc_gc.proofs.AddedCodeLemmas.{spells_only}
use Rattle.wc_gc.proofs.added_code.realloc_via_memory_grow.Goals as goal

pub returns-clause-grows : goal.returns-clause-grows
returns-clause-grows c =
    let e = c.args.page_size_log2 in
    spells_only (IsGrowingRealloc e) (growing_body e 0) _ c.body_text_read.ensures (c.added_bodies_are_spellable.ensures.growing e c.requires) (c.growing_body_grows.ensures e c.requires) (c.in_ok-append_growing_body.ensures ∙ ap (λ (z : List ℕ). z ++ body_text (growing_body e 0)) c.new-body.ensures.items)
