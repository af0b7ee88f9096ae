use Rattle.std.proofs.Common.{ℕ, List, ◌++◌, ◌∙◌, ap}
use Rattle.wc_write.specs.Bodies.{body_text}
use Rattle.wc_gc.specs.AddedCode.{stack_body}
use Rattle.wc_gc.specs.MachineLaws.{IsStackCode}
use Rattle.wc_gc.proofs.AddedCodeLemmas.{spells_only}
use Rattle.wc_gc.proofs.added_code.allocate_stack_via_realloc.Goals as goal

pub returns-clause-allocates : goal.returns-clause-allocates
returns-clause-allocates c =
    let body = stack_body c.args.realloc c.args.sp c.args.state in
    spells_only (IsStackCode c.args.realloc c.args.sp c.args.state) body _ c.body_text_read.ensures (c.added_bodies_are_spellable.ensures.stack c.args.realloc c.args.sp c.args.state c.ranges.realloc.fits c.ranges.sp.fits c.index_is_u32.ensures) (c.stack_body_allocates.ensures c.args.realloc c.args.sp c.args.state) (c.in_ok-append_stack_body.ensures ∙ ap (λ (z : List ℕ). z ++ body_text body) c.new-body.ensures.items)
