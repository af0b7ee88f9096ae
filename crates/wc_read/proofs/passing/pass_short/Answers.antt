use Rattle.std.proofs.Common.{[], ◌∷◌, true}
use Rattle.wc_read.proofs.PassingLemmas.{passed_none, passed_more, passes_shorter, size_within, some_open}
use Rattle.wc_read.proofs.passing.pass_short.Goals as goal

pub loop-size-init : goal.loop-size-init
loop-size-init c = λ memory blocks some. passed_none memory blocks c.args.input.now

pub split_at-requires : goal.split_at-requires
split_at-requires c = size_within true (true ∷ []) (true ∷ []) c.loop-size.rest.now c.in-Some.size (c.in-Some.ensures true (true ∷ []) (some_open true []))

pub loop-size-smaller : goal.loop-size-smaller
loop-size-smaller c =
    passes_shorter true (true ∷ []) (true ∷ []) c.loop-size.rest.now c.in-Some.size c.split_at.result.1.now (c.in-Some.ensures true (true ∷ []) (some_open true [])) c.split_at.ensures.back

pub loop-size-preserved : goal.loop-size-preserved
loop-size-preserved c = λ memory blocks some.
    passed_more memory blocks blocks blocks c.args.input.now c.loop-size.rest.now c.in-Some.size c.split_at.result.1.now (c.loop-size.invariant memory blocks some) (c.in-Some.ensures memory blocks some) c.split_at.ensures.back
