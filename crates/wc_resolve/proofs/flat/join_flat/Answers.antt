use Rattle.std.proofs.Common.{◌++◌, min, length, sym, ap, ◌∙◌}
use Rattle.std.proofs.lemmas.List.{take_rest}
use Rattle.wc_resolve.specs.declared.flat.WasmType.TheVariants.{I32}
use Rattle.wc_resolve.proofs.FlatStepLemmas.{joined_start, joined_walk_step, joined_all}
use Rattle.wc_resolve.proofs.flat.join_flat.Goals as goal

pub loop-index-init : goal.loop-index-init
loop-index-init c = sym (joined_start c.args.flat.now.items c.args.more.now)

pub loop-index-preserved : goal.loop-index-preserved
loop-index-preserved c =
    joined_walk_step c.loop-index.index c.min-shared.result c.args.flat.now.items c.args.more.now c.loop-index.flat.items c.index.result.now I32 c.join.result (c.min-shared.ensures ∙ ap (λ n. min n (length c.args.more.now)) (c.len.ensures ∙ c.args.flat.now.ok.0)) c.loop-index-test.true c.loop-index.invariant c.index.ensures c.join.ensures

pub returns : goal.returns
returns c = joined_all c.loop-index.index c.min-shared.result c.args.flat.now.items c.args.more.now c.loop-index.flat.items c.extend_from_slice.new.self.items
    (c.min-shared.ensures ∙ ap (λ n. min n (length c.args.more.now)) (c.len.ensures ∙ c.args.flat.now.ok.0)) c.loop-index.auto.index-end c.loop-index-test.false c.loop-index.invariant
    (c.in_ok-extend_from_slice.ensures.items ∙ ap (λ z. c.loop-index.flat.items ++ z) (take_rest c.args.more.now c.min-shared.result))
