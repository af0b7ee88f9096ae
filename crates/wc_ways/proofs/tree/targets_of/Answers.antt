use Rattle.std.proofs.Common.{◌<◌, ◌∷◌, ◌++◌, ◌∙◌, [], ap, arith, length}
use Rattle.wc_import_paths.proofs.PickedLemmas.{mapped_more}
use Rattle.wc_ways.specs.Wanted.{WantedView}
use Rattle.wc_ways.specs.Private.Wanted.{wanted_view}
use Rattle.wc_ways.specs.declared.wanted.Wanted.{Wanted}
use Rattle.wc_ways.proofs.tree.targets_of.Goals as goal

pub loop-one-preserved : goal.loop-one-preserved
loop-one-preserved c =
    let within : c.loop-one.one-index < length c.args.wanted.now = omega arith in
    mapped_more wanted_view (λ (v : WantedView). v.target) c.args.wanted.now c.loop-one.one-index _ c.loop-one.targets.items c.push.new.self.items within c.loop-one.invariant
    (c.in_ok-push.ensures.items ∙ ap (λ (v : Wanted). c.loop-one.targets.items ++ v.target ∷ []) c.one-item.is)
