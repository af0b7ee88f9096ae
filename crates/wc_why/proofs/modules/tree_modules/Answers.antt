use Rattle.std.proofs.Common.{ap, ℕ, ◌∙◌}
use Rattle.std.specs.declared.alloc.Global.{Global}
use Rattle.std.specs.declared.vec.Vec.{Vec}
use Rattle.wc_why.proofs.ModuleLemmas.{group_is, module_put, positions_below}
use Rattle.wc_why.proofs.modules.tree_modules.Goals as goal

pub shown_items-requires-clause-there : goal.shown_items-requires-clause-there
shown_items-requires-clause-there c =
    let s = c.args.shown in
    positions_below s.tree.now.items.items c.loop-position.position c.deref.result.now
    (group_is s c.requires c.loop-position.position c.index.result.now c.loop-position-test.true c.deref.result.now
    (c.deref.ensures.value ∙ ap (λ (v : Vec ℕ Global). v.items) c.index.ensures))

pub loop-position-preserved : goal.loop-position-preserved
loop-position-preserved c =
    let s = c.args.shown in
    module_put s c.requires c.loop-position.position _ c.index.result.now c.loop-position-test.true c.deref.result.now
    (c.deref.ensures.value ∙ ap (λ (v : Vec ℕ Global). v.items) c.index.ensures) c.in_ok-items.items.items c.deref-in-loop-position.result.now c.deref-in-loop-position.ensures.value
    c.in_ok-items.ensures c.in_ok-module.«module» c.in_ok-module.ensures c.loop-position.modules.items c.push.new.self.items c.in_ok-push.ensures.items
    c.loop-position.invariant
