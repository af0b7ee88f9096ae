use Rattle.std.proofs.Common.{◌∙◌, ap, map, sym}
use Rattle.wc_world.specs.Lowering.{Lowerer}
use Rattle.wc_world.specs.WorldViews.{lowering_entry}
use Rattle.wc_world.specs.Private.LoweringContext.{lowerer_in}
use Rattle.wc_world.proofs.KeptLoweringLemmas.{if_cloned, kept_more, on_ok_holds}
use Rattle.wc_world.proofs.kept_lowerings.lowerings_once.Goals as goal

pub returns-in-Some-clause-lowerings : goal.returns-in-Some-clause-lowerings
returns-in-Some-clause-lowerings g c = λ imports a h.
    if_cloned _ c.clone.result c.clone.ensures.cases (λ v is. ap (λ z. map lowering_entry z.entries) is ∙ h c.args.id c.in-Some.known.now (sym c.in-Some.ensures.value))

pub returns-in-Some-clause-kept : goal.returns-in-Some-clause-kept
returns-in-Some-clause-kept g c = λ imports a h. on_ok_holds c.clone.result h

pub returns-clause-lowerings : goal.returns-clause-lowerings
returns-clause-lowerings g c = λ imports a h. c.in_ok-found.ensures imports a

pub returns-clause-kept : goal.returns-clause-kept
returns-clause-kept g c = λ imports a h.
    let l : Lowerer = lowerer_in g.O.ImportOptions.options_of c.args.context.now imports in
    kept_more l c.args.kept.now.entries c.insert.new.self.entries c.args.id c.in_ok-shared.shared c.in_ok-insert.ensures.updates.0 (ap (λ z. map lowering_entry z.entries) c.in_ok-shared.ensures.cases ∙ c.in_ok-found.ensures imports a) h
