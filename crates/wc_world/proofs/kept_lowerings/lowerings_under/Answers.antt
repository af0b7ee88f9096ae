use Rattle.wc_world.proofs.KeptLoweringLemmas.{on_ok_holds}
use Rattle.wc_world.proofs.kept_lowerings.lowerings_under.Goals as goal

pub returns-in-Interface-clause-lowerings : goal.returns-in-Interface-clause-lowerings
returns-in-Interface-clause-lowerings g c = λ imports a h. c.lowerings_of.ensures imports a

pub returns-in-Interface-clause-kept : goal.returns-in-Interface-clause-kept
returns-in-Interface-clause-kept g c = λ imports a h. on_ok_holds c.lowerings_of.result h

pub returns-in-Name-clause-lowerings : goal.returns-in-Name-clause-lowerings
returns-in-Name-clause-lowerings g c = λ imports a h. c.lowerings_once.ensures.lowerings imports a h

pub returns-in-Name-clause-kept : goal.returns-in-Name-clause-kept
returns-in-Name-clause-kept g c = λ imports a h. c.lowerings_once.ensures.kept imports a h
