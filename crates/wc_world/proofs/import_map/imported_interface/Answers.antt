use Rattle.wc_world.proofs.import_map.imported_interface.Goals as goal

pub returns-clause-lowerings : goal.returns-clause-lowerings
returns-clause-lowerings g c = λ imports a h. c.in_ok-lowerings.ensures.lowerings imports a h

pub returns-clause-kept : goal.returns-clause-kept
returns-clause-kept g c = λ imports a h. c.in_ok-lowerings.ensures.kept imports a h
