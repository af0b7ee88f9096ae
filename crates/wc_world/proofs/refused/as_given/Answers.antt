use Rattle.std.proofs.Common.{refl, sym, ◌∙◌}
use Rattle.wc_world.proofs.RefusedLemmas.{given_refused}
use Rattle.wc_world.proofs.refused.as_given.Goals as goal

pub returns-in-Ok : goal.returns-in-Ok
returns-in-Ok c =
    given_refused c.args.encoder.now c.args.refused _ c.in-Some.fault c.in-Ok.place c.given_module.result.now (sym c.read_fault_in.ensures ∙ c.in-Some.is)
    c.given_module.ensures refl refl c.in-Ok.ensures.place c.in-Ok.ensures.cause
