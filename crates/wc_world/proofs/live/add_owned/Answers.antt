use Rattle.std.proofs.Common.{◌∙◌, sym}
use Rattle.wc_world.proofs.OwnerLemmas.{owned_none}
use Rattle.wc_world.proofs.live.add_owned.Goals as goal

pub returns-in-Some : goal.returns-in-Some
returns-in-Some c = λ passed new before. c.add_to_owner.ensures c.args.resolve.now (sym c.in-Some.ensures) passed new before

pub returns-in-None : goal.returns-in-None
returns-in-None c = λ passed new before. before ∙ sym (owned_none c.args.resolve.now passed c.args.ty.0 (sym c.in-None.ensures))
