use Rattle.std.proofs.Common.{◌∙◌, [], ◌∷◌, sym}
use Rattle.wc_resolve.proofs.BesideLemmas.{there_left, new_left}
use Rattle.wc_resolve.proofs.ListUnionLemmas.{keeps_same}
use Rattle.wc_resolve.proofs.live.leave.Goals as goal

pub returns-then-is_there-clause-added : goal.returns-then-is_there-clause-added
returns-then-is_there-clause-added g c = there_left (g.K.KnownTypes.known_of c.args.known.now) c.args.live.now c.args.id.0 (c.is_there.ensures.0 c.if-is_there.true)

pub returns-then-is_there-clause-kept : goal.returns-then-is_there-clause-kept
returns-then-is_there-clause-kept g c = keeps_same c.args.live.now

pub returns-in_err-push-clause-kept : goal.returns-in_err-push-clause-kept
returns-in_err-push-clause-kept g c = rw c.in_err-push.ensures.err (keeps_same c.args.live.now)

pub returns-clause-added : goal.returns-clause-added
returns-clause-added g c =
    rw c.in_ok-push.ensures.ok
    (new_left (g.K.KnownTypes.known_of c.args.known.now) c.args.live.now c.args.id.0 (λ h. (let e = sym (c.is_there.ensures.1 h) ∙ c.if-is_there.false in let bad : ⊥ = cc e in bad)))

pub returns-clause-kept : goal.returns-clause-kept
returns-clause-kept g c = (c.args.id.0 ∷ [], c.in_ok-push.ensures.ok)
