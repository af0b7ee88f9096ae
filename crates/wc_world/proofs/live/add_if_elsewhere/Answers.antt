use Rattle.std.proofs.Common.{◌∙◌, [], ◌∷◌, cond, OnOk, sym, subst}
use Rattle.wc_resolve.specs.Live.{AddsListings}
use Rattle.wc_world.proofs.LiveWalkLemmas.{adds_none}
use Rattle.wc_world.proofs.live.add_if_elsewhere.Goals as goal

pub returns-then-is_from_elsewhere : goal.returns-then-is_from_elsewhere
returns-then-is_from_elsewhere c =
    subst (λ b. OnOk c.add_type_id.result (AddsListings c.args.resolve.now c.args.live.now c.add_type_id.new.self (cond b (c.args.ty.0 ∷ []) [])))
    (sym c.if-is_from_elsewhere.true ∙ c.is_from_elsewhere.ensures) c.add_type_id.ensures.added

pub returns : goal.returns
returns c =
    subst (λ b. AddsListings c.args.resolve.now c.args.live.now c.args.live.now (cond b (c.args.ty.0 ∷ []) []))
    (sym c.if-is_from_elsewhere.false ∙ c.is_from_elsewhere.ensures) (adds_none c.args.resolve.now c.args.live.now)
