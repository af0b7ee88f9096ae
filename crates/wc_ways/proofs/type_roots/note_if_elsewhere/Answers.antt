use Rattle.std.proofs.Common.{◌∙◌, [], ◌∷◌, cond, OnOk, sym, subst}
use Rattle.wc_ways.specs.Private.Needs.{Finds}
use Rattle.wc_ways.proofs.NeedLemmas.{finds_none}
use Rattle.wc_ways.proofs.type_roots.note_if_elsewhere.Goals as goal

pub returns-then-is_from_elsewhere : goal.returns-then-is_from_elsewhere
returns-then-is_from_elsewhere c =
    let g = c.args.needing.now in
    subst (λ b. OnOk c.note_type.result (Finds g c.args.found.now c.note_type.new.found (cond b (c.args.ty.0 ∷ []) [])))
    (sym c.if-is_from_elsewhere.true ∙ c.is_from_elsewhere.ensures) c.note_type.ensures

pub returns : goal.returns
returns c =
    let g = c.args.needing.now in
    subst (λ b. Finds g c.args.found.now c.args.found.now (cond b (c.args.ty.0 ∷ []) []))
    (sym c.if-is_from_elsewhere.false ∙ c.is_from_elsewhere.ensures) (finds_none g c.args.found.now)
