use Rattle.std.proofs.Common.{OnOk, subst, sym}
use Rattle.wc_resolve.specs.Roots.{static_roots}
use Rattle.wc_ways.specs.Private.Needs.{Finds}
use Rattle.wc_ways.proofs.NeedLemmas.{finds_none}
use Rattle.wc_ways.proofs.needs.note_static.Goals as goal

pub returns-in-Static : goal.returns-in-Static
returns-in-Static c =
    subst (λ z. OnOk c.note_type.result (Finds c.args.needing.now c.args.found.now c.note_type.new.found (static_roots z))) (sym c.in-Static.is) c.note_type.ensures

pub returns-in-AsyncStatic : goal.returns-in-AsyncStatic
returns-in-AsyncStatic c =
    subst (λ z. OnOk c.note_type-in-AsyncStatic.result (Finds c.args.needing.now c.args.found.now c.note_type-in-AsyncStatic.new.found (static_roots z))) (sym c.in-AsyncStatic.is) c.note_type-in-AsyncStatic.ensures

pub returns-in-Freestanding : goal.returns-in-Freestanding
returns-in-Freestanding c =
    subst (λ z. Finds c.args.needing.now c.args.found.now c.args.found.now (static_roots z)) (sym c.in-Freestanding.is) (finds_none c.args.needing.now c.args.found.now)

pub returns-in-AsyncFreestanding : goal.returns-in-AsyncFreestanding
returns-in-AsyncFreestanding c =
    subst (λ z. Finds c.args.needing.now c.args.found.now c.args.found.now (static_roots z)) (sym c.in-AsyncFreestanding.is) (finds_none c.args.needing.now c.args.found.now)

pub returns-in-Method : goal.returns-in-Method
returns-in-Method c =
    subst (λ z. Finds c.args.needing.now c.args.found.now c.args.found.now (static_roots z)) (sym c.in-Method.is) (finds_none c.args.needing.now c.args.found.now)

pub returns-in-AsyncMethod : goal.returns-in-AsyncMethod
returns-in-AsyncMethod c =
    subst (λ z. Finds c.args.needing.now c.args.found.now c.args.found.now (static_roots z)) (sym c.in-AsyncMethod.is) (finds_none c.args.needing.now c.args.found.now)

pub returns-in-Constructor : goal.returns-in-Constructor
returns-in-Constructor c =
    subst (λ z. Finds c.args.needing.now c.args.found.now c.args.found.now (static_roots z)) (sym c.in-Constructor.is) (finds_none c.args.needing.now c.args.found.now)
