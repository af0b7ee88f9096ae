use Rattle.std.proofs.Common.{subst, sym}
use Rattle.wc_resolve.specs.Roots.{type_roots}
use Rattle.wc_ways.specs.Private.Needs.{Finds}
use Rattle.wc_ways.proofs.needs.note_wit_type.Goals as goal

pub returns-in_ok-note_type : goal.returns-in_ok-note_type
returns-in_ok-note_type c =
    subst (λ z. Finds c.args.needing.now c.args.found.now c.note_type.new.found (type_roots z)) (sym c.in-Id.is) c.in_ok-note_type.ensures
