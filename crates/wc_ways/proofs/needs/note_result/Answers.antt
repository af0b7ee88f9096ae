use Rattle.std.proofs.Common.{[], OnOk, subst, sym}
use Rattle.std.specs.Option.{option_map_or}
use Rattle.wc_resolve.specs.Roots.{type_roots}
use Rattle.wc_ways.specs.Private.Needs.{Finds}
use Rattle.wc_ways.proofs.needs.note_result.Goals as goal

pub returns-in-Some : goal.returns-in-Some
returns-in-Some c =
    subst (λ z. OnOk c.note_wit_type.result (Finds c.args.needing.now c.args.found.now c.note_wit_type.new.found (option_map_or type_roots z []))) (sym c.in-Some.is)
    c.note_wit_type.ensures
