use Rattle.std.proofs.Common.{◌∙◌, Bool, ap, sym}
use Rattle.std.specs.Prelude.{not}
use Rattle.wc_summary.specs.Parts.{is_wanted_in}
use Rattle.wc_summary.specs.Private.Uses.{picks}
use Rattle.wc_summary.proofs.UseLemmas.{same_there}
use Rattle.wc_summary.proofs.uses.is_picked.Goals as goal

pub returns-then-is_wanted : goal.returns-then-is_wanted
returns-then-is_wanted g c =
    let r = c.args.required.now in
    c.contains_key.ensures ∙ (same_there r.wanted.now.entries c.args.name.now
    ∙ ap (λ (b : Bool). picks b (is_wanted_in r) c.args.name.now) (sym c.if-is_wanted.true))

pub returns-else-is_wanted : goal.returns-else-is_wanted
returns-else-is_wanted g c =
    let r = c.args.required.now in
    ap not (c.contains_key-else-is_wanted.ensures ∙ same_there r.wanted.now.entries c.args.name.now)
    ∙ ap (λ (b : Bool). picks b (is_wanted_in r) c.args.name.now) (sym c.if-is_wanted.false)
