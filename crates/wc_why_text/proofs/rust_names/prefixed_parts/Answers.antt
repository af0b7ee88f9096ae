use Rattle.std.proofs.Common.{◌≡◌, IfOk, None, Option, codes, subst}
use Rattle.wc_why_text.proofs.RustNameLemmas.{stripped, unstripped}
use Rattle.wc_why_text.specs.RustNames.{Parts, parts_of, parts_view}
use Rattle.wc_why_text.proofs.rust_names.prefixed_parts.Goals as goal

pub returns-in-Some : goal.returns-in-Some
returns-in-Some c =
    let cases = c.in-Some.ensures.cases in
    subst (λ (parts : Option Parts). IfOk c.parts_of.result (λ found. parts_view found ≡ parts))
    (stripped parts_of None (codes "_ZN") c.args.name.now c.in-Some.rest.now cases.0 cases.1) c.parts_of.ensures

pub returns-in-None : goal.returns-in-None
returns-in-None c = unstripped parts_of None (codes "_ZN") c.args.name.now c.in-None.ensures.cases
