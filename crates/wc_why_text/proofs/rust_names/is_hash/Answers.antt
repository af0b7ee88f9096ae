use Rattle.std.proofs.Common.{◌∙◌, codes, false}
use Rattle.wc_why_text.proofs.RustNameLemmas.{stripped, unstripped}
use Rattle.wc_why_text.specs.RustNames.{are_hash_digits}
use Rattle.wc_why_text.proofs.rust_names.is_hash.Goals as goal

pub returns-in-Some : goal.returns-in-Some
returns-in-Some c =
    let cases = c.in-Some.ensures.cases in
    c.are_hash_digits.ensures ∙ stripped are_hash_digits false (codes "h") c.args.part.now c.in-Some.digits.now cases.0 cases.1

pub returns-in-None : goal.returns-in-None
returns-in-None c = unstripped are_hash_digits false (codes "h") c.args.part.now c.in-None.ensures.cases
