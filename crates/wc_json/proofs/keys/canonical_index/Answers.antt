use Rattle.std.proofs.Common.{◌∙◌, None, Some, ap, sym}
use Rattle.std.proofs.lemmas.Bool.{cond-true}
use Rattle.wc_json.specs.Keys.{index_written_as}
use Rattle.wc_json.proofs.KeyLemmas.{canonical_index-parsed, index_of_digits-parsed, index_of_digits-unparsed}
use Rattle.wc_json.proofs.keys.canonical_index.Goals as goal

pub returns-then-eq : goal.returns-then-eq
returns-then-eq c =
    let text = c.args.text.now in
    let index = c.in-Ok.index in
    sym (canonical_index-parsed text c.format.result.now index c.eq.result
    (index_of_digits-parsed text index c.in-Ok.ensures.value.0) c.format.ensures.text c.eq.ensures
    ∙ cond-true c.eq.result (Some index) None c.if-eq.true)

pub returns-in-Err : goal.returns-in-Err
returns-in-Err c =
    let text = c.args.text.now in
    sym (ap (index_written_as text) (index_of_digits-unparsed text c.in-Err.field-0 c.in-Err.ensures.value.0))
