use Rattle.std.proofs.Common.{refl}
use Rattle.wc_texts.specs.Shapes.{number_json}
use Rattle.wc_record.specs.Chains.{item_json}
use Rattle.wc_record.proofs.ChainLemmas.{names_same, nullables_same}
use Rattle.wc_record.proofs.ShapeLemmas.{no_fields, field_then, object_written, field_is, array_same}
use Rattle.wc_record.proofs.chains.put_chains.Goals as goal

pub returns : goal.returns
returns c =
    let chains = c.args.chains.now in
    object_written _ _ c.in_ok-begin_object.ensures
    (field_then (field_is _ _ (array_same item_json chains.order.items chains.order.items refl) c.in_ok-put_member.ensures)
    (field_then (field_is _ _ (array_same number_json chains.finder.items chains.finder.items refl) c.in_ok-put_member-2.ensures)
    (field_then (field_is _ _ (names_same chains.exports.items) c.in_ok-put_member-3.ensures)
    (field_then (field_is _ _ (nullables_same number_json chains.imports.items) c.in_ok-put_member-4.ensures) no_fields)))) c.end_object.ensures
