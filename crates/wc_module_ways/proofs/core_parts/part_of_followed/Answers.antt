use Rattle.std.proofs.Common.{◌≡◌, ◌∙◌, ap, map, subst}
use Rattle.std.proofs.lemmas.Result.{IfOk-weaker}
use Rattle.wc_read.specs.Exports.{export_value}
use Rattle.wc_paths.specs.Callers.{calling_of}
use Rattle.wc_why.specs.Part.{part_view}
use Rattle.wc_import_paths.specs.Followed.{followed_view}
use Rattle.wc_import_paths.specs.Parts.{IsCorePart}
use Rattle.wc_module_ways.specs.CoreParts.{linked_names, unlinked}
use Rattle.wc_module_ways.proofs.core_parts.part_of_followed.Goals as goal

pub returns : goal.returns
returns c imports are =
    let core = c.args.core.now in
    let f = followed_view core.followed in
    let always : map export_value c.deref-2.result.now ≡ unlinked (linked_names imports core.name.now core.serves f.code.exports) f.code.exports =
    ap (map export_value) c.deref-2.ensures.value
    ∙ (c.in_ok-others.ensures ∙ (λ t. unlinked (c.in_ok-linked.ensures imports are t) (map export_value (c.deref.ensures.value t)))) in
    IfOk-weaker c.core_part.result _ _
    (λ p is. record {
      calling = calling_of core.followed.callers;
      is_calling = c.requires.calling;
      is_part = subst (λ z. IsCorePart core.name.now f core.followed.bytes.now (calling_of core.followed.callers) z (part_view p)) always is;
    })
    c.core_part.ensures
