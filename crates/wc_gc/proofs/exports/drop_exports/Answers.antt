use Rattle.std.proofs.Common.{◌+◌, ◌<◌, List, map, length, refl, sym, ◌∙◌, ap, subst, arith}
use Rattle.std.specs.Prelude.{AllPairs, string_bytes}
use Rattle.wc_read.specs.Exports.{export_value}
use Rattle.wc_read.specs.declared.exports.Export.{Export}
use Rattle.wc_gc.specs.Private.KeptOrder.{HasPosition}
use Rattle.wc_gc.proofs.ExportLemmas.{kept_from, item_kept}
use Rattle.wc_gc.proofs.KeptOrderLemmas.{Differ, same_first, differ_first, same_left, differ_left, rest_left}
use Rattle.wc_gc.proofs.exports.drop_exports.Goals as goal
use Rattle.wc_gc.proofs.exports.drop_exports.Goals.{then-not-contains, else-not-contains}

pub loop-export-init : goal.loop-export-init
loop-export-init c = record {
  counted = refl;
  same = c.requires.all ∙ same_first c.args.exports.now c.args.positions.now.order.items c.requires.order;
  noted = λ n a b. c.requires.noted n b;
  distinct = subst (λ (z : List Export). AllPairs Differ (map export_value z)) (sym c.requires.all) (differ_first c.args.exports.now c.requires.distinct);
  rest = ap (λ (z : List Export). kept_from (map string_bytes c.args.required.now.keys) (map export_value c.args.exports.now) (map export_value z)) c.requires.all;
}

pub take_out-requires : goal.take_out-requires
take_out-requires c =
    let within : c.loop-export.export-index < length c.args.exports.now = omega arith in
    subst (HasPosition c.loop-export.positions) (sym c.loop-export.invariant.counted) (c.loop-export.invariant.noted c.loop-export.export-index (omega arith) within)

pub loop-export-preserved : goal.loop-export-preserved
loop-export-preserved c =
    let within : c.loop-export.export-index < length c.args.exports.now = omega arith in
    let es = c.args.exports.now in
    let i = c.loop-export.export-index in
    let inv = c.loop-export.invariant in
    elim c.if-not-contains.branch [
      | then-not-contains w ↦
          let there = w.take_out.ensures.there ∙ inv.counted in
          rw (w.kept-is, w.positions-is) (record {
            counted = ap (λ n. n + 1) inv.counted;
            same = same_left es c.loop-export.kept.items _ c.loop-export.positions.order.items _ i w.take_out.result _ _ inv.same w.take_out.ensures.within there w.remove_at.ensures w.take_out.ensures.order;
            noted = λ n a b. w.take_out.ensures.noted n (λ e. let k = inv.counted in omega (arith, e, a, k)) (inv.noted n (omega (arith, a)) b);
            distinct = differ_left es c.loop-export.kept.items _ c.loop-export.positions.order.items c.loop-export.positions.order.items i w.take_out.result 0 _ inv.same w.take_out.ensures.within there w.remove_at.ensures inv.distinct;
            rest = rest_left es c.loop-export.kept.items _ c.loop-export.positions.order.items c.loop-export.positions.order.items i w.take_out.result 0 _ inv.same w.take_out.ensures.within there w.remove_at.ensures
                c.args.required.now.keys _ inv.distinct within (sym c.contains.ensures ∙ w.if-not-contains.true) inv.rest;
          })
      | else-not-contains w ↦
          rw (w.kept-is, w.positions-is) (record {
            counted = ap (λ n. n + 1) inv.counted;
            same = inv.same;
            noted = λ n a b. inv.noted n (omega (arith, a)) b;
            distinct = inv.distinct;
            rest = item_kept c.args.required.now.keys es i (map export_value c.loop-export.kept.items) _ within (sym c.contains.ensures ∙ w.if-not-contains.false) inv.rest;
          })
    ]
