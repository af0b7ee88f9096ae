use Rattle.std.proofs.Common.{◌≡◌, List, Vec, [], ◌∷◌, map, take, ap, ◌∙◌, subst}
use Rattle.std.specs.Prelude.{IfOk}
use Rattle.std.specs.List.{fold}
use Rattle.std.specs.declared.alloc.Global.{Global}
use Rattle.wc_resolve.specs.declared.flat.WasmType.{WasmType}
use Rattle.wc_resolve.specs.declared.flat.WasmType.TheVariants.{I32}
use Rattle.wc_resolve.specs.Flat.{flat_entry, flat_payload, flat_types_kept, join_flats, lists}
use Rattle.wc_resolve.proofs.FlatStepLemmas.{shared_more, part_read, part_small, all_parts}
use Rattle.wc_resolve.proofs.flattening.flat_variant.Goals as goal

pub loop-case-preserved : goal.loop-case-preserved
loop-case-preserved c =
    shared_more (flat_entry (lists c.args.flats.now)) (map (λ f. f.1) c.args.cases.now) c.loop-case.case-index c.case-item.result.1 c.loop-case.shared.items c.join_flat.new.flat.items
    c.flat_payload.result.now (part_small (λ f. f.1) c.args.cases.now c.loop-case.case-index c.loop-case-test.true) c.loop-case.invariant
    (c.flat_payload.ensures ∙ ap (flat_payload (flat_entry (lists c.args.flats.now))) (part_read (λ f. f.1) c.args.cases.now c.loop-case.case-index c.case-item.result c.case-item.result.1 c.loop-case-test.true c.case-item.is))
    c.in_ok-join_flat.ensures

pub returns : goal.returns
returns c =
    subst (λ (z : List WasmType). IfOk c.with_case.result (λ (v : Vec WasmType Global). v.items ≡ z))
    (ap (λ z. take flat_types_kept (I32 ∷ z)) (c.loop-case.invariant
    ∙ ap (λ z. fold (λ shared t. join_flats shared (flat_payload (flat_entry (lists c.args.flats.now)) t)) [] z) (all_parts (λ f. f.1) c.args.cases.now c.loop-case.case-index c.loop-case-test.false)))
    c.with_case.ensures
