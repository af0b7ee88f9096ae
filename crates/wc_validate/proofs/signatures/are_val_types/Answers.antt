use Rattle.std.proofs.Common.{◌≡◌, ◌<◌, Bool, true, false, not, length, refl, sym, ap, ◌∙◌, arith, below_more}
use Rattle.std.proofs.lemmas.List.{get_or_default}
use Rattle.wc_read.specs.declared.types.ValType.TheVariants.{I32 as i32_type}
use Rattle.wc_resolve.specs.declared.flat.WasmType.TheVariants.{I32}
use Rattle.wc_names.specs.Imports.{val_type}
use Rattle.wc_validate.proofs.ListLemmas.{same_by_index}
use Rattle.wc_validate.proofs.SignatureLemmas.{vals_law}
use Rattle.wc_validate.proofs.signatures.are_val_types.Goals as goal

not_false : (b : Bool) → false ≡ not b → b ≡ true
not_false true e = refl
not_false false e = absurd (let bad : ⊥ = cc e in bad)

pub loop-index-preserved : goal.loop-index-preserved
loop-index-preserved c =
    let in_core : c.loop-index.index < length c.args.core.now = omega arith in
    let in_types : c.loop-index.index < length c.args.types.now = omega arith in
    let same = (vals_law c.val_type.result _).0 (not_false _ (sym c.if-ne.false ∙ c.ne.ensures)) in
    below_more _ _ c.loop-index.invariant
    (λ d e. get_or_default c.args.types.now c.loop-index.index d i32_type in_types
    ∙ (sym same ∙ (c.val_type.ensures ∙ ap val_type (get_or_default c.args.core.now c.loop-index.index I32 e in_core))))

pub returns : goal.returns
returns c =
    let same_length = c.if-core-types.false in
    let at_end = c.loop-index-test.false in
    ((λ t. same_by_index val_type c.args.core.now c.args.types.now same_length (λ k s d e. c.loop-index.invariant k (omega arith) d e)), (λ e. refl))
