use Rattle.std.proofs.Common.{Some, refl, sym, ◌∙◌, ap, rules}
use Rattle.std.proofs.lemmas.Result.{err_from_is_err_and}
use Rattle.wc_read.specs.Operators.{WithI32}
use Rattle.wc_read.specs.Reading.Instructions.{immediates_at}
use Rattle.wc_read.proofs.OptionsLemmas.{bind_none, bind_some}
use Rattle.wc_read.proofs.FrequentLemmas.{frequent_read, frequent_fails, some_first, gives_frequent}
use Rattle.wc_read.proofs.reader.Reader.frequent.Goals as goal

pub returns-in-Some-None : goal.returns-in-Some-None
unfolding immediates_at
returns-in-Some-None c =
    let has = sym c.byte_form.ensures ∙ c.in-Some-None.is ∙ ap Some c.in-Some-None.field-0-is in
    rw c.in-Some.ensures.cases.0 (gives_frequent _ _ _ _ _ c.found.ensures (frequent_read _ _ _ _ _ has refl))

pub returns-in_ok-number-in-Some-Index : goal.returns-in_ok-number-in-Some-Index
unfolding immediates_at
returns-in_ok-number-in-Some-Index c =
    let has = sym c.byte_form.ensures ∙ c.in-Some-Index.is ∙ ap Some c.in-Some-Index.field-0-is in
    rw c.in-Some.ensures.cases.0 (gives_frequent _ _ _ _ _ c.found-in-Some-Index.ensures (frequent_read _ _ _ _ _ has (bind_some _ _ _ c.in_ok-number-in-Some-Index.ensures)))

pub returns-in_ok-i32-in-Some-I32 : goal.returns-in_ok-i32-in-Some-I32
unfolding immediates_at
returns-in_ok-i32-in-Some-I32 c =
    let has = sym c.byte_form.ensures ∙ c.in-Some-I32.is ∙ ap Some c.in-Some-I32.field-0-is in
    rw c.in-Some.ensures.cases.0 (gives_frequent _ _ _ (WithI32 c.in_ok-i32-in-Some-I32.field-0) _ (search rules) (frequent_read _ _ _ _ _ has (bind_some _ _ _ c.in_ok-i32-in-Some-I32.ensures)))

pub returns-in_ok-mem_arg-in-Some-MemArg : goal.returns-in_ok-mem_arg-in-Some-MemArg
unfolding immediates_at
returns-in_ok-mem_arg-in-Some-MemArg c =
    let has = sym c.byte_form.ensures ∙ c.in-Some-MemArg.is ∙ ap Some c.in-Some-MemArg.field-0-is in
    rw c.in-Some.ensures.cases.0 (gives_frequent _ _ _ _ _ c.found-in-Some-MemArg.ensures (frequent_read _ _ _ _ _ has (bind_some _ _ _ c.in_ok-mem_arg-in-Some-MemArg.ensures)))

pub returns-in_err-i32-in-Some-I32 : goal.returns-in_err-i32-in-Some-I32
unfolding immediates_at
returns-in_err-i32-in-Some-I32 c =
    let has = sym c.byte_form.ensures ∙ c.in-Some-I32.is ∙ ap Some c.in-Some-I32.field-0-is in
    let fails = frequent_fails _ _ _ has (bind_none _ _ c.in_err-i32-in-Some-I32.ensures.0) in
    let p = err_from_is_err_and c.from_residual-in_err-i32-in-Some-I32.result c.from_residual-in_err-i32-in-Some-I32.ensures.1 in
    rw (p.1, p.2, c.in-Some.ensures.cases.0) (some_first _ _, fails, c.in_err-i32-in-Some-I32.ensures.1, c.in_err-i32-in-Some-I32.ensures.2)

pub returns-in_err-mem_arg-in-Some-MemArg : goal.returns-in_err-mem_arg-in-Some-MemArg
unfolding immediates_at
returns-in_err-mem_arg-in-Some-MemArg c =
    let has = sym c.byte_form.ensures ∙ c.in-Some-MemArg.is ∙ ap Some c.in-Some-MemArg.field-0-is in
    let fails = frequent_fails _ _ _ has (bind_none _ _ c.in_err-mem_arg-in-Some-MemArg.ensures.0) in
    let p = err_from_is_err_and c.from_residual-in_err-mem_arg-in-Some-MemArg.result c.from_residual-in_err-mem_arg-in-Some-MemArg.ensures.1 in
    rw (p.1, p.2, c.in-Some.ensures.cases.0) (some_first _ _, fails, c.in_err-mem_arg-in-Some-MemArg.ensures.1, c.in_err-mem_arg-in-Some-MemArg.ensures.2)

pub returns-in_ok-block_type-in-Some-Block : goal.returns-in_ok-block_type-in-Some-Block
unfolding immediates_at
returns-in_ok-block_type-in-Some-Block c =
    let has = sym c.byte_form.ensures ∙ c.in-Some-Block.is ∙ ap Some c.in-Some-Block.field-0-is in
    rw c.in-Some.ensures.cases.0 (gives_frequent _ _ _ _ _ c.found-in-Some-Block.ensures (frequent_read _ _ _ _ _ has (bind_some _ _ _ c.in_ok-block_type-in-Some-Block.ensures)))

pub returns-in_err-block_type-in-Some-Block : goal.returns-in_err-block_type-in-Some-Block
unfolding immediates_at
returns-in_err-block_type-in-Some-Block c =
    let has = sym c.byte_form.ensures ∙ c.in-Some-Block.is ∙ ap Some c.in-Some-Block.field-0-is in
    let fails = frequent_fails _ _ _ has (bind_none _ _ c.in_err-block_type-in-Some-Block.ensures.0) in
    let p = err_from_is_err_and c.from_residual-in_err-block_type-in-Some-Block.result c.from_residual-in_err-block_type-in-Some-Block.ensures.1 in
    rw (p.1, p.2, c.in-Some.ensures.cases.0) (some_first _ _, fails, c.in_err-block_type-in-Some-Block.ensures.1, c.in_err-block_type-in-Some-Block.ensures.2)

pub returns-in_err-number-in-Some-Index : goal.returns-in_err-number-in-Some-Index
unfolding immediates_at
returns-in_err-number-in-Some-Index c =
    let has = sym c.byte_form.ensures ∙ c.in-Some-Index.is ∙ ap Some c.in-Some-Index.field-0-is in
    let fails = frequent_fails _ _ _ has (bind_none _ _ c.in_err-number-in-Some-Index.ensures.0) in
    let p = err_from_is_err_and c.from_residual.result c.from_residual.ensures.1 in
    rw (p.1, p.2, c.in-Some.ensures.cases.0) (some_first _ _, fails, c.in_err-number-in-Some-Index.ensures.1, c.in_err-number-in-Some-Index.ensures.2)
