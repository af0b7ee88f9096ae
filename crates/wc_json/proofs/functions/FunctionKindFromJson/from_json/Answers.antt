use Rattle.std.proofs.Common.{◌∙◌, Ok, ap, sym, subst}
use Rattle.std.proofs.lemmas.Result.{err_from_is_err_and}
use Rattle.json.specs.Value.{value_view}
use Rattle.wc_resolve.specs.declared.functions.FunctionKind.{FunctionKind}
use Rattle.wc_resolve.specs.declared.ids.TypeId.{TypeId}
use Rattle.wc_json.specs.Fault.{Reads, Reading, ◌>>=◌}
use Rattle.wc_json.specs.Functions.{function_kind, kind_of_resource}
use Rattle.wc_json.specs.Ids.{index}
use Rattle.wc_json.specs.Paths.{at_step, variant_step}
use Rattle.wc_json.proofs.KindLemmas.{function_kind-not_text}
use Rattle.wc_json.proofs.MemoryLemmas.{fault_at_variant, read_at_variant}
use Rattle.wc_json.proofs.PathLemmas.{Reads_at_step}
use Rattle.wc_json.proofs.functions.FunctionKindFromJson.from_json.Goals as goal

pub returns-clause-reads : goal.returns-clause-reads
returns-clause-reads c =
    let m = c.in_ok-member.member.now in
    let resource = c.in_ok-resource.resource in
    let id = Reads_at_step (λ (id : TypeId). id.0) (variant_step m.0.now) c.from_json.result (Ok resource)
    (index (value_view m.1)) c.in_ok-resource.ensures c.from_json.ensures.reads in
    let e = function_kind-not_text (value_view c.args.value.now) c.in_default.ensures
    ∙ ap (λ reading. reading >>= (λ p. at_step (variant_step p.0) (index p.1) >>= (λ r. at_step (variant_step p.0) (kind_of_resource p.0 r)))) c.in_ok-member.ensures.reads
    ∙ ap (λ reading. reading >>= (λ r. at_step (variant_step m.0.now) (kind_of_resource m.0.now r))) id in
    let P : Reading FunctionKind → Type 0 = Reads (λ k. k) c.at_variant-2.result in
    subst P (sym e) (Reads_at_step (λ k. k) (variant_step m.0.now) c.kind_of_resource.result c.at_variant-2.result
    (kind_of_resource m.0.now resource.0) c.at_variant-2.ensures c.kind_of_resource.ensures.reads)

pub returns-in_err-resource-clause-memory : goal.returns-in_err-resource-clause-memory
returns-in_err-resource-clause-memory c =
    let p = err_from_is_err_and c.from_residual-in_err-resource.result c.from_residual-in_err-resource.ensures.1 in
    let m = c.in_ok-member.member.now in
    let e = function_kind-not_text (value_view c.args.value.now) c.in_default.ensures
    ∙ ap (λ reading. reading >>= (λ p. at_step (variant_step p.0) (index p.1) >>= (λ r. at_step (variant_step p.0) (kind_of_resource p.0 r)))) c.in_ok-member.ensures.reads in
    rw (p.1, p.2) (fault_at_variant (λ (id : TypeId). id.0) m.0.now c.from_json.result c.in_err-resource.field-0.0 (function_kind (value_view c.args.value.now))
    (index (value_view m.1)) (λ r. at_step (variant_step m.0.now) (kind_of_resource m.0.now r)) e c.in_err-resource.ensures c.from_json.ensures.reads c.from_json.ensures.no_memory)

pub returns-clause-memory : goal.returns-clause-memory
returns-clause-memory c =
    let m = c.in_ok-member.member.now in
    let resource = c.in_ok-resource.resource in
    let id = Reads_at_step (λ (id : TypeId). id.0) (variant_step m.0.now) c.from_json.result (Ok resource)
    (index (value_view m.1)) c.in_ok-resource.ensures c.from_json.ensures.reads in
    let e = function_kind-not_text (value_view c.args.value.now) c.in_default.ensures
    ∙ ap (λ reading. reading >>= (λ p. at_step (variant_step p.0) (index p.1) >>= (λ r. at_step (variant_step p.0) (kind_of_resource p.0 r)))) c.in_ok-member.ensures.reads
    ∙ ap (λ reading. reading >>= (λ r. at_step (variant_step m.0.now) (kind_of_resource m.0.now r))) id in
    read_at_variant (λ k. k) m.0.now c.kind_of_resource.result c.at_variant-2.result (function_kind (value_view c.args.value.now))
    (kind_of_resource m.0.now resource.0) e c.at_variant-2.ensures c.kind_of_resource.ensures.reads c.kind_of_resource.ensures.no_memory
