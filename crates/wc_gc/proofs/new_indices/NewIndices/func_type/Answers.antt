use Rattle.std.proofs.Common.{IfOk, subst, sym, ◌∙◌, ◌≡◌}
use Rattle.wc_read.specs.Types.{FuncTypeValue, func_type_value}
use Rattle.wc_gc.specs.NewIndices.{new_of}
use Rattle.wc_gc.proofs.RewriteLemmas.{same_func_type}
use Rattle.wc_gc.proofs.new_indices.NewIndices.func_type.Goals as goal

pub returns-then-names_no_types : goal.returns-then-names_no_types
returns-then-names_no_types c =
    subst (λ (t : FuncTypeValue). IfOk c.clone.result (λ f. func_type_value f ≡ t))
    (sym (same_func_type (new_of c.args.self.now) (func_type_value c.args.ty.now) (sym c.names_no_types.ensures ∙ c.if-names_no_types.true))) c.clone.ensures
