use Rattle.std.proofs.Common.{Some, ap, ◌∙◌}
use Rattle.wc_validate.specs.Classifications.{wrong_signature}
use Rattle.wc_validate.proofs.SignatureLemmas.{both_from}
use Rattle.wc_validate.proofs.signatures.signature_mismatch.Goals as goal

pub returns : goal.returns
returns c =
    ap (λ z. wrong_signature (Some z)) (both_from _ _ _ (c.new.ensures.params ∙ c.in_ok-own_params.ensures) (c.new.ensures.results ∙ c.in_ok-own_results.ensures))
