use Rattle.std.proofs.Common.{sym, ◌∙◌}
use Rattle.std.proofs.lemmas.Bool.{false≢true}
use Rattle.std.proofs.lemmas.Result.{err_from_is_err_and}
use Rattle.wc_read.specs.Reading.Contents.{section_contents_value}
use Rattle.wc_read.proofs.SectionContentsLemmas.{parts_found}
use Rattle.wc_read.proofs.ModulesLemmas.{no_parts, other_counts, not_valid}
use Rattle.wc_read.proofs.modules.module_from.Goals as goal

pub returns-in_err-parts-clause-refused : goal.returns-in_err-parts-clause-refused
returns-in_err-parts-clause-refused c =
    let p = err_from_is_err_and c.from_residual-in_err-parts.result c.from_residual-in_err-parts.ensures.1 in
    rw (p.1, p.2) (λ real v m. no_parts _ v m (c.in_err-parts.ensures.0 real))

pub returns-then-not-are_paired-clause-refused : goal.returns-then-not-are_paired-clause-refused
returns-then-not-are_paired-clause-refused c = λ real v m. other_counts _ (section_contents_value c.in_ok-parts.parts) v m c.in_ok-parts.ensures (λ same. false≢true (sym c.if-not-are_paired.true ∙ c.are_paired.ensures.1 same))

pub returns-in_err-check_module-clause-refused : goal.returns-in_err-check_module-clause-refused
returns-in_err-check_module-clause-refused c =
    let p = err_from_is_err_and c.from_residual-in_err-check_module.result c.from_residual-in_err-check_module.ensures.1 in
    rw (p.1, p.2) (λ real v m. not_valid _ (section_contents_value c.in_ok-parts.parts) v _ m c.in_ok-parts.ensures c.in_ok-module.ensures.found (c.in_err-check_module.ensures.refused real))

pub returns-clause-found : goal.returns-clause-found
returns-clause-found c = record {
  ordered = c.in_ok-check_order.ensures.found;
  parts = section_contents_value c.in_ok-parts.parts;
  has_contents = parts_found _ _ c.in_ok-parts.ensures;
  as_many = c.are_paired.ensures.0 c.if-not-are_paired.false;
  assembled = c.in_ok-module.ensures.found;
  valid = c.in_ok-check_module.ensures.found;
}
