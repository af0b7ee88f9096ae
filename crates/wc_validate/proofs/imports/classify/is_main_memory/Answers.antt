use Rattle.std.proofs.Common.{sym, ◌∙◌, codes}
use Rattle.std.proofs.lemmas.Slice.Eq.{bytes_eq-Decides}
use Rattle.wc_names.specs.Environment.{environment_module}
use Rattle.wc_validate.proofs.BuiltinLemmas.{not_equal}
use Rattle.wc_validate.proofs.imports.classify.is_main_memory.Goals as goal

pub returns-then-eq : goal.returns-then-eq
returns-then-eq c = (
  (λ t. (
    (bytes_eq-Decides c.args.module_name.now environment_module).0 (sym c.if-eq.ensures),
    (bytes_eq-Decides c.args.name.now (codes "memory")).0
        (sym c.eq-then-eq.ensures ∙ t),
  )),
  (λ h. c.eq-then-eq.ensures ∙ (bytes_eq-Decides c.args.name.now (codes "memory")).1 h.1),
)

pub returns-else-eq : goal.returns-else-eq
returns-else-eq c =
    ((λ t. absurd (let bad : ⊥ = cc t in bad)), (λ h. absurd (not_equal c.args.module_name.now environment_module (sym c.if-eq.ensures) h.0)))
