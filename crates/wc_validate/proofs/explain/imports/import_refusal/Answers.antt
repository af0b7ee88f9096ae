use Rattle.std.proofs.Common.{refl}
use Rattle.wc_read.specs.Imports.{import_values}
use Rattle.wc_validate.specs.Explain.{IsImportPlace}
use Rattle.wc_validate.specs.Private.Imports.Contexts.{types_of}
use Rattle.wc_validate.proofs.BuiltinLemmas.{not_so}
use Rattle.wc_validate.proofs.ExplainLemmas.{place_at}
use Rattle.wc_validate.proofs.RefusedLemmas.{lost_at}
use Rattle.wc_validate.proofs.explain.imports.import_refusal.Goals as goal

pub returns-then-is_memory : goal.returns-then-is_memory
returns-then-is_memory c = (
  c.without_place.ensures.fault,
  λ s stop. lost_at (IsImportPlace s (import_values c.args.imports.now)) c.without_place.result c.args.refused.cause.fault c.without_place.ensures.fault
      (c.is_memory.ensures.0 c.if-is_memory.true) c.without_place.ensures.place,
)

pub returns : goal.returns
returns c = (
  refl,
  λ s stop. place_at s c.args.imports.now c.args.refused.index _ c.in_ok-subject.subject (types_of c.args.refused.cause) c.args.refused.cause.fault
      c.requires stop (not_so _ _ c.is_memory.ensures c.if-is_memory.false) c.in_ok-subject.ensures,
)
