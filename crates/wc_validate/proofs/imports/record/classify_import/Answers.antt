use Rattle.std.proofs.Common.{refl}
use Rattle.wc_validate.specs.Private.Externs.{extern_view}
use Rattle.wc_validate.specs.Imports.Classify.{core_import}
use Rattle.wc_validate.proofs.imports.record.classify_import.Goals as goal

pub returns : goal.returns
returns c = λ library. (
  core_import c.args.import.now.module.now c.original_name-name.result.now (extern_view c.extern_of.result),
  (refl, c.original_name-name.ensures, c.extern_of.ensures),
  c.classify.ensures,
)
