use Rattle.std.proofs.Common.{Some}
use Rattle.wc_names.specs.Exports.{is_export}
use Rattle.wc_names.proofs.SameExportLemmas.{export_kept, fixed_export_plain}
use Rattle.wc_names.proofs.laws.exports_alike.Goals as goal

pub returns-clause-meaning : goal.returns-clause-meaning
returns-clause-meaning c = λ e keys x ty m. export_kept e keys x.name x.ty ty m

pub returns-clause-signature : goal.returns-clause-signature
returns-clause-signature c = λ e keys x export ty. fixed_export_plain e keys x (is_export export (Some ty))
