use Rattle.std.proofs.Common.{◌≡◌, rules}
use Rattle.wc_read.specs.Exports.{ExportValue, export_value}
use Rattle.wc_read.specs.declared.exports.ExportKind.TheVariants.{Memory}
use Rattle.wc_tests.proofs.SomeElement.{any_viewed}
use Rattle.wc_tests.proofs.examples.read.has_memory.Goals as goal

pub returns : goal.returns
returns c = any_viewed export_value (λ (e : ExportValue). e.kind ≡ Memory) c.args.parsed.now.exports.items c.any.result (search rules)
