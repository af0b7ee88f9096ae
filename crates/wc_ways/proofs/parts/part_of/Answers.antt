use Rattle.std.proofs.Common.{◌∙◌, List, ap, map}
use Rattle.std.proofs.lemmas.Result.{IfOk-weaker}
use Rattle.wc_why.specs.Part.{part_view}
use Rattle.wc_why.specs.declared.part.Part.{Part}
use Rattle.wc_import_paths.specs.Parts.{IsAdapterPart}
use Rattle.wc_read.specs.Exports.{export_value}
use Rattle.wc_read.specs.declared.exports.Export.{Export}
use Rattle.wc_ways.specs.Private.Modules.{code_in}
use Rattle.wc_ways.specs.Private.Parts.{IsPartOfModule}
use Rattle.wc_ways.proofs.PartLemmas.{part_trimmed}
use Rattle.wc_ways.proofs.parts.part_of.Goals as goal

pub returns-in_ok-always : goal.returns-in_ok-always
returns-in_ok-always c =
    let a = c.args.adapter.now in
    let always = map export_value c.deref.result.now in
    let same = ap (λ (es : List Export). map export_value es) c.deref.ensures.value ∙ c.in_ok-always.ensures in
    IfOk-weaker c.adapter_part.result (λ (p : Part). IsAdapterPart a.name.now (code_in a) a.bytes.now always (part_view p)) (λ (p : Part). IsPartOfModule a (part_view p))
    (λ p h. part_trimmed a (part_view p) c.if-adapter.false always same h) (c.adapter_part.ensures (code_in a) c.requires.rows)
