use Rattle.std.proofs.Common.{◌∙◌, ap, sym, subst}
use Rattle.json.specs.Value.{value_view}
use Rattle.wc_resolve.specs.Views.{KindView, kind_view}
use Rattle.wc_json.specs.Fault.{Reads, Reading, ◌>>=◌}
use Rattle.wc_json.specs.Kinds.{kind_of}
use Rattle.wc_json.specs.Paths.{at_step, variant_step}
use Rattle.wc_json.proofs.KindLemmas.{kind-not_text}
use Rattle.wc_json.proofs.PathLemmas.{Reads_at_step}
use Rattle.wc_json.proofs.kinds.TypeDefKindFromJson.from_json.Goals as goal

pub returns : goal.returns
returns c =
    let m = c.in_ok-member.member.now in
    let e = kind-not_text (value_view c.args.value.now) c.in_default.ensures
    ∙ ap (λ reading. reading >>= (λ p. at_step (variant_step p.0) (kind_of p.0 p.1))) c.in_ok-member.ensures.reads in
    let P : Reading KindView → Type 0 = Reads kind_view c.at_variant.result in
    record {
      reads = subst P (sym e) (Reads_at_step kind_view (variant_step m.0.now) c.kind_of.result c.at_variant.result
          (kind_of m.0.now (value_view m.1)) c.at_variant.ensures c.kind_of.ensures);
    }
