use Rattle.std.proofs.Common.{◌∙◌, ap, map, refl}
use Rattle.wc_read.specs.Exports.{export_value}
use Rattle.wc_paths.specs.Items.{CountsValue}
use Rattle.wc_why.specs.Part.{link_view}
use Rattle.wc_import_paths.specs.Parts.{required_begins}
use Rattle.wc_import_paths.specs.Rows.{bare_graph}
use Rattle.wc_import_paths.proofs.PartLemmas.{part_of}
use Rattle.wc_import_paths.proofs.part.adapter_part.Goals as goal

pub returns : goal.returns
returns c m h = record {
  part = part_of (bare_graph m) c.args.rows.now h _ refl refl (λ n. refl);
  named = refl;
  begins = c.in_ok-begins.ensures ∙ ap (λ (z : CountsValue). required_begins z (map export_value c.args.always.now)) h.counted;
  links = ap (map link_view) c.new.ensures.items;
  spelled = refl;
  calls = refl;
}
