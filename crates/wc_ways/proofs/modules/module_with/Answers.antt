use Rattle.std.proofs.Common.{◌∙◌, List, map, refl, subst, sym}
use Rattle.wc_read.specs.Exports.{export_value}
use Rattle.wc_read.specs.Imports.{import_values}
use Rattle.wc_read.specs.declared.exports.Export.{Export}
use Rattle.wc_read.specs.declared.types.Import.{Import}
use Rattle.wc_validate.proofs.ArgumentLemmas.{is_some_map}
use Rattle.wc_adapters.specs.Adapters.{library_view}
use Rattle.wc_ways.specs.Private.Modules.{AreByName, ArePlaces}
use Rattle.wc_ways.proofs.modules.module_with.Goals as goal

pub returns : goal.returns
returns c = record {
  name = refl;
  library = c.is_some.ensures ∙ sym (is_some_map (λ l. library_view l.now) c.args.adapter.now.library_info);
  info = refl;
  bytes = refl;
  spelled = c.in-Ok.ensures.found;
  exports = subst (λ (es : List Export). AreByName (map export_value es) c.in_ok-exports.exports.entries) c.deref.ensures.value c.in_ok-exports.ensures;
  places = subst (λ (is : List Import). ArePlaces (import_values is) c.in_ok-places.places.entries) c.deref-2.ensures.value c.in_ok-places.ensures;
  rows = c.in_ok-rows.ensures;
}
