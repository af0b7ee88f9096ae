use Rattle.std.proofs.Common.{◌∙◌, ◌++◌, Some, ap, map, refl, subst}
use Rattle.wc_read.specs.Imports.{import_value}
use Rattle.wc_read.specs.Modules.{module_value}
use Rattle.wc_paths.specs.Counts.{counts_value}
use Rattle.wc_paths.specs.Items.{CountsValue}
use Rattle.wc_paths.specs.Roots.{AreImportItems}
use Rattle.wc_why.specs.Part.{begin_view, link_view}
use Rattle.wc_why.specs.Tree.{unfollowed}
use Rattle.wc_import_paths.specs.Parts.{import_begins}
use Rattle.wc_import_paths.specs.Rows.{bare_graph}
use Rattle.wc_import_paths.proofs.PartLemmas.{part_of}
use Rattle.wc_import_paths.proofs.part.unread_part.Goals as goal

pub returns : goal.returns
returns c =
    let m = module_value c.args.code.now in
    let h = c.requires in
    let k = counts_value c.args.rows.now.counts in
    record {
      part = part_of (bare_graph m) c.args.rows.now h _ refl refl (λ n. refl);
      named = refl;
      items = c.in_ok-items.items.items;
      are_items = subst (λ z. AreImportItems (map import_value z) c.in_ok-items.items.items) c.deref.ensures.value c.in_ok-items.ensures;
      begins = c.in_ok-push_imports.ensures
          ∙ (ap (λ z. map begin_view z ++ import_begins k (Some (unfollowed c.args.why)) c.deref-2.result.now) c.new-begins.ensures.items
          ∙ (ap (import_begins k (Some (unfollowed c.args.why))) c.deref-2.ensures.value
          ∙ ap (λ (z : CountsValue). import_begins z (Some (unfollowed c.args.why)) c.in_ok-items.items.items) h.counted));
      links = ap (map link_view) c.new.ensures.items;
      spelled = refl;
      calls = refl;
    }
