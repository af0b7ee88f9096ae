use Rattle.std.proofs.Common.{ap, map, refl}
use Rattle.wc_read.specs.Exports.{export_value}
use Rattle.wc_paths.specs.Counts.{counts_value}
use Rattle.wc_why.specs.Part.{begin_view, link_view}
use Rattle.wc_import_paths.specs.Followed.{followed_view}
use Rattle.wc_import_paths.specs.Following.{graph_in}
use Rattle.wc_import_paths.proofs.PartLemmas.{followed_begun, part_of}
use Rattle.wc_import_paths.proofs.part.followed_part.Goals as goal

pub returns : goal.returns
returns c =
    let f = c.args.followed.now in
    record {
      part = part_of (graph_in (followed_view f)) f.rows c.requires.rows _ refl refl (λ n. refl);
      named = refl;
      items = f.items.items;
      are_items = c.requires.items;
      begins = followed_begun (followed_view f) c.args.is_main f.items.items (counts_value f.rows.counts) c.requires.rows.counted
          (map export_value c.deref.result.now) (ap (map export_value) c.deref.ensures.value) c.deref-2.result.now c.deref-2.ensures.value
          (map begin_view c.new-begins.result.items) (map begin_view c.push_exports.new.begins.items) (map begin_view c.push_start.new.begins.items)
          (map begin_view c.push_segments.new.begins.items) (map begin_view c.push_unreached.new.begins.items)
          (ap (map begin_view) c.new-begins.ensures.items) c.in_ok-push_exports.ensures c.in_ok-push_start.ensures c.in_ok-push_segments.ensures
          c.in_ok-push_unreached.ensures;
      links = ap (map link_view) c.new.ensures.items;
      spelled = refl;
      calls = refl;
    }
