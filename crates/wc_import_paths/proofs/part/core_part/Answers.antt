use Rattle.std.proofs.Common.{ap, map, refl}
use Rattle.wc_read.specs.Exports.{export_value}
use Rattle.wc_paths.specs.Counts.{counts_value}
use Rattle.wc_why.specs.Part.{begin_view, link_view}
use Rattle.wc_import_paths.specs.Followed.{followed_view}
use Rattle.wc_import_paths.specs.Following.{graph_in}
use Rattle.wc_import_paths.proofs.PartLemmas.{core_begun, part_of}
use Rattle.wc_import_paths.proofs.part.core_part.Goals as goal

pub returns : goal.returns
returns c =
    let f = c.args.followed.now in
    record {
      part = part_of (graph_in (followed_view f)) f.rows c.requires.rows _ refl refl (λ n. refl);
      named = refl;
      begins = core_begun (followed_view f) (counts_value f.rows.counts) c.requires.rows.counted (map export_value c.args.always.now)
          (map begin_view c.in_ok-begins.begins.items) (map begin_view c.push_required_start.new.begins.items) (map begin_view c.push_segments.new.begins.items)
          c.in_ok-begins.ensures c.in_ok-push_required_start.ensures c.in_ok-push_segments.ensures;
      links = ap (map link_view) c.new.ensures.items;
      spelled = refl;
      calls = refl;
    }
