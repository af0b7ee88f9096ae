use Rattle.std.proofs.Common.{◌∙◌, List, ℕ, ap, length, map, subst, sym}
use Rattle.std.proofs.lemmas.List.{length-map}
use Rattle.std.proofs.lemmas.Result.{on_ok_weaker}
use Rattle.wc_read.specs.Imports.{import_value}
use Rattle.wc_summary.specs.CoreModules.{NotesCoreModule}
use Rattle.wc_summary.specs.Entries.{entries_view}
use Rattle.wc_summary.specs.Leads.{Tags, tags_view}
use Rattle.wc_why.specs.Texts.{text_of}
use Rattle.wc_import_paths.specs.Followed.{followed_view}
use Rattle.wc_module_ways.specs.CoreImports.{live_tags, value_of_core}
use Rattle.wc_module_ways.proofs.core_imports.note_followed.Goals as goal

pub live_tags-requires : goal.live_tags-requires
live_tags-requires c = c.requires.paths

pub note_tagged-requires : goal.note_tagged-requires
note_tagged-requires c = record {
  spelled = c.requires;
  sized = ap length c.deref.ensures.value ∙ (c.in_ok-tags.ensures.sized ∙ sym (length-map c.args.core.now.followed.code.imports.items import_value));
}

pub returns : goal.returns
returns c imports are given has =
    let core = c.args.core.now in
    let f = followed_view core.followed in
    let old = entries_view c.args.entries.now.entries in
    let new = entries_view c.note_tagged.new.entries.entries in
    let tags = ap tags_view c.deref.ensures.value ∙ c.in_ok-tags.ensures.tags given has in
    on_ok_weaker c.note_tagged.result
    (λ n. (
      core.followed.reached.items,
      c.requires.paths.reached,
      subst (λ (z : List (List ℕ)). NotesCoreModule (value_of_core z core.name.now f (live_tags given core.followed.reached.items f.code.imports)) old new) (c.in_ok-linked.ensures imports are)
          (subst (λ (t : Tags). NotesCoreModule (value_of_core (map text_of c.in_ok-linked.linked.keys) core.name.now f t) old new) tags n),
    ))
    c.note_tagged.ensures
