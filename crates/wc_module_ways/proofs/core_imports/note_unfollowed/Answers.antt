use Rattle.std.proofs.Common.{◌∙◌, List, ap, subst}
use Rattle.std.proofs.lemmas.Result.{on_ok_weaker}
use Rattle.wc_read.specs.Imports.{import_values}
use Rattle.wc_read.specs.declared.types.Import.{Import}
use Rattle.wc_summary.specs.Entries.{entries_view}
use Rattle.wc_summary.specs.Leads.{Tags, tags_view}
use Rattle.wc_summary.specs.Notes.{NotesLibraryModule}
use Rattle.wc_module_ways.specs.CoreImports.{library_tags}
use Rattle.wc_module_ways.proofs.core_imports.note_unfollowed.Goals as goal

pub returns : goal.returns
returns c given has =
    let tags = ap tags_view c.deref-2.ensures.value
    ∙ (c.in_ok-tags.ensures given has ∙ ap (λ (l : List Import). library_tags given (import_values l)) c.deref.ensures.value) in
    on_ok_weaker c.note_library.result
    (λ n. subst (λ (t : Tags). NotesLibraryModule c.args.core.now.name.now t (entries_view c.args.entries.now.entries) (entries_view c.note_library.new.entries.entries)) tags n)
    c.note_library.ensures
