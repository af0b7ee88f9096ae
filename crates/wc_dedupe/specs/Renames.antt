-- The values of renames.
use Rattle.wc_dedupe.specs.Renaming.{RenameView}
use Rattle.wc_dedupe.specs.declared.rename_list.Rename.{Rename}

abbrev pub rename_view : Rename → RenameView
rename_view r = record { module_name = r.module.now; original = r.original.now; name = r.name.now }
