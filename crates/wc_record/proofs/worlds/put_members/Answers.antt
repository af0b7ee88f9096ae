use Rattle.std.proofs.Common.{codes, map, subst}
use Rattle.wc_dedupe.specs.Dedupe.{renames_in}
use Rattle.wc_texts.specs.Shapes.{array_of}
use Rattle.wc_record.specs.ExportOptions.{lifted_json}
use Rattle.wc_record.specs.Objects.{PutsField}
use Rattle.wc_record.specs.Worlds.{rename_json, used_interface_json}
use Rattle.wc_record.proofs.ShapeLemmas.{no_fields, field_then}
use Rattle.wc_record.proofs.worlds.put_members.Goals as goal

pub returns : goal.returns
returns c =
    let renames = subst (λ o. PutsField c.put_member.new.out c.put_renames.new.out (codes "renames") (array_of (map rename_json (renames_in o))))
    c.module_import_map.ensures
    c.in_ok-put_renames.ensures in
    let used = subst (λ us. PutsField c.put_member-4.new.out c.put_member-5.new.out (codes "exports_used") (array_of (map used_interface_json us)))
    c.in_ok-used.ensures
    c.in_ok-put_member-5.ensures in
    let lifted = subst (λ ls. PutsField c.put_member-5.new.out c.put_member-6.new.out (codes "export_options") (array_of (map lifted_json ls)))
    c.in_ok-lifted.ensures
    c.in_ok-put_member-6.ensures in
    field_then c.in_ok-put_member.ensures
    (field_then renames
    (field_then c.in_ok-put_member-2.ensures
    (field_then c.in_ok-put_member-3.ensures
    (field_then c.in_ok-put_member-4.ensures
    (field_then used
    (field_then lifted no_fields))))))
