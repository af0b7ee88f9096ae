use Rattle.std.proofs.Common.{◌∙◌, ap, true, false, map, arith}
use Rattle.std.specs.Vec.{with_items}
use Rattle.std.proofs.lemmas.List.{with_items_is}
use Rattle.wc_read.specs.Items.{table_value}
use Rattle.wc_read.specs.Exports.{export_value}
use Rattle.wc_gc.specs.Private.FuncGroups.{is_in_group}
use Rattle.wc_gc.specs.Live.{has_item}
use Rattle.wc_gc.specs.Private.Edit.{settings_of}
use Rattle.wc_gc.proofs.EditedImageLemmas.{edited_image_is, group_coded}
use Rattle.wc_gc.proofs.assemble.image.Goals as goal

pub new_funcs-requires-clause-cut : goal.new_funcs-requires-clause-cut
new_funcs-requires-clause-cut g c = rw c.deref-2.ensures.value c.requires.cut

pub new_funcs-requires-clause-imports : goal.new_funcs-requires-clause-imports
new_funcs-requires-clause-imports g c =
    rw c.deref-2.ensures.value (group_coded c.args.source.now.adapter.now (g.L.LiveSet.has c.args.source.now.live.now.funcs) (is_in_group (settings_of c.args.edit) true) (g.L.LiveSet.has c.args.groups.now.imports) c.requires.in_range c.requires.groups.imports)

pub new_funcs-requires-clause-defined : goal.new_funcs-requires-clause-defined
new_funcs-requires-clause-defined g c =
    rw c.deref-2.ensures.value (group_coded c.args.source.now.adapter.now (g.L.LiveSet.has c.args.source.now.live.now.funcs) (is_in_group (settings_of c.args.edit) false) (g.L.LiveSet.has c.args.groups.now.defined) c.requires.in_range c.requires.groups.defined)

pub returns : goal.returns
returns g c =
    edited_image_is c.args.edit c.args.source.now.adapter.now (map export_value c.args.source.now.exports.now) (has_item g.L.LiveSet.has c.args.source.now.live.now) c.requires.indices c.requires.types c.requires.funcs g.L.LiveSet.has c.args.groups.now c.requires.groups
    _ (rw c.deref.ensures.value at c.in_ok-types.ensures)
    _ (rw c.deref-2.ensures.value at c.in_ok-funcs.ensures)
    (with_items c.in_ok-tables.tables c.renumber_tables.new.tables).items c.in_ok-tables.tables.items (rw c.deref-3.ensures.value at c.in_ok-tables.ensures)
    (ap (map table_value) (with_items_is c.in_ok-tables.tables c.renumber_tables.new.tables (omega arith))
    ∙ rw c.deref_mut.ensures.value at c.renumber_tables.ensures)
    c.in_ok-memories.memories.items (rw c.deref-4.ensures.value at c.in_ok-memories.ensures)
    _ c.in_ok-globals.globals.items (rw c.deref-5.ensures.value at c.in_ok-globals.ensures) (rw c.deref-6.ensures.value at c.in_ok-globals-2.ensures)
    _ c.in_ok-exports.ensures
    _ c.start.ensures
