use Rattle.std.proofs.Common.{refl, sym, ◌∙◌, ap, subst, map, length}
use Rattle.std.proofs.Math.Path.{fun_ext}
use Rattle.std.proofs.lemmas.Result.{err_from_is_err_and}
use Rattle.wc_read.specs.Exports.{export_value}
use Rattle.wc_write.specs.Modules.{SizesFit, built_text, built_value_by}
use Rattle.wc_read.specs.Decoded.{decoded_module}
use Rattle.wc_gc.specs.Edit.{EditedModule, edit, edited_by, import_func}
use Rattle.wc_gc.specs.EditedImage.{FitsBits, edited_image}
use Rattle.wc_gc.specs.Found.{found_view}
use Rattle.wc_gc.specs.Live.{has_item}
use Rattle.wc_gc.specs.NewBodies.{body_written, init_written}
use Rattle.wc_gc.specs.NewIndices.{HasRoomFor}
use Rattle.wc_gc.specs.Parts.{settings_view}
use Rattle.wc_gc.proofs.EditedImageLemmas.{imports_same, defined_same, new_ranks, edited_length}
use Rattle.wc_gc.proofs.EditedTextLemmas.{edit_is, groups_apart, memory_first, fits_room, room_fits, no_room, not_written, only_length}
use Rattle.wc_gc.proofs.FoundLemmas.{size_is}
use Rattle.wc_read.specs.declared.operators.Space.TheVariants.{Types, Funcs}
use Rattle.wc_gc.proofs.edited_image.edited_text.Goals as goal

pub returns-in_err-new-clause-fault : goal.returns-in_err-new-clause-fault
returns-in_err-new-clause-fault g c =
    let a = c.args.adapter in
    let live = has_item g.L.LiveSet.has c.args.reached.now.found.live in
    let exports = map export_value c.args.reached.now.exports.items in
    let s = settings_view c.args.settings in
    let f = found_view c.args.found.now in
    let funcs = c.deref.ensures.value in
    let is = fun_ext (λ n. (rw funcs at c.in_ok-groups.ensures).imports n ∙ sym (imports_same exports s c.of-parts.result f a live n)) in
    let ds = fun_ext (λ n. (rw funcs at c.in_ok-groups.ensures).defined n ∙ sym (defined_same exports s c.of-parts.result f a live n)) in
    let same = edit_is s (decoded_module a) exports live c.of-parts.result f c.requires.found c.of-parts.ensures in
    let p = err_from_is_err_and c.from_residual-in_err-new.result c.from_residual-in_err-new.ensures.1 in
    rw (p.1, p.2) (no_room (HasRoomFor live (g.L.LiveSet.has c.in_ok-groups.groups.imports)
    (g.L.LiveSet.has c.in_ok-groups.groups.defined) c.counts.result) (FitsBits (edited_image (edit s (decoded_module a) exports live)))
    (λ (b : FitsBits (edited_image (edit s
    (decoded_module a) exports live))). fits_room s a exports live c.of-parts.result f _ _ c.counts.result is ds c.counts.ensures.types
    c.counts.ensures.funcs c.counts.ensures.added_types c.counts.ensures.added_imports c.counts.ensures.added_funcs
    (subst (λ (z : EditedModule). FitsBits (edited_image z)) (sym same) b)) _ c.in_err-new.ensures.fault)

pub new_indices-requires : goal.new_indices-requires
new_indices-requires g c = groups_apart _ _ _ _ _ _ c.in_ok-groups.ensures

pub lazy_call-requires : goal.lazy_call-requires
lazy_call-requires g c = ap (λ k. k.added_funcs) c.in_ok-new.ensures.counts ∙ c.counts.ensures.added_funcs

pub invariant_of-edit : goal.invariant_of-edit
invariant_of-edit g c = record {
  types = ap (λ k. k.added_types) c.in_ok-new.ensures.counts ∙ c.counts.ensures.added_types;
  imports = ap (λ k. k.added_imports) c.in_ok-new.ensures.counts ∙ c.counts.ensures.added_imports;
  funcs = ap (λ k. k.added_funcs) c.in_ok-new.ensures.counts ∙ c.counts.ensures.added_funcs;
  memory = memory_first c.in_ok-new.new (decoded_module c.args.adapter) (has_item g.L.LiveSet.has c.args.reached.now.found.live)
      (found_view c.args.found.now) c.requires.found c.in_ok-new.ensures.ranks.memories;
  same = refl;
  called = c.lazy_call.ensures;
}

pub image-requires-clause-indices : goal.image-requires-clause-indices
image-requires-clause-indices g c =
    let a = c.args.adapter in
    let live = has_item g.L.LiveSet.has c.args.reached.now.found.live in
    let exports = map export_value c.args.reached.now.exports.items in
    let s = settings_view c.args.settings in
    let f = found_view c.args.found.now in
    let funcs = c.deref.ensures.value in
    let is = fun_ext (λ n. (rw funcs at c.in_ok-groups.ensures).imports n ∙ sym (imports_same exports s c.of-parts.result f a live n)) in
    let ds = fun_ext (λ n. (rw funcs at c.in_ok-groups.ensures).defined n ∙ sym (defined_same exports s c.of-parts.result f a live n)) in
    rw c.deref-3.ensures.value (new_ranks (edited_by s (decoded_module a) exports live c.of-parts.result f) c.in_ok-new.new _ _ c.in_ok-new.ensures.ranks is ds
    (ap (λ k. k.types) c.in_ok-new.ensures.counts ∙ (c.counts.ensures.types ∙ sym (size_is a Types)))
    (ap (λ k. k.funcs) c.in_ok-new.ensures.counts
    ∙ (c.counts.ensures.funcs ∙ (sym (size_is a Funcs) ∙ sym (edited_length exports s c.of-parts.result f live (decoded_module a).funcs))))
    (ap (λ k. k.added_imports) c.in_ok-new.ensures.counts
    ∙ (c.counts.ensures.added_imports ∙ sym (only_length c.of-parts.result.import_realloc (import_func (length (decoded_module a).types) s)))))

pub returns-in_err-write_module_of-clause-fault : goal.returns-in_err-write_module_of-clause-fault
returns-in_err-write_module_of-clause-fault g c =
    let same = edit_is (settings_view c.args.settings) (decoded_module c.args.adapter) (map export_value c.args.reached.now.exports.items)
    (has_item g.L.LiveSet.has c.args.reached.now.found.live) c.of-parts.result (found_view c.args.found.now) c.requires.found c.of-parts.ensures in
    let is = (rw c.deref-3.ensures.value at c.in_ok-built.ensures) ∙ ap edited_image same in
    let p = err_from_is_err_and c.from_residual-in_err-write_module_of.result c.from_residual-in_err-write_module_of.ensures.1 in
    rw (p.1, p.2) (not_written (FitsBits
    (edited_image (edit (settings_view c.args.settings) (decoded_module c.args.adapter) (map export_value c.args.reached.now.exports.items)
    (has_item g.L.LiveSet.has c.args.reached.now.found.live)))) (built_value_by body_written init_written c.in_ok-built.built)
    (λ b. subst SizesFit (sym is) b.sizes) _ c.in_err-write_module_of.ensures.too_large)

pub returns-clause-written : goal.returns-clause-written
returns-clause-written g c =
    let same = edit_is (settings_view c.args.settings) (decoded_module c.args.adapter) (map export_value c.args.reached.now.exports.items)
    (has_item g.L.LiveSet.has c.args.reached.now.found.live) c.of-parts.result (found_view c.args.found.now) c.requires.found c.of-parts.ensures in
    c.in_ok-write_module_of.ensures.written ∙ ap built_text ((rw c.deref-3.ensures.value at c.in_ok-built.ensures) ∙ ap edited_image same)

pub returns-clause-fits : goal.returns-clause-fits
returns-clause-fits g c =
    let a = c.args.adapter in
    let live = has_item g.L.LiveSet.has c.args.reached.now.found.live in
    let exports = map export_value c.args.reached.now.exports.items in
    let s = settings_view c.args.settings in
    let f = found_view c.args.found.now in
    let funcs = c.deref.ensures.value in
    let is = fun_ext (λ n. (rw funcs at c.in_ok-groups.ensures).imports n ∙ sym (imports_same exports s c.of-parts.result f a live n)) in
    let ds = fun_ext (λ n. (rw funcs at c.in_ok-groups.ensures).defined n ∙ sym (defined_same exports s c.of-parts.result f a live n)) in
    let same = edit_is s (decoded_module a) exports live c.of-parts.result f c.requires.found c.of-parts.ensures in
    λ _. subst (λ (z : EditedModule). FitsBits (edited_image z)) same
    (room_fits s a exports live c.of-parts.result f _ _ c.counts.result is ds c.counts.ensures.types c.counts.ensures.funcs
    c.counts.ensures.added_types c.counts.ensures.added_imports c.counts.ensures.added_funcs
    (c.in_ok-new.ensures.fits refl) (subst SizesFit (rw c.deref-3.ensures.value at c.in_ok-built.ensures) (c.in_ok-write_module_of.ensures.fits refl)))
