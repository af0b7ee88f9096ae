use Rattle.std.proofs.Common.{◌∙◌, ◌&&◌, ◌||◌, [], ◌∷◌, get_or, take, ap, sym, false, true}
use Rattle.std.specs.Prelude.{nat_eq}
use Rattle.std.specs.List.{list_any}
use Rattle.std.proofs.Math.Bool.{or-false}
use Rattle.std.proofs.lemmas.List.{take_more}
use Rattle.std.proofs.lemmas.List.Folds.{list_any-append}
use Rattle.wc_gc.specs.Private.FuncGroups.{has_func, is_in_group}
use Rattle.wc_gc.specs.Parts.{settings_view}
use Rattle.wc_gc.proofs.NumbersBelowLemmas.{group_more}
use Rattle.wc_gc.proofs.func_groups.groups.Goals as goal

pub loop-index-preserved : goal.loop-index-preserved
loop-index-preserved g c =
    let is_imported = has_func (is_in_group (settings_view c.args.settings) true) c.args.funcs.now in
    let is_defined = has_func (is_in_group (settings_view c.args.settings) false) c.args.funcs.now in
    let i = c.loop-index.index-index in
    let x = get_or c.args.indices.now c.loop-index.index-index 0 in (
      λ n.
          group_more is_imported n x (list_any (nat_eq n) (take i c.args.indices.now)) _ _ c.has_func_in_group-is_imported.result (c.in_ok-insert_if.ensures n) (c.loop-index.invariant.0 n) c.has_func_in_group-is_imported.ensures
          ∙ ap (λ b. b && is_imported n) (sym (ap (list_any (nat_eq n)) (take_more c.args.indices.now i 0 c.loop-index-test.true) ∙ (list_any-append (nat_eq n) (take i c.args.indices.now) (x ∷ []) ∙ ap (λ b. list_any (nat_eq n) (take i c.args.indices.now) || b) (or-false (nat_eq n x))))),
      λ n.
          group_more is_defined n x (list_any (nat_eq n) (take i c.args.indices.now)) _ _ c.has_func_in_group-is_defined.result (c.in_ok-insert_if-2.ensures n) (c.loop-index.invariant.1 n) c.has_func_in_group-is_defined.ensures
          ∙ ap (λ b. b && is_defined n) (sym (ap (list_any (nat_eq n)) (take_more c.args.indices.now i 0 c.loop-index-test.true) ∙ (list_any-append (nat_eq n) (take i c.args.indices.now) (x ∷ []) ∙ ap (λ b. list_any (nat_eq n) (take i c.args.indices.now) || b) (or-false (nat_eq n x))))),
    )
