use Rattle.std.proofs.Common.{[], ◌∙◌, ap, sym, map}
use Rattle.std.proofs.lemmas.Option.{slice_get-map}
use Rattle.std.specs.Option.{option_map, option_map_or}
use Rattle.std.specs.declared.alloc.Global.{Global}
use Rattle.std.specs.declared.vec.Vec.{Vec}
use Rattle.wc_why_text.proofs.GroupLemmas.{Text}
use Rattle.wc_why.specs.Tree.{tree_way_view}
use Rattle.wc_why.specs.declared.tree.TreeWay.{TreeWay}
use Rattle.wc_why_text.proofs.groups.group_at.Goals as goal

pub returns-clause-name : goal.returns-clause-name
returns-clause-name c =
    let name : Text × Vec TreeWay Global → _ = λ e. e.0.now in
    slice_get-map name c.args.groups.now.entries c.args.number ∙ ap (option_map name) (sym c.in-Some.ensures.entry)

pub returns-clause-ways : goal.returns-clause-ways
returns-clause-ways c =
    ap (map tree_way_view) c.deref.ensures.value
    ∙ sym (ap (λ o. option_map_or (λ (v : Vec TreeWay Global). map tree_way_view v.items) o []) c.in-Some.ensures.value)
