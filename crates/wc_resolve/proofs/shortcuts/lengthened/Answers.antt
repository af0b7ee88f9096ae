use Rattle.std.proofs.Common.{Some, subst, sym}
use Rattle.wc_resolve.specs.declared.ids.TypeId.{TypeId}
use Rattle.wc_resolve.specs.Shortcuts.{IsShortcut}
use Rattle.wc_resolve.proofs.ShortcutLemmas.{joined_right, shortcut_read}
use Rattle.wc_resolve.proofs.shortcuts.lengthened.Goals as goal

pub returns-then-second-third : goal.returns-then-second-third
returns-then-second-third c = λ types x all first.
    let second : IsShortcut types c.args.first.target.0 c.in-Some.second = shortcut_read types c.args.shortcuts.now c.args.first.target.0 (Some c.in-Some.second) all c.in-Some.ensures in
    let third : IsShortcut types c.in-Some.second.target.0 c.in-Some-shortcut_of.third = shortcut_read types c.args.shortcuts.now c.in-Some.second.target.0 (Some c.in-Some-shortcut_of.third) all c.in-Some-shortcut_of.ensures in
    joined_right types x c.joined-both.result c.in-Some-shortcut_of.third c.joined.result c.joined.ensures
    (joined_right types x c.args.first c.in-Some.second c.joined-both.result c.joined-both.ensures first second)
    (subst (λ (z : TypeId). IsShortcut types z.0 c.in-Some-shortcut_of.third) (sym c.joined-both.ensures.0) third)
