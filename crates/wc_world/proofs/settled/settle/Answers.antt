use Rattle.std.proofs.Common.{◌≡◌, ◌∙◌, true, IfSome, ap, sym, subst}
use Rattle.wc_world.specs.Private.Marks.{known_to, mark_of}
use Rattle.wc_world.specs.Private.Settled.{is_settled_for}
use Rattle.wc_world.specs.Used.{used_view}
use Rattle.wc_maps.proofs.OptionLemmas.{none_of_false}
use Rattle.wc_world.proofs.SettledLemmas.{settled_more}
use Rattle.wc_world.proofs.UsedLemmas.{on_ok}
use Rattle.wc_world.proofs.settled.settle.Goals as goal

pub returns-in-Some : goal.returns-in-Some
returns-in-Some c =
    let r = c.args.context.now.resolve.now in
    let sets = used_view c.args.context.now.used.now in
    let live = c.args.live.now in
    let t = c.args.ty.0 in
    let reach = c.in-Some.reach in
    on_ok c.mark.result c.mark.ensures
    (λ put. settled_more r sets live c.args.settled.now.items c.mark.new.settled.items t reach c.requires.settled put
    (ap (λ z. mark_of z t) (sym c.deref.ensures.value) ∙ (sym c.mark_of.ensures ∙ none_of_false c.mark_of.result (sym c.is_some.ensures ∙ c.if-is_some.false)))
    (subst (λ z. is_settled_for r sets (known_to sets live z reach) reach t ≡ true) c.deref-2.ensures.value
    (subst (λ o. IfSome o (λ x. is_settled_for r sets (known_to sets live c.deref-2.result.now x) x t ≡ true)) c.in-Some.is c.reach_of.ensures)))
