use Rattle.std.proofs.Common.{◌≡◌, ◌∙◌, length, map, rules, sym}
use Rattle.std.proofs.lemmas.Bool.{false≢true}
use Rattle.std.proofs.lemmas.List.{length-map}
use Rattle.wc_component_file.specs.Told.{role_view}
use Rattle.wcwhy.specs.Private.Component.{IsMainAt}
use Rattle.wcwhy.proofs.ComponentLemmas.{none_in, none_more}
use Rattle.wcwhy.proofs.component.main_index.Goals as goal

pub loop-index-preserved : goal.loop-index-preserved
loop-index-preserved c =
    none_more (IsMainAt (map role_view c.args.roles.now)) c.loop-index.index c.loop-index.invariant (λ is.
    false≢true (sym c.if-is_main_at.false ∙ c.is_main_at.ensures.1 is))

pub returns-clause-none : goal.returns-clause-none
returns-clause-none c =
    let roles = c.args.roles.now in
    let all : c.loop-index.index ≡ length roles = search rules in
    none_in (map role_view roles) c.loop-index.index (all ∙ sym (length-map roles role_view)) c.loop-index.invariant
