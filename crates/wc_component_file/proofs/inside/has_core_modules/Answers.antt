use Rattle.wc_component_file.proofs.SearchLemmas.{search_found, search_into, search_pass, into_smaller, pass_smaller}
use Rattle.wc_component_file.proofs.inside.has_core_modules.Goals as goal

pub returns-then-has_module : goal.returns-then-has_module
returns-then-has_module c =
    search_found _ _ _ _ _ _ _ c.loop-component.invariant c.in-Some.ensures.items (rw c.in-Some-2.is at c.in_ok-frames.ensures) c.deref.ensures.value c.has_module.ensures c.if-has_module.true

pub loop-component-smaller-in-Some-2 : goal.loop-component-smaller-in-Some-2
loop-component-smaller-in-Some-2 c =
    into_smaller _ _ _ _ _ _ c.in-Some.ensures.items (rw c.in-Some-2.is at c.in_ok-frames.ensures) c.deref-in-Some-2.ensures.value c.in_ok-add_components.ensures

pub loop-component-preserved-in-Some-2 : goal.loop-component-preserved-in-Some-2
loop-component-preserved-in-Some-2 c =
    search_into _ _ _ _ _ _ _ _ _ c.loop-component.invariant c.in-Some.ensures.items (rw c.in-Some-2.is at c.in_ok-frames.ensures) c.deref.ensures.value c.has_module.ensures c.if-has_module.false
    c.deref-in-Some-2.ensures.value c.in_ok-add_components.ensures

pub loop-component-smaller : goal.loop-component-smaller
loop-component-smaller c = pass_smaller _ _ _ c.in-Some.ensures.items

pub loop-component-preserved : goal.loop-component-preserved
loop-component-preserved c = search_pass _ _ _ _ c.loop-component.invariant c.in-Some.ensures.items (rw c.in_default-2.is at c.in_ok-frames.ensures)
