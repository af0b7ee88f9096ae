use Rattle.std.proofs.Common.{map, [], ◌++◌, ap, sym, subst, ◌∙◌, append-nil, ℕ, String}
use Rattle.std.specs.List.{cons_option}
use Rattle.std.specs.declared.alloc.Global.{Global}
use Rattle.wc_validate.specs.Imports.FirstFunctions.{function_at}
use Rattle.wc_validate.specs.Imports.Map.{required_entry}
use Rattle.wc_validate.specs.Imports.Instances.{import_entry}
use Rattle.wc_validate.specs.Private.Imports.AdapterFunctions.{HasFirsts}
use Rattle.wc_validate.proofs.FirstFunctionLemmas.{function_there, no_function_there}
use Rattle.wc_validate.proofs.AdapterFunctionLemmas.{collected_end, collected_next, collected_start}
use Rattle.wc_validate.proofs.imports.map.required_among.Goals as goal

pub loop-name-init : goal.loop-name-init
loop-name-init c =
    collected_start (λ (e : String Global × ℕ). function_at (map import_entry c.args.names.now.entries) e.1)
    c.args.positions.now.entries c.into_iter-name-iterator.result (map required_entry c.with_hasher-functions.result.entries)
    (c.into_iter-name-iterator.ensures.into_iter_gives ∙ c.iter-name-items.ensures.rest) (ap (map required_entry) c.with_hasher-functions.ensures.empty)

pub loop-name-preserved-in-Continue-1 : goal.loop-name-preserved-in-Continue-1
loop-name-preserved-in-Continue-1 c =
    collected_next (λ (e : String Global × ℕ). function_at (map import_entry c.args.names.now.entries) e.1)
    c.args.positions.now.entries c.loop-name._name-iterator c.next.new.self (c.in-Some._name.now, c.in-Some.position.now)
    (map required_entry c.loop-name.functions.entries) (map required_entry c.add_required.new.functions.entries) c.loop-name.invariant c.in-Some.ensures.steps
    (subst (λ o. HasFirsts (map required_entry c.add_required.new.functions.entries) (c.loop-name.invariant.passed ++ cons_option o []))
    (sym (function_there c.args.names.now.entries c.in-Some.position.now (c.in-Some-get_index.field-0-0.now, c.in-Some-get_index.import.now)
    c.in-Some-get_index.ensures.entry))
    (c.in_ok-add_required.ensures c.loop-name.invariant.passed c.loop-name.invariant.firsts))

pub loop-name-preserved : goal.loop-name-preserved
loop-name-preserved c =
    collected_next (λ (e : String Global × ℕ). function_at (map import_entry c.args.names.now.entries) e.1)
    c.args.positions.now.entries c.loop-name._name-iterator c.next.new.self (c.in-Some._name.now, c.in-Some.position.now)
    (map required_entry c.loop-name.functions.entries) (map required_entry c.loop-name.functions.entries) c.loop-name.invariant c.in-Some.ensures.steps
    (subst (λ o. HasFirsts (map required_entry c.loop-name.functions.entries) (c.loop-name.invariant.passed ++ cons_option o []))
    (sym (no_function_there c.args.names.now.entries c.in-Some.position.now c.in_default.ensures.entry))
    (subst (HasFirsts (map required_entry c.loop-name.functions.entries)) (sym (append-nil c.loop-name.invariant.passed)) c.loop-name.invariant.firsts))

pub returns : goal.returns
returns c =
    collected_end (λ (e : String Global × ℕ). function_at (map import_entry c.args.names.now.entries) e.1)
    c.args.positions.now.entries c.loop-name._name-iterator (map required_entry c.loop-name.functions.entries)
    c.loop-name.invariant c.in-None.ensures.steps.0
