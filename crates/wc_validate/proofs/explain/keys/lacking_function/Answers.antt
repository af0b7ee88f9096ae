use Rattle.std.proofs.Common.{List, ℕ, Some, Contains, map, ap, sym, ◌∙◌, []}
use Rattle.wc_resolve.specs.Views.{FunctionView, InterfaceView, function_entry}
use Rattle.std.specs.Option.{option_map_or}
use Rattle.wc_validate.specs.Requirements.{function_names, functions_of}
use Rattle.wc_validate.proofs.BuiltinLemmas.{not_so}
use Rattle.wc_validate.proofs.MissingLemmas.{passed_end, passed_first, passed_next, passed_start}
use Rattle.wc_validate.proofs.explain.keys.lacking_function.Goals as goal

pub loop-name-init : goal.loop-name-init
loop-name-init c = λ recorded same.
    passed_start _ (functions_of c.args.resolve.now c.args.id.0) _
    (ap (map function_entry) (c.into_iter-name-iterator.ensures.into_iter_gives ∙ c.iter-name-items.ensures.rest)
    ∙ sym (ap (λ o. option_map_or (λ (v : InterfaceView). v.functions) o []) c.interface.ensures))

pub returns-then-not-branch : goal.returns-then-not-branch
returns-then-not-branch c = λ recorded same. (
  function_entry (c.in-Some.name.now, c.in-Some._function.now),
  sym c.as_str-then-not-branch.ensures.value,
  passed_first (λ (f : List ℕ × FunctionView). Contains (function_names recorded) (Some c.args.id.0, f.0))
      (functions_of c.args.resolve.now c.args.id.0) (map function_entry c.loop-name.name-iterator) (map function_entry c.next.new.self)
      (function_entry (c.in-Some.name.now, c.in-Some._function.now)) (c.loop-name.invariant recorded same) (ap (map function_entry) c.in-Some.ensures.steps)
      (not_so _ _ (rw c.as_str.ensures.value at (c.in_ok-is_recorded.ensures recorded same)) c.if-not-branch.true),
)

pub loop-name-preserved : goal.loop-name-preserved
loop-name-preserved c = λ recorded same.
    passed_next _ (functions_of c.args.resolve.now c.args.id.0) (map function_entry c.loop-name.name-iterator) (map function_entry c.next.new.self)
    (function_entry (c.in-Some.name.now, c.in-Some._function.now)) (c.loop-name.invariant recorded same) (ap (map function_entry) c.in-Some.ensures.steps)
    ((rw c.as_str.ensures.value at (c.in_ok-is_recorded.ensures recorded same)).0 c.if-not-branch.false)

pub returns : goal.returns
returns c = λ recorded same.
    passed_end (λ (f : List ℕ × FunctionView). Contains (function_names recorded) (Some c.args.id.0, f.0)) (functions_of c.args.resolve.now c.args.id.0) _
    (c.loop-name.invariant recorded same) (ap (map function_entry) c.in-None.ensures.steps.0)
