use Rattle.std.proofs.Common.{◌∙◌, ap, map, subst, sym}
use Rattle.wc_validate.specs.Exports.Map.{export_entry}
use Rattle.wc_validate.proofs.MissingLemmas.{MemoriesPassed, second_end, second_first, second_found, second_pass, second_start}
use Rattle.wc_validate.proofs.requirements.second_memory.Goals as goal

pub loop-name-init : goal.loop-name-init
loop-name-init c =
    second_start (map export_entry c.args.names.now.entries) _
    (ap (map export_entry) (c.into_iter-name-iterator.ensures.into_iter_gives ∙ c.iter-name-items.ensures.rest))

pub loop-name-preserved-then-not-is_memory : goal.loop-name-preserved-then-not-is_memory
loop-name-preserved-then-not-is_memory c =
    second_pass c.loop-name.found (map export_entry c.args.names.now.entries) _ (map export_entry c.next.new.self)
    (export_entry (c.in-Some.name.now, c.in-Some.export.now)) c.loop-name.invariant (ap (map export_entry) c.in-Some.ensures.steps)
    (sym c.is_memory.ensures ∙ c.if-not-is_memory.true)

pub returns-then-found : goal.returns-then-found
returns-then-found c = (
  export_entry (c.in-Some.name.now, c.in-Some.export.now),
  sym c.as_str.ensures.value,
  second_found (map export_entry c.args.names.now.entries) _ (map export_entry c.next.new.self)
      (export_entry (c.in-Some.name.now, c.in-Some.export.now))
      (subst (λ b. MemoriesPassed b (map export_entry c.args.names.now.entries) (map export_entry c.loop-name.name-iterator))
      c.if-found.true c.loop-name.invariant) (ap (map export_entry) c.in-Some.ensures.steps) (sym c.is_memory.ensures ∙ c.if-not-is_memory.false),
)

pub loop-name-preserved : goal.loop-name-preserved
loop-name-preserved c =
    second_first (map export_entry c.args.names.now.entries) _ (map export_entry c.next.new.self) (export_entry (c.in-Some.name.now, c.in-Some.export.now))
    (subst (λ b. MemoriesPassed b (map export_entry c.args.names.now.entries) (map export_entry c.loop-name.name-iterator))
    c.if-found.false c.loop-name.invariant) (ap (map export_entry) c.in-Some.ensures.steps) (sym c.is_memory.ensures ∙ c.if-not-is_memory.false)

pub returns : goal.returns
returns c =
    second_end c.loop-name.found (map export_entry c.args.names.now.entries) _ c.loop-name.invariant (ap (map export_entry) c.in-None.ensures.steps.0)
