use Rattle.std.proofs.Common.{◌≡◌, ◌∙◌, List, ℕ, IsTrue, true, false, ap, map, sym}
use Rattle.wc_names.specs.ExportViews.{ExportView}
use Rattle.wc_validate.specs.Exports.Map.{export_entry}
use Rattle.wc_validate.specs.Requirements.{is_called_back}
use Rattle.wc_validate.proofs.MissingLemmas.{passed_end, passed_first, passed_next, passed_start}
use Rattle.wc_validate.proofs.requirements.uncalled.Goals as goal

pub loop-name-init : goal.loop-name-init
loop-name-init c =
    passed_start (λ (e : List ℕ × ExportView). IsTrue (is_called_back (map export_entry c.args.names.now.entries) e)) (map export_entry c.args.names.now.entries) _
    (ap (map export_entry) (c.into_iter-name-iterator.ensures.into_iter_gives ∙ c.iter-name-items.ensures.rest))

pub returns-then-not-branch : goal.returns-then-not-branch
returns-then-not-branch c = (
  export_entry (c.in-Some.name.now, c.in-Some.export.now),
  sym c.as_str-then-not-branch.ensures.value,
  passed_first (λ (e : List ℕ × ExportView). IsTrue (is_called_back (map export_entry c.args.names.now.entries) e))
      (map export_entry c.args.names.now.entries) (map export_entry c.loop-name.name-iterator) (map export_entry c.next.new.self)
      (export_entry (c.in-Some.name.now, c.in-Some.export.now)) c.loop-name.invariant (ap (map export_entry) c.in-Some.ensures.steps)
      (λ there. let bad : false ≡ true = sym c.if-not-branch.true ∙ ((rw c.as_str.ensures.value at c.in_ok-is_called_back.ensures) ∙ there) in
      let none : ⊥ = cc bad in none),
)

pub loop-name-preserved : goal.loop-name-preserved
loop-name-preserved c =
    passed_next (λ (e : List ℕ × ExportView). IsTrue (is_called_back (map export_entry c.args.names.now.entries) e)) (map export_entry c.args.names.now.entries)
    (map export_entry c.loop-name.name-iterator) (map export_entry c.next.new.self) (export_entry (c.in-Some.name.now, c.in-Some.export.now))
    c.loop-name.invariant (ap (map export_entry) c.in-Some.ensures.steps)
    (sym (rw c.as_str.ensures.value at c.in_ok-is_called_back.ensures) ∙ c.if-not-branch.false)

pub returns : goal.returns
returns c =
    passed_end (λ (e : List ℕ × ExportView). IsTrue (is_called_back (map export_entry c.args.names.now.entries) e))
    (map export_entry c.args.names.now.entries) _ c.loop-name.invariant (ap (map export_entry) c.in-None.ensures.steps.0)
