use Rattle.std.proofs.Common.{◌∙◌, ap, inl, inr}
use Rattle.std.specs.Option.{option_and_then, option_map}
use Rattle.wc_resolve.specs.Views.{item_view}
use Rattle.wc_names.specs.Keys.{as_function}
use Rattle.wc_names.proofs.KeyLemmas.{item_found_at, item_viewed, not_a_function}
use Rattle.wc_names.proofs.keys.function_at.Goals as goal

pub returns-in-Function-clause-function : goal.returns-in-Function-clause-function
returns-in-Function-clause-function c =
    let found = rw c.in-Function.is at c.in-Some.ensures.value in
    ap (option_and_then as_function) (ap (option_map item_view) found ∙ item_viewed c.args.key.now c.args.items.now.entries)

pub returns-in-Function-clause-index : goal.returns-in-Function-clause-index
returns-in-Function-clause-index c =
    item_found_at c.args.items.now.entries c.in-Some.index c.in-Some._key.now c.in-Function.function (rw c.in-Function.is at c.in-Some.ensures.entry)

pub returns-in-Interface-clause-function : goal.returns-in-Interface-clause-function
returns-in-Interface-clause-function c = elim c.in-Interface.is [
  | inl h ↦ not_a_function c.args.key.now c.args.items.now.entries c.in-Some.item.now (ap (λ i. as_function (item_view i)) h.2) c.in-Some.ensures.value
  | inr h ↦ not_a_function c.args.key.now c.args.items.now.entries c.in-Some.item.now (ap (λ i. as_function (item_view i)) h.1) c.in-Some.ensures.value
]

pub returns-in-None-clause-function : goal.returns-in-None-clause-function
returns-in-None-clause-function c =
    ap (option_and_then as_function) (ap (option_map item_view) c.in-None.ensures.value ∙ item_viewed c.args.key.now c.args.items.now.entries)
