use Rattle.std.proofs.Common.{map, sym, ◌∙◌, subst, is_some, true, ◌≡◌, List, ℕ}
use Rattle.std.proofs.lemmas.Iterator.Adapters.{YieldsList-from_vec}
use Rattle.std.proofs.lemmas.Iterator.Consumers.{YieldsList-so_far, YieldsList-turn}
use Rattle.wc_json.specs.Messages.{adapter_message_view}
use Rattle.wc_calls.proofs.AdapterLemmas.{cut_at, message_added, named, named_twice}
use Rattle.wc_calls.proofs.encoders.adapters_of.Goals as goal

pub returns-then-contains_key-clause-fault : goal.returns-then-contains_key-clause-fault
returns-then-contains_key-clause-fault c =
    let ms = c.args.messages.items in
    let passed = c.loop-message.yielded in
    let entries = c.loop-message.adapters.entries in
    let all = YieldsList-from_vec {s = c.into_iter-message-iterator.result} ms c.into_iter-message-iterator.ensures.into_iter_gives.0 cc in
    let at = YieldsList-turn all passed c.loop-message.message-iterator c.loop-message.yielded_by c.next.result c.next.new.self c.in-Some.message c.in-Some.is
    c.next.ensures.steps in
    let front = YieldsList-so_far all passed c.loop-message.message-iterator c.loop-message.yielded_by in
    let there = subst (λ (t : List ℕ). is_some (named t entries) ≡ true) c.as_str.ensures.value (sym c.contains_key.ensures ∙ c.if-contains_key.true) in
    named_twice c.args.index.now (map adapter_message_view ms) (map adapter_message_view passed) _ (adapter_message_view c.in-Some.message) c.args.bytes.now c.loop-message.rest.now
    entries (cut_at adapter_message_view ms passed c.in-Some.message at front) c.loop-message.invariant there

pub loop-message-preserved : goal.loop-message-preserved
loop-message-preserved c =
    message_added c.args.index.now c.loop-message.yielded c.args.bytes.now c.loop-message.rest.now c.in-Some-split.wasm.now c.in-Some-split.others.now
    c.loop-message.adapters.entries c.insert.new.self.entries c.in-Some.message c.in_ok-adapter.adapter c.as_str.result.now c.contains_key.result
    c.loop-message.invariant c.in-Some-split.ensures.cut c.in-Some-split.ensures.size c.in_ok-adapter.ensures.wasm (c.in_ok-adapter.ensures.required ∙ c.in_ok-required.ensures)
    c.in_ok-adapter.ensures.library c.as_str.ensures.value c.contains_key.ensures c.if-contains_key.false c.in_ok-insert.ensures.entries
