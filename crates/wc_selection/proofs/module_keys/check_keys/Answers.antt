use Rattle.std.proofs.Common.{◌≡◌, All, Contains, inr, map, subst}
use Rattle.wc_selection.specs.Keys.{named_key, texts_of}
use Rattle.wc_selection.specs.Requests.{given_keys, request_value}
use Rattle.wc_maps.specs.Texts.{AreDistinct, IsFirstMissing, IsFirstRepeated, text_of}
use Rattle.wc_selection.proofs.KeyTextLemmas.{unknown_cause}
use Rattle.wc_selection.proofs.module_keys.check_keys.Goals as goal

pub returns-in-Some-clause-fault : goal.returns-in-Some-clause-fault
returns-in-Some-clause-fault c =
    let there = texts_of (map named_key c.args.keys.now) in
    let missing =
    subst (λ xs. IsFirstMissing (map text_of xs) there c.in-Some.unknown.now) c.deref.ensures.value (rw c.in-Some.is at c.in_ok-unknown.ensures.unknown) in
    unknown_cause (given_keys (request_value c.args.request.now)) (map named_key c.args.own.now) (map named_key c.args.keys.now) c.in-Some.unknown.now
    c.unknown_key.result (subst (λ l. IsFirstMissing l there c.in-Some.unknown.now) c.in_ok-given.ensures missing) c.unknown_key.ensures

pub returns-in-Some-2-clause-fault : goal.returns-in-Some-2-clause-fault
returns-in-Some-2-clause-fault c =
    let there = texts_of (map named_key c.args.keys.now) in
    let given : map text_of c.in_ok-given.given.items ≡ given_keys (request_value c.args.request.now) = c.in_ok-given.ensures in
    let all = subst (All (Contains there)) given (subst (λ xs. All (Contains there) (map text_of xs)) c.deref.ensures.value (rw c.in_default.is at c.in_ok-unknown.ensures.none)) in
    let again = rw c.in-Some-2.is at c.in_ok-key.ensures.repeated in inr (
      all,
      subst (λ l. IsFirstRepeated l c.in-Some-2.key.now) given
          (subst (λ xs. IsFirstRepeated (map text_of xs) c.in-Some-2.key.now) c.deref-2.ensures.value again),
    )

pub returns-clause-there : goal.returns-clause-there
returns-clause-there c =
    let there = texts_of (map named_key c.args.keys.now) in
    let given : map text_of c.in_ok-given.given.items ≡ given_keys (request_value c.args.request.now) = c.in_ok-given.ensures in
    let all = subst (All (Contains there)) given (subst (λ xs. All (Contains there) (map text_of xs)) c.deref.ensures.value (rw c.in_default.is at c.in_ok-unknown.ensures.none)) in
    let once = rw c.in-None.is at c.in_ok-key.ensures.none in
    (all, subst AreDistinct given (subst (λ xs. AreDistinct (map text_of xs)) c.deref-2.ensures.value once))
