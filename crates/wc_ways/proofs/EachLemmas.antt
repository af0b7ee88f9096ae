-- What is said of things in a row.
use Rattle.std.proofs.Common.{List, [], ◌∷◌, ◌++◌, refl, sym, ap, ◌∙◌, append_assoc, append-nil}
use Rattle.wc_ways.specs.Each.{AreEach}

pub each_more : {X A : Type 0} (Is : X → List A → Type 0) (xs : List X) (x : X) (parts more : List A) → AreEach Is xs parts → Is x more
    → AreEach Is (xs ++ x ∷ []) (parts ++ more)
each_more Is [] x parts more none is = (more, [], is, refl, ap (λ z. z ++ more) none ∙ sym (append-nil more))
each_more Is (y ∷ ys) x parts more (first, rest, here, others, joined) is =
    (first, rest ++ more, here, each_more Is ys x rest more others is, ap (λ z. z ++ more) joined ∙ append_assoc first rest more)
