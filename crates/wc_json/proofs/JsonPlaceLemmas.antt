-- The place at which a text is not JSON: lexemes that are passed, and tokens that are taken up.
use Rattle.std.proofs.Common.{◌≡◌, ℕ, suc, ◌+◌, Bool, true, false, List, [], ◌∷◌, ◌++◌, length, drop, Some, None, refl, sym, ap, subst, ◌∙◌, add-one, append-nil, append_assoc, ◌≤◌}
use Rattle.std.specs.Bool.{MatchBool}
use Rattle.std.proofs.lemmas.List.{drop_all}
use Rattle.std.specs.Option.{option_map_or}
use Rattle.json.specs.Token.{Token}
use Rattle.json.specs.Lex.{class}
use Rattle.wc_json.specs.JsonPlace.{ReadView, begins, class_of, is_inside, lexemes, passed, place, start_here, starts, stop, take_token}
use Rattle.wc_json.specs.declared.json_place.Class.{Class}
use Rattle.wc_json.specs.declared.json_place.Mode.{Mode}

here_first : (b : Bool) (at : ℕ) (more : List ℕ) → start_here b at more ≡ start_here b at [] ++ more
here_first true at more = refl
here_first false at more = refl

-- one more byte
pub starts_step : (text found after : List ℕ) (at x : ℕ) (m next : Mode) (c : Class) → drop at text ≡ x ∷ drop (at + 1) text → c ≡ class_of (class x)
    → after ≡ found ++ start_here (begins m c) at [] → next ≡ passed m c → found ++ starts m at (drop at text) ≡ after ++ starts next (at + 1) (drop (at + 1) text)
unfolding starts
starts_step text found after at x m next c here is put moved =
    let more : List ℕ = starts (passed m (class_of (class x))) (suc at) (drop (at + 1) text) in
    ap (λ ys. found ++ starts m at ys) here
    ∙ ap (λ ys. found ++ ys) (here_first (begins m (class_of (class x))) at more)
    ∙ sym (append_assoc found (start_here (begins m (class_of (class x))) at []) more)
    ∙ ap (λ d. (found ++ start_here (begins m d) at []) ++ more) (sym is)
    ∙ ap (λ ys. ys ++ more) (sym put)
    ∙ ap (λ d. after ++ starts (passed m d) (suc at) (drop (at + 1) text)) (sym is)
    ∙ ap (λ n. after ++ starts n (suc at) (drop (at + 1) text)) (sym moved)
    ∙ ap (λ k. after ++ starts next k (drop (at + 1) text)) (sym (add-one at))

-- no byte is left
pub starts_all : (text found : List ℕ) (at : ℕ) (m : Mode) → length text ≤ at → found ++ starts m at (drop at text) ≡ found
unfolding starts
starts_all text found at m past = ap (λ ys. found ++ starts m at ys) (drop_all at text past) ∙ append-nil found

-- a token that may not come, and one that may
module _ (text : List ℕ) (r next : ReadView) (left : List ℕ) (t : Token) (old ts : List Token) (b : Bool) (is : old ≡ t ∷ ts)
    (taken : MatchBool b (take_token r t ≡ Some next) (take_token r t ≡ None)) where
  at_token : stop text r left old ≡ option_map_or (λ after. stop text after (drop (lexemes r.last t) left) ts) (take_token r t) (place text left (is_inside r))
  at_token = ap (λ all. stop text r left all) is

  pub stop_here : b ≡ false → stop text r left old ≡ place text left (is_inside r)
  stop_here e =
      let none : take_token r t ≡ None = subst (λ d. MatchBool d (take_token r t ≡ Some next) (take_token r t ≡ None)) e taken in
      at_token ∙ ap (λ o. option_map_or (λ after. stop text after (drop (lexemes r.last t) left) ts) o (place text left (is_inside r))) none

  pub stop_later : (more : List ℕ) (count : ℕ) → b ≡ true → more ≡ drop count left → count ≡ lexemes r.last t → stop text r left old ≡ stop text next more ts
  stop_later more count e passed many =
      let some : take_token r t ≡ Some next = subst (λ d. MatchBool d (take_token r t ≡ Some next) (take_token r t ≡ None)) e taken in
      at_token
      ∙ ap (λ o. option_map_or (λ after. stop text after (drop (lexemes r.last t) left) ts) o (place text left (is_inside r))) some
      ∙ ap (λ k. stop text next (drop k left) ts) (sym many)
      ∙ ap (λ ys. stop text next ys ts) (sym passed)
