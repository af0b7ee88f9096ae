-- What is left of a text after blanks and comments.
use Rattle.std.proofs.Common.{◌≡◌, ℕ, ◌≤◌, List, ◌∷◌, length, drop, Some, None, sym, ap, ◌∙◌, arith}
use Rattle.std.specs.Option.{option_map_or}
use Rattle.std.proofs.lemmas.List.{drop_all}
use Rattle.wc_json.specs.Likeness.{gap_after, kind_of, left}
use Rattle.wc_json.specs.declared.likeness.Gap.{Gap}

module _ (gap : Gap) (text rest : List ℕ) (c : ℕ) (is : text ≡ c ∷ rest) where
  -- a byte among blanks and comments
  pub left_later : (next : Gap) → gap_after gap (kind_of c) ≡ Some next → left gap text ≡ left next rest
  unfolding left
  left_later next e = ap (left gap) is ∙ ap (λ o. option_map_or (λ n. left n rest) o (c ∷ rest)) e

  -- a byte after them
  pub left_here : gap_after gap (kind_of c) ≡ None → left gap text ≡ text
  unfolding left
  left_here e = ap (left gap) is ∙ ap (λ o. option_map_or (λ n. left n rest) o (c ∷ rest)) e ∙ sym is

-- no byte is left
pub left_end : (gap : Gap) (text : List ℕ) (at : ℕ) → length text ≤ at → drop (length text) text ≡ left gap (drop at text)
unfolding left
left_end gap text at past =
    let all : length text ≤ length text = omega arith in
    drop_all (length text) text all ∙ sym (ap (left gap) (drop_all at text past))
