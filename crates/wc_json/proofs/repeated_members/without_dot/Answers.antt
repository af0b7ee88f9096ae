use Rattle.std.proofs.Common.{◌≡◌, ◌≢◌, ℕ, List, ◌∷◌, IfOk, MatchOption, string_bytes, subst, sym, arith}
use Rattle.std.proofs.lemmas.Str.Pattern.{strip_prefix_char}
use Rattle.wc_json.proofs.RepeatedMemberLemmas.{no_dot}
use Rattle.wc_json.proofs.repeated_members.without_dot.Goals as goal

pub returns-in-None : goal.returns-in-None
returns-in-None c =
    let path = c.args.path.now in
    let none : (rest : List ℕ) → path ≢ 46 ∷ rest = subst (λ r. MatchOption r ((rest : List ℕ) → path ≢ 46 ∷ rest) (λ x. path ≡ 46 ∷ x.now)) c.in-None.is (strip_prefix_char 46 path c.strip_prefix.result c.strip_prefix.ensures.cases (omega arith)) in
    subst (λ z. IfOk c.from_str-in-None.result (λ s. string_bytes s ≡ z)) (sym (no_dot path none)) c.from_str-in-None.ensures.ok
