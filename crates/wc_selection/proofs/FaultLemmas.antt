-- The text of a key that is given twice, which is put in two parts.
use Rattle.std.proofs.Common.{◌≡◌, ℕ, List, ◌++◌, Result, Ok, Err, codes, ap, subst, append_assoc}
use Rattle.wc_texts.specs.FaultTexts.{quoted_text}
use Rattle.wc_texts.specs.Pieces.{IsPut}
use Rattle.wc_selection.specs.Fault.{quoted}

twice : (key : List ℕ) → quoted_text (codes "export") key ++ codes " twice" ≡ quoted (codes "export `") key (codes "` twice")
twice key = ap (λ (t : List ℕ). codes "export `" ++ t) (append_assoc key (codes "`") (codes " twice"))

pub put_twice : {P T E : Type 0} (puts : P → List ℕ → P → Type 0) (fails : P → Type 0)
    → ((a b c : P) (s t : List ℕ) → puts a s b → puts b t c → puts a (s ++ t) c)
    → (a b c : P) (key : List ℕ) (result : Result T E) → puts a (quoted_text (codes "export") key) b → IsPut puts fails b c (codes " twice") result
    → IsPut puts fails a c (quoted (codes "export `") key (codes "` twice")) result
put_twice puts fails joins a b c key (Ok x) first second =
    subst (λ (t : List ℕ). puts a t c) (twice key) (joins a b c (quoted_text (codes "export") key) (codes " twice") first second)
put_twice puts fails joins a b c key (Err e) first second = second
