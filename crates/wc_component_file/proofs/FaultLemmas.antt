-- A text in three pieces.
use Rattle.std.proofs.Common.{ℕ, List, ◌++◌, Result, Ok, Err}
use Rattle.wc_texts.specs.Pieces.{IsPut}

-- three pieces that are put one after another are one text
pub put_three : {P T E : Type 0} (puts : P → List ℕ → P → Type 0) (fails : P → Type 0) → ((a b c : P) (s t : List ℕ) → puts a s b → puts b t c → puts a (s ++ t) c)
    → (a b c d : P) (s t u : List ℕ) (result : Result T E) → puts a s b → puts b t c → IsPut puts fails c d u result → IsPut puts fails a d (s ++ (t ++ u)) result
put_three puts fails joins a b c d s t u (Ok x) first second third = joins a b d s (t ++ u) first (joins b c d t u second third)
put_three puts fails joins a b c d s t u (Err e) first second third = third
