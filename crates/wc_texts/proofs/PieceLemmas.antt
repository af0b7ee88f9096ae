-- What is put after a piece.
use Rattle.std.proofs.Common.{ℕ, List, ◌++◌, Result, Ok, Err}
use Rattle.wc_texts.specs.Pieces.{IsPut}

-- a text is put after one that was put, where two texts in a row are one
pub put_after : {P T E : Type 0} (puts : P → List ℕ → P → Type 0) (fails : P → Type 0)
    → ((a b c : P) (s t : List ℕ) → puts a s b → puts b t c → puts a (s ++ t) c)
    → (a b c : P) (s t : List ℕ) (result : Result T E) → puts a s b → IsPut puts fails b c t result → IsPut puts fails a c (s ++ t) result
put_after puts fails joins a b c s t (Ok x) first second = joins a b c s t first second
put_after puts fails joins a b c s t (Err e) first second = second
