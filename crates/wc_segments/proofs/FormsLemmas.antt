-- More ways to put formats together: nothing at all, and what a table has for what was read.
use Rattle.std.proofs.Common.{◌≡◌, ℕ, List, [], ◌++◌, Option, Some, refl, sym, ◌∙◌, ap}
use Rattle.wc_read.specs.Formats.{Format}
use Rattle.wc_read.specs.Options.{◌>>=◌}
use Rattle.wc_read.specs.Reading.Reader.{Read}
use Rattle.wc_read.proofs.OptionsLemmas.{some_pair, bind_some}
use Rattle.wc_read.proofs.MeetsLemmas.{Meets, bind_is}

-- no bytes, for one value
abbrev pub IsNothing : {A : Type 0} → A → Format A
IsNothing x bytes y = (bytes ≡ []) × (y ≡ x)

pub nothing_meets : {A : Type 0} (x : A) → Meets (IsNothing x) (λ bytes. Some (x, bytes))
nothing_meets x = record {
  parses = λ bytes y rest e. let p = some_pair x y bytes rest e in ([], p.1, (refl, sym p.0));
  again = λ text y rest s. rw (s.0, s.1) refl;
}

-- a value that a table has for what was read
abbrev pub Looked : {A B : Type 0} → Format A → (A → Option B) → Format B
Looked {A} Spells value bytes y = (x : A) × Spells bytes x × (value x ≡ Some y)

abbrev with_rest : {B : Type 0} → List ℕ → B → Option (B × List ℕ)
with_rest rest y = Some (y, rest)

abbrev pub looked_at : {A B : Type 0} → (A → Option B) → A × List ℕ → Option (B × List ℕ)
looked_at value x = value x.0 >>= with_rest x.1

pub looked_meets : {A B : Type 0} (Spells : Format A) (read : Read A) (value : A → Option B) → Meets Spells read → Meets (Looked Spells value) (λ bytes. read bytes >>= looked_at value)
looked_meets Spells read value m = record {
  parses = λ bytes y rest e.
      let s = bind_is (read bytes) (looked_at value) (y, rest) e in
      let t = bind_is (value s.0.0) (with_rest s.0.1) (y, rest) s.2 in
      let p = some_pair t.0 y s.0.1 rest t.2 in
      let u = m.parses bytes s.0.0 s.0.1 s.1 in
      (u.0, u.1 ∙ ap (λ (r : List ℕ). u.0 ++ r) p.1, (s.0.0, u.2, t.1 ∙ ap Some p.0));
  again = λ text y rest s.
      bind_some _ _ (s.0, rest) (m.again text s.0 rest s.1) ∙ bind_some (value s.0) (with_rest rest) y s.2;
}
