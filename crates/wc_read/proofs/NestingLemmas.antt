-- The stack of open blocks comes out empty exactly where blocks nest.
use Rattle.std.proofs.Common.{◌≡◌, List, [], ◌∷◌, ◌++◌, Bool, true, false, Option, Some, None, refl, sym, ◌∙◌, ap, append_assoc, inl, inr, ◌⊎◌}
use Rattle.std.proofs.lemmas.Bool.{false≢true}
use Rattle.wc_read.specs.Nesting.{IsRun, empty_run, plain_run, block_run, if_run, if_else_run, IsExpression}
use Rattle.wc_read.specs.Reading.Nesting.{steps, is_closed, is_nested}
use Rattle.wc_read.specs.declared.nesting.Token.{Token}
use Rattle.wc_read.specs.declared.nesting.Token.TheVariants.{Plain, Block, If, Else, End}
use Rattle.wc_read.proofs.OptionsLemmas.{some_same, some_none}

-- a run leaves the stack as it was
run_steps : {run : List Token} → IsRun run → (is_if : Bool) (blocks : List Bool) (rest : List Token) → steps (is_if ∷ blocks) (run ++ rest) ≡ steps (is_if ∷ blocks) rest
unfolding steps
run_steps empty_run e s rest = refl
run_steps (plain_run r) e s rest = run_steps r e s rest
run_steps (block_run {inner = inner} {run = run} i r) e s rest =
    ap (steps (false ∷ e ∷ s)) (append_assoc inner (End ∷ run) rest) ∙ run_steps i false (e ∷ s) (End ∷ (run ++ rest)) ∙ run_steps r e s rest
run_steps (if_run {inner = inner} {run = run} i r) e s rest =
    ap (steps (true ∷ e ∷ s)) (append_assoc inner (End ∷ run) rest) ∙ run_steps i true (e ∷ s) (End ∷ (run ++ rest)) ∙ run_steps r e s rest
run_steps (if_else_run {inner = inner} {other = other} {run = run} i o r) e s rest =
    ap (steps (true ∷ e ∷ s)) (append_assoc inner (Else ∷ (other ++ (End ∷ run))) rest)
    ∙ run_steps i true (e ∷ s) (Else ∷ ((other ++ (End ∷ run)) ++ rest))
    ∙ ap (steps (false ∷ e ∷ s)) (append_assoc other (End ∷ run) rest)
    ∙ run_steps o false (e ∷ s) (End ∷ (run ++ rest))
    ∙ run_steps r e s rest

pub expression_nests : (ts : List Token) → IsExpression ts → is_nested ts ≡ true
unfolding steps
expression_nests ts x = rw x.1 (ap is_closed (run_steps x.2 false [] (End ∷ [])))

-- what closes the open blocks, to the end
Closing : List Bool → List Token → Type 0
Closing [] ts = ts ≡ []
Closing (false ∷ blocks) ts = (run rest : List Token) × (ts ≡ run ++ (End ∷ rest)) × IsRun run × Closing blocks rest
Closing (true ∷ blocks) ts =
    ((run rest : List Token) × (ts ≡ run ++ (End ∷ rest)) × IsRun run × Closing blocks rest)
    ⊎ ((run other rest : List Token) × (ts ≡ run ++ (Else ∷ (other ++ (End ∷ rest)))) × IsRun run × IsRun other × Closing blocks rest)

-- something more before the inmost run
before_block : (f : List Token → List Token) → ((x y : List Token) → f (x ++ y) ≡ f x ++ y) → ((run : List Token) → IsRun run → IsRun (f run)) → (is_if : Bool) (blocks : List Bool) (ts : List Token) → Closing (is_if ∷ blocks) ts → Closing (is_if ∷ blocks) (f ts)
unfolding Closing
before_block f law wrap false blocks ts c = (f c.0, c.1, ap f c.2 ∙ law c.0 (End ∷ c.1), wrap c.0 c.3, c.4)
before_block f law wrap true blocks ts (inl c) = inl (f c.0, c.1, ap f c.2 ∙ law c.0 (End ∷ c.1), wrap c.0 c.3, c.4)
before_block f law wrap true blocks ts (inr c) = inr (f c.0, c.1, c.2, ap f c.3 ∙ law c.0 (Else ∷ (c.1 ++ (End ∷ c.2))), wrap c.0 c.4, c.5, c.6)

-- a block, an `if` and an `if` with an `else` at the front
blocked : Token → List Token → List Token → List Token
blocked t inner run = t ∷ (inner ++ (End ∷ run))

blocked_law : (t : Token) (inner x y : List Token) → blocked t inner (x ++ y) ≡ blocked t inner x ++ y
unfolding blocked
blocked_law t inner x y = ap (λ (r : List Token). t ∷ r) (sym (append_assoc inner (End ∷ x) y))

branched : List Token → List Token → List Token → List Token
branched inner other run = If ∷ (inner ++ (Else ∷ (other ++ (End ∷ run))))

branched_law : (inner other x y : List Token) → branched inner other (x ++ y) ≡ branched inner other x ++ y
unfolding branched
branched_law inner other x y =
    ap (λ (r : List Token). If ∷ r) (ap (λ (r : List Token). inner ++ (Else ∷ r)) (sym (append_assoc other (End ∷ x) y)) ∙ sym (append_assoc inner (Else ∷ (other ++ (End ∷ x))) y))

opened : (is_if : Bool) (blocks : List Bool) (ts : List Token) → Closing (false ∷ is_if ∷ blocks) ts → Closing (is_if ∷ blocks) (Block ∷ ts)
unfolding Closing blocked
opened e s ts c = rw c.2 (before_block (blocked Block c.0) (blocked_law Block c.0) (λ run r. block_run c.3 r) e s c.1 c.4)

split : (is_if : Bool) (blocks : List Bool) (ts : List Token) → Closing (true ∷ is_if ∷ blocks) ts → Closing (is_if ∷ blocks) (If ∷ ts)
unfolding Closing blocked branched
split e s ts (inl c) = rw c.2 (before_block (blocked If c.0) (blocked_law If c.0) (λ run r. if_run c.3 r) e s c.1 c.4)
split e s ts (inr c) = rw c.3 (before_block (branched c.0 c.1) (branched_law c.0 c.1) (λ run r. if_else_run c.4 c.5 r) e s c.2 c.6)

elsed : (blocks : List Bool) (ts : List Token) → Closing (false ∷ blocks) ts → Closing (true ∷ blocks) (Else ∷ ts)
unfolding Closing
elsed s ts c = inr ([], c.0, c.1, ap (λ (r : List Token). Else ∷ r) c.2, empty_run, c.3, c.4)

closed : (is_if : Bool) (blocks : List Bool) (ts : List Token) → Closing blocks ts → Closing (is_if ∷ blocks) (End ∷ ts)
unfolding Closing
closed false s ts c = ([], ts, refl, empty_run, c)
closed true s ts c = inl ([], ts, refl, empty_run, c)

closing_from : (ts : List Token) (blocks : List Bool) → steps blocks ts ≡ Some [] → Closing blocks ts
unfolding steps Closing
closing_from [] [] e = refl
closing_from [] (b ∷ s) e = absurd (cc (some_same (b ∷ s) [] e))
closing_from (t ∷ ts) [] e = absurd (some_none {A = List Bool} [] (sym e))
closing_from (Plain ∷ ts) (b ∷ s) e = before_block (λ (r : List Token). Plain ∷ r) (λ x y. refl) (λ run r. plain_run r) b s ts (closing_from ts (b ∷ s) e)
closing_from (Block ∷ ts) (b ∷ s) e = opened b s ts (closing_from ts (false ∷ b ∷ s) e)
closing_from (If ∷ ts) (b ∷ s) e = split b s ts (closing_from ts (true ∷ b ∷ s) e)
closing_from (Else ∷ ts) (true ∷ s) e = elsed s ts (closing_from ts (false ∷ s) e)
closing_from (Else ∷ ts) (false ∷ s) e = absurd (some_none {A = List Bool} [] (sym e))
closing_from (End ∷ ts) (b ∷ s) e = closed b s ts (closing_from ts s e)

closed_is : (o : Option (List Bool)) → is_closed o ≡ true → o ≡ Some []
closed_is None e = absurd (false≢true e)
closed_is (Some []) e = refl
closed_is (Some (b ∷ s)) e = absurd (false≢true e)

pub nested_is : (ts : List Token) → is_nested ts ≡ true → IsExpression ts
unfolding Closing
nested_is ts e =
    let c = closing_from ts (false ∷ []) (closed_is (steps (false ∷ []) ts) e) in
    (c.0, c.2 ∙ ap (λ (r : List Token). c.0 ++ (End ∷ r)) c.4, c.3)
