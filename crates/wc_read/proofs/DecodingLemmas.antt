-- The body and the initialiser that bytes spell are those that the functions of the bytes give.
use Rattle.std.proofs.Common.{◌≡◌, ℕ, zero, suc, ◌^◌, ◌≤◌, List, [], ◌∷◌, length, Bool, true, false, Option, Some, None, refl, sym, ◌∙◌, ap, subst, arith, eqb-true}
use Rattle.std.specs.Prelude.{nat_lt, ◌==◌, if◌then◌else◌}
use Rattle.std.specs.Option.{option_map}
use Rattle.std.proofs.lemmas.Bool.{false≢true}
use Rattle.wc_read.specs.Formats.{Format, SpellsItems}
use Rattle.wc_read.specs.Fault.{SpellsNothing}
use Rattle.wc_read.specs.Options.{◌>>=◌}
use Rattle.wc_read.specs.Reading.Reader.{Read, vector_at, read_all}
use Rattle.wc_read.specs.Operators.{InstrValue, SpellsInstr}
use Rattle.wc_read.specs.Reading.Instructions.{instr_at}
use Rattle.wc_read.specs.Nesting.{tokens, token_of}
use Rattle.wc_read.specs.Reading.Nesting.{step, steps, is_closed}
use Rattle.wc_read.specs.Bodies.{BodyValue, local_count, SpellsBody}
use Rattle.wc_read.specs.Inits.{SpellsInit}
use Rattle.wc_read.specs.Reading.Inits.{init_at}
use Rattle.wc_read.specs.Reading.Bodies.{locals_at}
use Rattle.wc_read.specs.declared.bodies.Locals.{Locals}
use Rattle.wc_read.specs.BodyOperators.{to_end_at, closing, operators_in, body_of, body_after, body_in, init_in, IsSpelled}
use Rattle.wc_read.proofs.MeetsLemmas.{Meets, no_spelling, one_spelling, one_value, no_value, none_left, left_over}
use Rattle.wc_read.proofs.ToEndLemmas.{to_shorter}
use Rattle.wc_read.proofs.OperatorsLemmas.{instr_meets, instr_some}
use Rattle.wc_read.proofs.BodiesLemmas.{no_locals, too_many, no_operators, no_nesting, body_is, body_one}
use Rattle.wc_read.proofs.InitsLemmas.{init_meets}

-- items to the end

module _ {A : Type 0} (Spells : Format A) (read : Read A) (m : Meets Spells read) (some : (x : A) → Spells [] x → ⊥) where
  AreSpelled : List ℕ → Option (List A) → Type 0
  AreSpelled bytes o = IsSpelled (SpellsItems Spells) bytes o

  with_first : (b : ℕ) (bytes : List ℕ) (x : A) (after : List ℕ) → read (b ∷ bytes) ≡ Some (x, after) → (o : Option (List A)) → AreSpelled after o → AreSpelled (b ∷ bytes) (o >>= λ xs. Some (x ∷ xs))
  unfolding AreSpelled
  with_first b bytes x after e None none = λ all s. go all s
    where
      go : (all : List A) → SpellsItems Spells (b ∷ bytes) all → ⊥
      go [] s = absurd cc
      go (y ∷ ys) s =
          let t = m.parses (b ∷ bytes) x after e in
          let p = one_spelling Spells read m t.0 s.0 x y after s.1 (sym t.1 ∙ s.2) t.2 s.3 in
          none ys (subst (λ (z : List ℕ). SpellsItems Spells z ys) (sym p.1) s.4)
  with_first b bytes x after e (Some xs) s = let t = m.parses (b ∷ bytes) x after e in (t.0, after, t.1, t.2, s)

  none_first : (b : ℕ) (bytes : List ℕ) → read (b ∷ bytes) ≡ None → (all : List A) → SpellsItems Spells (b ∷ bytes) all → ⊥
  none_first b bytes e [] s = absurd cc
  none_first b bytes e (y ∷ ys) s = no_spelling Spells read m (b ∷ bytes) e s.0 s.1 y s.2 s.3

  one_step : (n : ℕ) (b : ℕ) (bytes : List ℕ) → length (b ∷ bytes) ≤ suc n → ((rest : List ℕ) → length rest ≤ n → AreSpelled rest (to_end_at read n rest))
      → (o : Option (A × List ℕ)) → read (b ∷ bytes) ≡ o → AreSpelled (b ∷ bytes) (o >>= λ x. to_end_at read n x.1 >>= λ xs. Some (x.0 ∷ xs))
  unfolding AreSpelled
  one_step n b bytes h ih None e = none_first b bytes e
  one_step n b bytes h ih (Some (x, after)) e =
      let shorter = to_shorter Spells read m some (b ∷ bytes) x after e in
      with_first b bytes x after e (to_end_at read n after) (ih after (omega arith))

  pub spelled_to_end : (n : ℕ) (bytes : List ℕ) → length bytes ≤ n → IsSpelled (SpellsItems Spells) bytes (to_end_at read n bytes)
  unfolding to_end_at AreSpelled
  spelled_to_end n [] h = refl
  spelled_to_end zero (b ∷ bytes) h = absurd (omega arith)
  spelled_to_end (suc n) (b ∷ bytes) h = one_step n b bytes h (spelled_to_end n) (read (b ∷ bytes)) refl

  -- more steps than bytes make no difference
  same_step : (n k : ℕ) (b : ℕ) (bytes : List ℕ) → length (b ∷ bytes) ≤ suc n → length (b ∷ bytes) ≤ suc k → ((rest : List ℕ) → length rest ≤ n → length rest ≤ k → to_end_at read n rest ≡ to_end_at read k rest)
      → (o : Option (A × List ℕ)) → read (b ∷ bytes) ≡ o
      → (o >>= λ x. to_end_at read n x.1 >>= λ xs. Some (x.0 ∷ xs)) ≡ (o >>= λ x. to_end_at read k x.1 >>= λ xs. Some (x.0 ∷ xs))
  same_step n k b bytes h l ih None e = refl
  same_step n k b bytes h l ih (Some (x, after)) e =
      let shorter = to_shorter Spells read m some (b ∷ bytes) x after e in
      ap (λ (o : Option (List A)). o >>= λ xs. Some (x ∷ xs)) (ih after (omega arith) (omega arith))

  pub enough_steps : (n k : ℕ) (bytes : List ℕ) → length bytes ≤ n → length bytes ≤ k → to_end_at read n bytes ≡ to_end_at read k bytes
  unfolding to_end_at
  enough_steps n k [] h l = refl
  enough_steps zero k (b ∷ bytes) h l = absurd (omega arith)
  enough_steps (suc n) zero (b ∷ bytes) h l = absurd (omega arith)
  enough_steps (suc n) (suc k) (b ∷ bytes) h l = same_step n k b bytes h l (enough_steps n k) (read (b ∷ bytes)) refl

  -- what is after the first
  pub to_end_first : (n : ℕ) (b : ℕ) (bytes : List ℕ) (x : A) (after : List ℕ) → length (b ∷ bytes) ≤ n → read (b ∷ bytes) ≡ Some (x, after)
      → to_end_at read n (b ∷ bytes) ≡ (to_end_at read (length after) after >>= λ xs. Some (x ∷ xs))
  unfolding to_end_at
  to_end_first zero b bytes x after h e = absurd (omega arith)
  to_end_first (suc n) b bytes x after h e =
      let shorter = to_shorter Spells read m some (b ∷ bytes) x after e in
      ap (λ (o : Option (A × List ℕ)). o >>= λ z. to_end_at read n z.1 >>= λ xs. Some (z.0 ∷ xs)) e
      ∙ ap (λ (o : Option (List A)). o >>= λ xs. Some (x ∷ xs)) (enough_steps n (length after) after (omega arith) (omega arith))

  pub to_end_none : (n : ℕ) (b : ℕ) (bytes : List ℕ) → read (b ∷ bytes) ≡ None → to_end_at read n (b ∷ bytes) ≡ None
  unfolding to_end_at
  to_end_none zero b bytes e = refl
  to_end_none (suc n) b bytes e = ap (λ (o : Option (A × List ℕ)). o >>= λ z. to_end_at read n z.1 >>= λ xs. Some (z.0 ∷ xs)) e

-- bodies

nested : (bytes : List ℕ) (ls : List Locals) (rest : List ℕ) → vector_at locals_at bytes ≡ Some (ls, rest) → (is : List InstrValue) → SpellsItems SpellsInstr rest is
    → nat_lt (local_count ls) (2 ^ 32) ≡ true → (b : Bool) → is_closed (steps (false ∷ []) (tokens is)) ≡ b → IsSpelled SpellsBody bytes (option_map (body_of ls) (if b then Some is else None))
nested bytes ls rest e is s bounded true h = body_is bytes ls rest e (sym bounded) is s (sym h)
nested bytes ls rest e is s bounded false h = no_nesting bytes ls rest e is s (sym h)

with_operators : (bytes : List ℕ) (ls : List Locals) (rest : List ℕ) → vector_at locals_at bytes ≡ Some (ls, rest) → nat_lt (local_count ls) (2 ^ 32) ≡ true
    → (o : Option (List InstrValue)) → IsSpelled (SpellsItems SpellsInstr) rest o → IsSpelled SpellsBody bytes (option_map (body_of ls) (o >>= closing (false ∷ [])))
with_operators bytes ls rest e bounded None none = no_operators bytes ls rest e none
with_operators bytes ls rest e bounded (Some is) s = nested bytes ls rest e is s bounded (is_closed (steps (false ∷ []) (tokens is))) refl

small_enough : (bytes : List ℕ) (ls : List Locals) (rest : List ℕ) → vector_at locals_at bytes ≡ Some (ls, rest)
    → (b : Bool) → nat_lt (local_count ls) (2 ^ 32) ≡ b → IsSpelled SpellsBody bytes (if b then option_map (body_of ls) (operators_in (false ∷ []) rest) else None)
unfolding operators_in
small_enough bytes ls rest e true h = with_operators bytes ls rest e h (to_end_at instr_at (length rest) rest) (spelled_to_end SpellsInstr instr_at instr_meets instr_some (length rest) rest (omega arith))
small_enough bytes ls rest e false h = too_many bytes ls rest e (sym h)

with_locals : (bytes : List ℕ) (o : Option (List Locals × List ℕ)) → vector_at locals_at bytes ≡ o → IsSpelled SpellsBody bytes (o >>= λ locals. body_after locals.0 locals.1)
with_locals bytes None e = no_locals bytes e
with_locals bytes (Some (ls, rest)) e = small_enough bytes ls rest e (nat_lt (local_count ls) (2 ^ 32)) refl

pub body_spelled : (bytes : List ℕ) → IsSpelled SpellsBody bytes (body_in bytes)
unfolding body_in
body_spelled bytes = with_locals bytes (vector_at locals_at bytes) refl

-- what bytes spell is what is found, where they spell one value

module _ {A : Type 0} (Spells : Format A) (one : (bytes : List ℕ) (v w : A) → Spells bytes v → Spells bytes w → v ≡ w) where
  pub found_is : (bytes : List ℕ) (v : A) → Spells bytes v → (o : Option A) → IsSpelled Spells bytes o → o ≡ Some v
  found_is bytes v s None none = absurd (none v s)
  found_is bytes v s (Some w) t = ap Some (one bytes w v t s)

  pub missing_is : (bytes : List ℕ) → SpellsNothing Spells bytes → (o : Option A) → IsSpelled Spells bytes o → o ≡ None
  missing_is bytes none None t = refl
  missing_is bytes none (Some w) t = absurd (none w t)

pub body_found : (bytes : List ℕ) (v : BodyValue) → SpellsBody bytes v → body_in bytes ≡ Some v
body_found bytes v s = found_is SpellsBody body_one bytes v s (body_in bytes) (body_spelled bytes)

pub body_missing : (bytes : List ℕ) → SpellsNothing SpellsBody bytes → body_in bytes ≡ None
body_missing bytes none = missing_is SpellsBody body_one bytes none (body_in bytes) (body_spelled bytes)

-- initialisers

with_rest : (bytes : List ℕ) (is : List InstrValue) (rest : List ℕ) → init_at bytes ≡ Some (is, rest) → (t : Bool) → t ≡ (length rest == 0) → IsSpelled SpellsInit bytes (if t then Some is else None)
with_rest bytes is rest e true t = none_left SpellsInit init_at init_meets bytes is rest e t
with_rest bytes is rest e false t = left_over SpellsInit init_at init_meets bytes is rest e t

with_init : (bytes : List ℕ) (o : Option (List InstrValue × List ℕ)) → init_at bytes ≡ o → IsSpelled SpellsInit bytes (o >>= λ x. if length x.1 == 0 then Some x.0 else None)
with_init bytes None e = no_value SpellsInit init_at init_meets bytes e
with_init bytes (Some (is, rest)) e = with_rest bytes is rest e (length rest == 0) refl

pub init_spelled : (bytes : List ℕ) → IsSpelled SpellsInit bytes (init_in bytes)
unfolding init_in read_all
init_spelled bytes = with_init bytes (init_at bytes) refl

init_one : (bytes : List ℕ) (v w : List InstrValue) → SpellsInit bytes v → SpellsInit bytes w → v ≡ w
init_one bytes v w s t = one_value SpellsInit init_at init_meets bytes v w s t

pub init_found : (bytes : List ℕ) (is : List InstrValue) → SpellsInit bytes is → init_in bytes ≡ Some is
init_found bytes is s = found_is SpellsInit init_one bytes is s (init_in bytes) (init_spelled bytes)

pub init_missing : (bytes : List ℕ) → SpellsNothing SpellsInit bytes → init_in bytes ≡ None
init_missing bytes none = missing_is SpellsInit init_one bytes none (init_in bytes) (init_spelled bytes)

-- a body's operators one after another

pub left_end : (blocks : List Bool) (rest : List ℕ) → true ≡ (length rest == 0) → true ≡ (length blocks == 0) → operators_in blocks rest ≡ Some []
unfolding operators_in to_end_at steps
left_end [] [] t e = refl
left_end (b ∷ blocks) rest t e = let h : length (b ∷ blocks) ≡ 0 = eqb-true (length (b ∷ blocks)) 0 (sym e) in absurd (omega arith)
left_end [] (b ∷ bytes) t e = let h : length (b ∷ bytes) ≡ 0 = eqb-true (length (b ∷ bytes)) 0 (sym t) in absurd (omega arith)

pub left_open : (blocks : List Bool) (rest : List ℕ) → true ≡ (length rest == 0) → false ≡ (length blocks == 0) → operators_in blocks rest ≡ None
unfolding operators_in to_end_at steps
left_open [] [] t e = absurd (false≢true e)
left_open (b ∷ blocks) [] t e = refl
left_open blocks (b ∷ bytes) t e = let h : length (b ∷ bytes) ≡ 0 = eqb-true (length (b ∷ bytes)) 0 (sym t) in absurd (omega arith)

closed_cons : (i : InstrValue) (is : List InstrValue) (b : Bool) → (if b then Some (i ∷ is) else None) ≡ option_map (λ is. i ∷ is) (if b then Some is else None)
closed_cons i is true = refl
closed_cons i is false = refl

closing_more : (blocks others : List Bool) (i : InstrValue) → step blocks (token_of i.opcode) ≡ Some others → (o : Option (List InstrValue))
    → ((o >>= λ is. Some (i ∷ is)) >>= closing blocks) ≡ option_map (λ is. i ∷ is) (o >>= closing others)
unfolding steps
closing_more blocks others i e None = refl
closing_more blocks others i e (Some is) =
    ap (λ (o : Option (List Bool)). if is_closed (o >>= λ z. steps z (tokens is)) then Some (i ∷ is) else None) e
    ∙ closed_cons i is (is_closed (steps others (tokens is)))

closing_not : (blocks : List Bool) (i : InstrValue) → step blocks (token_of i.opcode) ≡ None → (o : Option (List InstrValue))
    → ((o >>= λ is. Some (i ∷ is)) >>= closing blocks) ≡ None
unfolding steps
closing_not blocks i e None = refl
closing_not blocks i e (Some is) = ap (λ (o : Option (List Bool)). if is_closed (o >>= λ z. steps z (tokens is)) then Some (i ∷ is) else None) e

first_left : (blocks : List Bool) (b : ℕ) (bytes : List ℕ) (i : InstrValue) (after : List ℕ) → instr_at (b ∷ bytes) ≡ Some (i, after)
    → operators_in blocks (b ∷ bytes) ≡ ((to_end_at instr_at (length after) after >>= λ is. Some (i ∷ is)) >>= closing blocks)
unfolding operators_in
first_left blocks b bytes i after e =
    ap (λ (o : Option (List InstrValue)). o >>= closing blocks) (to_end_first SpellsInstr instr_at instr_meets instr_some (length (b ∷ bytes)) b bytes i after (omega arith) e)

-- an operator is read, and the blocks go past it
pub left_more : (blocks others : List Bool) (rest : List ℕ) (i : InstrValue) (after : List ℕ) → false ≡ (length rest == 0) → instr_at rest ≡ Some (i, after) → step blocks (token_of i.opcode) ≡ Some others
    → operators_in blocks rest ≡ option_map (λ is. i ∷ is) (operators_in others after)
unfolding operators_in
left_more blocks others [] i after t e s = absurd (false≢true t)
left_more blocks others (b ∷ bytes) i after t e s = first_left blocks b bytes i after e ∙ closing_more blocks others i s (to_end_at instr_at (length after) after)

pub left_not : (blocks : List Bool) (rest : List ℕ) (i : InstrValue) (after : List ℕ) → false ≡ (length rest == 0) → instr_at rest ≡ Some (i, after) → step blocks (token_of i.opcode) ≡ None
    → operators_in blocks rest ≡ None
left_not blocks [] i after t e s = absurd (false≢true t)
left_not blocks (b ∷ bytes) i after t e s = first_left blocks b bytes i after e ∙ closing_not blocks i s (to_end_at instr_at (length after) after)

pub left_none : (blocks : List Bool) (rest : List ℕ) → false ≡ (length rest == 0) → instr_at rest ≡ None → operators_in blocks rest ≡ None
unfolding operators_in
left_none blocks [] t e = absurd (false≢true t)
left_none blocks (b ∷ bytes) t e = ap (λ (o : Option (List InstrValue)). o >>= closing blocks) (to_end_none SpellsInstr instr_at instr_meets instr_some (length (b ∷ bytes)) b bytes e)

-- the body of locals and operators

pub body_after_locals : (bytes : List ℕ) (ls : List Locals) (rest : List ℕ) → vector_at locals_at bytes ≡ Some (ls, rest) → nat_lt (local_count ls) (2 ^ 32) ≡ true
    → option_map (λ (b : BodyValue). b.operators) (body_in bytes) ≡ operators_in (false ∷ []) rest
unfolding body_in
body_after_locals bytes ls rest e bounded =
    ap (λ (o : Option (List Locals × List ℕ)). option_map (λ (b : BodyValue). b.operators) (o >>= λ l. body_after l.0 l.1)) e
    ∙ (ap (λ (f : Bool). option_map (λ (b : BodyValue). b.operators) (if f then option_map (body_of ls) (operators_in (false ∷ []) rest) else None)) bounded ∙ same (operators_in (false ∷ []) rest))
  where
    same : (o : Option (List InstrValue)) → option_map (λ (b : BodyValue). b.operators) (option_map (body_of ls) o) ≡ o
    same None = refl
    same (Some is) = refl

pub body_with_locals : (bytes : List ℕ) (ls : List Locals) (rest : List ℕ) → vector_at locals_at bytes ≡ Some (ls, rest) → nat_lt (local_count ls) (2 ^ 32) ≡ true
    → body_in bytes ≡ option_map (body_of ls) (operators_in (false ∷ []) rest)
unfolding body_in
body_with_locals bytes ls rest e bounded =
    ap (λ (o : Option (List Locals × List ℕ)). o >>= λ l. body_after l.0 l.1) e ∙ ap (λ (f : Bool). if f then option_map (body_of ls) (operators_in (false ∷ []) rest) else None) bounded

pub body_no_locals : (bytes : List ℕ) → vector_at locals_at bytes ≡ None → body_in bytes ≡ None
body_no_locals bytes e = body_missing bytes (no_locals bytes e)

pub body_too_many : (bytes : List ℕ) (ls : List Locals) (rest : List ℕ) → vector_at locals_at bytes ≡ Some (ls, rest) → false ≡ nat_lt (local_count ls) (2 ^ 32) → body_in bytes ≡ None
body_too_many bytes ls rest e many = body_missing bytes (too_many bytes ls rest e many)
