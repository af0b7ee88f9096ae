-- Bodies are read as they are spelled.
use Rattle.std.proofs.Common.{◌≡◌, ℕ, ◌^◌, List, true, false, Some, None, refl, sym, ◌∙◌, ap, subst, ltb-true}
use Rattle.std.specs.Prelude.{nat_lt}
use Rattle.std.proofs.lemmas.Bool.{false≢true, lt-ltb}
use Rattle.wc_read.specs.Formats.{Format, SpellsNumber, SpellsItems, SpellsVector, Joined}
use Rattle.wc_read.specs.Types.{SpellsValType}
use Rattle.wc_read.specs.Reading.Reader.{number_at, vector_at}
use Rattle.wc_read.specs.Reading.Types.{val_type_at}
use Rattle.wc_read.specs.Options.{◌>>=◌}
use Rattle.wc_read.specs.Operators.{InstrValue, SpellsInstr}
use Rattle.wc_read.specs.Reading.Instructions.{instr_at}
use Rattle.wc_read.specs.Nesting.{tokens}
use Rattle.wc_read.specs.Reading.Nesting.{is_nested}
use Rattle.wc_read.specs.Bodies.{BodyValue, SpellsLocals, local_count, SpellsBody}
use Rattle.wc_read.specs.Reading.Bodies.{locals_of, locals_at}
use Rattle.wc_read.specs.declared.bodies.Locals.{Locals}
use Rattle.wc_read.proofs.MeetsLemmas.{Meets, same_meets, bind_meets, made_meets, made_at, number_meets, vector_meets, one_spelling, no_spelling, Made}
use Rattle.wc_read.proofs.ToEndLemmas.{items_unique}
use Rattle.wc_read.proofs.TypesLemmas.{val_type_meets}
use Rattle.wc_read.proofs.OperatorsLemmas.{instr_meets, instr_some}
use Rattle.wc_read.proofs.NestingLemmas.{expression_nests, nested_is}

pub locals_meet : Meets SpellsLocals locals_at
unfolding locals_at
locals_meet =
    same_meets (Joined (SpellsNumber 32) (λ n. Made SpellsValType (locals_of n))) SpellsLocals locals_at
    (bind_meets (SpellsNumber 32) (number_at 32) (λ n. Made SpellsValType (locals_of n)) (λ n bytes. val_type_at bytes >>= made_at (locals_of n)) (number_meets 32)
    (λ n. made_meets SpellsValType val_type_at (locals_of n) val_type_meets))
    (λ bytes l j. rw j.5.2 (j.1, j.2, j.3, j.4, j.5.1))
    (λ bytes l s. (l.count, s.0, s.1, s.2, s.3, (l.ty, s.4, refl)))

abbrev pub SpellsRuns : Format (List Locals)
SpellsRuns = SpellsVector SpellsLocals

pub runs_meet : Meets SpellsRuns (vector_at locals_at)
runs_meet = vector_meets SpellsLocals locals_at locals_meet

module _ (bytes : List ℕ) where
  -- the locals of all values are those that were read, and operators are after them
  pub body_parts : (ls : List Locals) (rest : List ℕ) → vector_at locals_at bytes ≡ Some (ls, rest) → (v : BodyValue) → SpellsBody bytes v → (ls ≡ v.locals) × SpellsItems SpellsInstr rest v.operators
  body_parts ls rest e v s =
      let t = runs_meet.parses bytes ls rest e in
      let p = one_spelling SpellsRuns (vector_at locals_at) runs_meet t.0 s.runs ls v.locals rest s.code (sym t.1 ∙ s.cut) t.2 s.has_locals in
      (p.0, subst (λ (b : List ℕ). SpellsItems SpellsInstr b v.operators) (sym p.1) s.has_operators)

  pub no_locals : vector_at locals_at bytes ≡ None → (v : BodyValue) → SpellsBody bytes v → ⊥
  no_locals none v s = no_spelling SpellsRuns (vector_at locals_at) runs_meet bytes none s.runs s.code v.locals s.cut s.has_locals

  pub too_many : (ls : List Locals) (rest : List ℕ) → vector_at locals_at bytes ≡ Some (ls, rest) → false ≡ nat_lt (local_count ls) (2 ^ 32) → (v : BodyValue) → SpellsBody bytes v → ⊥
  too_many ls rest e many v s =
      let p = body_parts ls rest e v s in
      absurd (false≢true (many ∙ ap (λ (l : List Locals). nat_lt (local_count l) (2 ^ 32)) p.0 ∙ lt-ltb _ _ s.locals_fit_u32))

  pub no_operators : (ls : List Locals) (rest : List ℕ) → vector_at locals_at bytes ≡ Some (ls, rest) → ((is : List InstrValue) → SpellsItems SpellsInstr rest is → ⊥) → (v : BodyValue) → SpellsBody bytes v → ⊥
  no_operators ls rest e none v s = none v.operators (body_parts ls rest e v s).1

  pub no_nesting : (ls : List Locals) (rest : List ℕ) → vector_at locals_at bytes ≡ Some (ls, rest) → (is : List InstrValue) → SpellsItems SpellsInstr rest is → false ≡ is_nested (tokens is) → (v : BodyValue) → SpellsBody bytes v → ⊥
  no_nesting ls rest e is t not v s =
      let p = body_parts ls rest e v s in
      let same : is ≡ v.operators = items_unique SpellsInstr instr_at instr_meets instr_some is v.operators rest t p.1 in
      absurd (false≢true (not ∙ ap (λ (os : List InstrValue). is_nested (tokens os)) same ∙ expression_nests (tokens v.operators) s.nests))

  pub body_is : (ls : List Locals) (rest : List ℕ) → vector_at locals_at bytes ≡ Some (ls, rest) → true ≡ nat_lt (local_count ls) (2 ^ 32) → (is : List InstrValue) → SpellsItems SpellsInstr rest is → true ≡ is_nested (tokens is) → SpellsBody bytes (record { locals = ls; operators = is })
  body_is ls rest e bounded is t nests =
      let u = runs_meet.parses bytes ls rest e in
      record { runs = u.0; code = rest; cut = u.1; has_locals = u.2; locals_fit_u32 = ltb-true (local_count ls) (2 ^ 32) (sym bounded); has_operators = t; nests = nested_is (tokens is) (sym nests) }

made_body : List Locals → List InstrValue → BodyValue
made_body ls is = record { locals = ls; operators = is }

pub body_one : (bytes : List ℕ) (v w : BodyValue) → SpellsBody bytes v → SpellsBody bytes w → v ≡ w
unfolding made_body
body_one bytes v w s t =
    let p = one_spelling SpellsRuns (vector_at locals_at) runs_meet s.runs t.runs v.locals w.locals s.code t.code (sym s.cut ∙ t.cut) s.has_locals t.has_locals in
    let same : v.operators ≡ w.operators = items_unique SpellsInstr instr_at instr_meets instr_some v.operators w.operators s.code s.has_operators (subst (λ (b : List ℕ). SpellsItems SpellsInstr b w.operators) (sym p.1) t.has_operators) in
    ap (λ (l : List Locals). made_body l v.operators) p.0 ∙ ap (λ (o : List InstrValue). made_body w.locals o) same
