-- Initialisers are read as they are spelled.
use Rattle.std.proofs.Common.{◌≡◌, ℕ, ◌-◌, ◌<◌, ◌≤◌, List, [], ◌∷◌, ◌++◌, length, take, Bool, true, false, Option, Some, None, refl, sym, ◌∙◌, ap, subst, arith}
use Rattle.std.proofs.Common.{inl, inr, eqb-true}
use Rattle.std.specs.Prelude.{◌==◌, ◌||◌, is_some}
use Rattle.std.proofs.lemmas.Bool.{false≢true, or_right}
use Rattle.std.proofs.Math.ListN.{length-append}
use Rattle.std.proofs.Math.Seq.{take-append_seam}
use Rattle.wc_read.specs.Formats.{Format, SpellsItems}
use Rattle.wc_read.specs.Options.{◌>>=◌}
use Rattle.wc_read.specs.Operators.{InstrValue, SpellsInstr, SpellsImmediates, byte_form, form_of}
use Rattle.wc_read.specs.Reading.Instructions.{instr_at, instr_of}
use Rattle.wc_read.specs.Inits.{constant_byte, is_constant, end_value, AreConstant, SpellsInit}
use Rattle.wc_read.specs.Reading.Inits.{is_end, is_init_operator, ends, init_instr_at, init_end_at, init_at, bytes_before, init_bytes_at}
use Rattle.wc_read.specs.declared.operators.Opcode.{Opcode}
use Rattle.wc_read.specs.declared.operators.Opcode.TheVariants.{Byte, Misc, Vector, Atomic}
use Rattle.wc_read.specs.declared.operators.Form.{Form}
use Rattle.wc_read.specs.declared.operators.Form.TheVariants.{None as form_none}
use Rattle.wc_read.proofs.OptionsLemmas.{some_same, some_none, some_pair, bind_none, bind_some}
use Rattle.wc_read.proofs.MeetsLemmas.{Meets, same_meets, where_meets, bind_is, Where}
use Rattle.wc_read.proofs.OperatorsLemmas.{instr_meets, instr_some}
use Rattle.wc_read.proofs.UntilLemmas.{StopsAt, SpellsUntil, IsUntilPart, until_meets, until_start, until_end, until_more, until_fails}
use Rattle.wc_read.proofs.ToEndLemmas.{to_shorter}

-- Ends.

-- the code of an end
is_end_code : (o : Opcode) → is_end o ≡ true → o ≡ Byte 0x0b
is_end_code (Byte b) e = ap Byte (eqb-true b 0x0b e)
is_end_code (Misc n) e = absurd (false≢true e)
is_end_code (Vector n) e = absurd (false≢true e)
is_end_code (Atomic n) e = absurd (false≢true e)

end_form : form_of (Byte 0x0b) ≡ Some form_none
unfolding byte_form
end_form = refl

-- no immediates are after it
pub end_is : (bytes : List ℕ) (i : InstrValue) → SpellsInstr bytes i → is_end i.opcode ≡ true → i ≡ end_value
end_is bytes i s e =
    let code = is_end_code i.opcode e in
    let form : form_none ≡ s.form = some_same form_none s.form (sym end_form ∙ ap form_of (sym code) ∙ s.in_table) in
    let has = subst (λ (f : Form). SpellsImmediates f s.others i.immediates) (sym form) s.has_immediates in
    ap (λ (o : Opcode). instr_of o i.immediates) code ∙ ap (instr_of (Byte 0x0b)) has.1

-- an end is no constant operator
no_end : constant_byte 0x0b ≡ None
unfolding constant_byte
no_end = refl

pub constant_goes_on : (o : Opcode) → is_constant o ≡ true → is_end o ≡ false
constant_goes_on (Byte b) c = by (b == 0x0b) refl
  where
    by : (test : Bool) → (b == 0x0b) ≡ test → (b == 0x0b) ≡ false
    by true t = absurd (false≢true (sym (ap is_some no_end) ∙ ap (λ (n : ℕ). is_some (constant_byte n)) (sym (eqb-true b 0x0b t)) ∙ c))
    by false t = t
constant_goes_on (Misc n) c = refl
constant_goes_on (Vector n) c = refl
constant_goes_on (Atomic n) c = refl

second_holds : (a b : Bool) → (a || b) ≡ true → a ≡ false → b ≡ true
second_holds true b e f = absurd (false≢true (sym f))
second_holds false b e f = e

-- Operators to the end.

abbrev pub SpellsInitInstr : Format InstrValue
SpellsInitInstr = Where SpellsInstr is_init_operator

pub init_instr_meets : Meets SpellsInitInstr init_instr_at
unfolding init_instr_at
init_instr_meets = where_meets SpellsInstr instr_at is_init_operator instr_meets

pub init_instr_some : (i : InstrValue) → SpellsInitInstr [] i → ⊥
init_instr_some i s = instr_some i s.0

init_to : (xs : List InstrValue) (bytes : List ℕ) → SpellsItems SpellsInitInstr bytes xs → StopsAt ends xs → SpellsInit bytes xs
init_to [] bytes s stop = absurd stop
init_to (x ∷ xs) bytes s stop = elim stop [
  | inl p ↦
      let is = end_is s.0 x s.3.0 p.0 in
      let none : s.1 ≡ [] = subst (λ (ys : List InstrValue). SpellsItems SpellsInitInstr s.1 ys) p.1 s.4 in
      let items : SpellsItems SpellsInstr s.1 xs = subst (λ (ys : List InstrValue). SpellsItems SpellsInstr s.1 ys) (sym p.1) none in
      ((s.0, s.1, s.2, s.3.0, items), ([], ap (λ (y : InstrValue). y ∷ xs) is ∙ ap (λ (ys : List InstrValue). end_value ∷ ys) p.1, tt))
  | inr p ↦
      let r = init_to xs s.1 s.4 p.1 in
      let i = r.1 in (
        (s.0, s.1, s.2, s.3.0, r.0),
        (
          x ∷ i.0,
          ap (λ (ys : List InstrValue). x ∷ ys) i.1,
          (second_holds (is_end x.opcode) (is_constant x.opcode) s.3.1 p.0, i.2),
        ),
      )
]

init_from : (front : List InstrValue) (bytes : List ℕ) → AreConstant front → SpellsItems SpellsInstr bytes (front ++ (end_value ∷ []))
    → SpellsUntil SpellsInitInstr ends bytes (front ++ (end_value ∷ []))
init_from [] bytes c s = ((s.0, s.1, s.2, (s.3, refl), s.4), inl (refl, refl))
init_from (x ∷ front) bytes c s =
    let r = init_from front s.1 c.1 s.4 in
    ((s.0, s.1, s.2, (s.3, or_right (is_end x.opcode) (is_constant x.opcode) c.0), r.0), inr (constant_goes_on x.opcode c.0, r.1))

pub init_meets : Meets SpellsInit init_at
unfolding init_at
init_meets =
    same_meets (SpellsUntil SpellsInitInstr ends) SpellsInit init_at (until_meets SpellsInitInstr init_instr_at init_instr_meets init_instr_some ends)
    (λ bytes xs s. init_to xs bytes s.0 s.1)
    (λ bytes xs s. let i = s.1 in subst (λ (ys : List InstrValue). SpellsUntil SpellsInitInstr ends bytes ys) (sym i.1)
    (init_from i.0 bytes i.2 (subst (λ (ys : List InstrValue). SpellsItems SpellsInstr bytes ys) i.1 s.0)))

pub init_start : (bytes : List ℕ) → IsUntilPart ends init_instr_at [] bytes (init_at bytes)
unfolding init_at
init_start bytes = until_start ends init_instr_at bytes

-- Initialisers as their bytes.

abbrev pub SpellsInitBytes : Format (List ℕ)
SpellsInitBytes bytes init = (bytes ≡ init) × ((is : List InstrValue) × SpellsInit init is)

pub front_is : (text rest : List ℕ) → bytes_before (text ++ rest) rest ≡ text
front_is text rest =
    let size : length (text ++ rest) - length rest ≡ length text = omega (arith, length-append text rest) in
    ap (λ (n : ℕ). take n (text ++ rest)) size ∙ take-append_seam text rest

abbrev with_front : List ℕ → List InstrValue × List ℕ → Option (List ℕ × List ℕ)
with_front bytes is = Some (bytes_before bytes is.1, is.1)

pub init_bytes_meet : Meets SpellsInitBytes init_bytes_at
unfolding init_bytes_at
init_bytes_meet = record {
  parses = λ bytes x rest e.
      let s = bind_is (init_at bytes) (with_front bytes) (x, rest) e in
      let p = some_pair (bytes_before bytes s.0.1) x s.0.1 rest s.2 in
      let t = init_meets.parses bytes s.0.0 s.0.1 s.1 in
      let front : t.0 ≡ x = sym (front_is t.0 s.0.1) ∙ ap (λ (b : List ℕ). bytes_before b s.0.1) (sym t.1) ∙ p.0 in
      (t.0, t.1 ∙ ap (λ (r : List ℕ). t.0 ++ r) p.1, (front, (s.0.0, subst (λ (b : List ℕ). SpellsInit b s.0.0) front t.2)));
  again = λ text x rest s.
      let i = s.1 in
      bind_some (init_at (text ++ rest)) (with_front (text ++ rest)) (i.0, rest)
      (init_meets.again text i.0 rest (subst (λ (b : List ℕ). SpellsInit b i.0) (sym s.0) i.1))
      ∙ ap (λ (b : List ℕ). Some (b, rest)) (front_is text rest ∙ s.0);
}

-- the loop that goes past operators to their end
pub record IsPassed (rest bytes : List ℕ) : Type 0 where
  pub front : List InstrValue
  pub part : IsUntilPart ends init_instr_at front rest (init_at bytes)
  pub left : length rest ≤ length bytes

pub passed_start : (bytes : List ℕ) → IsPassed bytes bytes
passed_start bytes = record { front = []; part = init_start bytes; left = omega arith }

record HasInstr (rest : List ℕ) (last : Bool) (after : List ℕ) : Type 0 where
  instr : InstrValue
  reads : init_instr_at rest ≡ Some (instr, after)
  ends_so : ends instr ≡ last

abbrev whether_ends : InstrValue × List ℕ → Option (Bool × List ℕ)
whether_ends i = Some (ends i.0, i.1)

has_instr : (rest : List ℕ) (last : Bool) (after : List ℕ) → init_end_at rest ≡ Some (last, after) → HasInstr rest last after
unfolding init_end_at
has_instr rest last after e =
    let s = bind_is (init_instr_at rest) whether_ends (last, after) e in
    let p = some_pair (ends s.0.0) last s.0.1 after s.2 in
    record { instr = s.0.0; reads = s.1 ∙ ap (λ (r : List ℕ). Some (s.0.0, r)) p.1; ends_so = p.0 }

pub passed_shorter : (rest : List ℕ) (last : Bool) (after : List ℕ) → init_end_at rest ≡ Some (last, after) → length after < length rest
passed_shorter rest last after e = let h = has_instr rest last after e in
    to_shorter SpellsInitInstr init_instr_at init_instr_meets init_instr_some rest h.instr after h.reads

pub passed_more : (rest bytes after : List ℕ) → IsPassed rest bytes → init_end_at rest ≡ Some (false, after) → IsPassed after bytes
passed_more rest bytes after p e =
    let h = has_instr rest false after e in
    record {
      front = p.front ++ h.instr ∷ [];
      part = until_more SpellsInitInstr init_instr_at init_instr_meets init_instr_some ends p.front rest (init_at bytes) h.instr after p.part h.reads h.ends_so;
      left = omega (arith, p.left, passed_shorter rest false after e);
    }

pub passed_end : (rest bytes after : List ℕ) → IsPassed rest bytes → init_end_at rest ≡ Some (true, after)
    → init_bytes_at bytes ≡ Some (bytes_before bytes after, after)
unfolding init_bytes_at
passed_end rest bytes after p e =
    let h = has_instr rest true after e in
    bind_some (init_at bytes) (with_front bytes) _ (until_end SpellsInitInstr init_instr_at init_instr_meets init_instr_some ends p.front rest
    (init_at bytes) h.instr after p.part h.reads h.ends_so)

pub passed_fails : (rest bytes : List ℕ) → IsPassed rest bytes → init_end_at rest ≡ None → init_bytes_at bytes ≡ None
unfolding init_bytes_at init_end_at
passed_fails rest bytes p none =
    bind_none (init_at bytes) (with_front bytes) (until_fails SpellsInitInstr init_instr_at init_instr_meets init_instr_some ends p.front rest
    (init_at bytes) p.part (nothing (init_instr_at rest) none))
  where
    nothing : (o : Option (InstrValue × List ℕ)) → (o >>= whether_ends) ≡ None → o ≡ None
    nothing None e = refl
    nothing (Some i) e = some_none (ends i.0, i.1) e
