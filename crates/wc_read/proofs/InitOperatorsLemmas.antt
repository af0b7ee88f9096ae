-- The operators of an initialiser, one after another.
use Rattle.std.proofs.Common.{◌≡◌, ℕ, ◌≤◌, List, [], ◌∷◌, length, Bool, true, false, Option, Some, None, refl, sym, ◌∙◌, ap, arith}
use Rattle.std.specs.Prelude.{◌==◌, if◌then◌else◌, is_some}
use Rattle.std.specs.Option.{option_map}
use Rattle.wc_read.specs.Options.{◌>>=◌}
use Rattle.wc_read.specs.Operators.{byte_form, ImmediatesValue, WithNone, WithIndex, index_of, InstrValue}
use Rattle.wc_read.specs.Inits.{end_value}
use Rattle.wc_read.specs.Reading.Instructions.{immediates_at, instr_at, instr_of}
use Rattle.wc_read.specs.BodyOperators.{init_in}
use Rattle.wc_read.specs.InitOperators.{NamesSpace, nothing_in, init_left}
use Rattle.wc_read.specs.Reading.Reader.{number_at, read_all}
use Rattle.wc_read.specs.Reading.Inits.{ends, is_init_operator, init_instr_at, init_at, bytes_before, init_bytes_at}
use Rattle.wc_read.specs.declared.init_operators.InitOperators.{InitOperators}
use Rattle.wc_read.specs.declared.operators.Opcode.TheVariants.{Byte}
use Rattle.wc_read.specs.declared.operators.Space.{Space}
use Rattle.wc_read.specs.declared.operators.IndexKind.TheVariants.{In}
use Rattle.wc_read.specs.declared.operators.Form.{Form}
use Rattle.wc_read.specs.declared.operators.Form.TheVariants.{None as form_none, Index as form_index}
use Rattle.wc_read.proofs.FrequentLemmas.{frequent_read}
use Rattle.wc_read.proofs.ShortestTextLemmas.{number_left}
use Rattle.wc_read.proofs.OptionsLemmas.{bind_none, bind_some, some_none, some_pair}
use Rattle.wc_read.proofs.MeetsLemmas.{bind_is}
use Rattle.wc_read.proofs.CountedLemmas.{after_front}
use Rattle.wc_read.proofs.UntilLemmas.{until_end, until_more, until_fails, same_steps}
use Rattle.wc_read.proofs.InitsLemmas.{SpellsInitInstr, constant_goes_on, init_instr_meets, init_instr_some, init_start}

-- operators after which no bytes are left
abbrev whole : List InstrValue × List ℕ → Option (List InstrValue)
whole x = if length x.1 == 0 then Some x.0 else None

all_of : (bytes : List ℕ) → init_in bytes ≡ (init_at bytes >>= whole)
unfolding init_in read_all
all_of bytes = refl

one_before : (i : InstrValue) (is : List InstrValue) (b : Bool) → (if b then Some (i ∷ is) else None) ≡ option_map (λ is. i ∷ is) (if b then Some is else None)
one_before i is true = refl
one_before i is false = refl

-- an operator that is not the end, and an initialiser after it
init_more : (rest after : List ℕ) (i : InstrValue) → init_instr_at rest ≡ Some (i, after) → ends i ≡ false → init_in rest ≡ option_map (λ is. i ∷ is) (init_in after)
unfolding init_at
init_more rest after i e more =
    let p = until_more SpellsInitInstr init_instr_at init_instr_meets init_instr_some ends [] rest (init_at rest) i after (init_start rest) e more in
    let given : init_at rest ≡ (init_at after >>= after_front (i ∷ [])) =
    p.gives ∙ ap (λ o. o >>= after_front (i ∷ [])) (same_steps SpellsInitInstr init_instr_at init_instr_meets init_instr_some ends p.steps (length after) after p.enough (omega arith)) in
    all_of rest ∙ (ap (λ o. o >>= whole) given ∙ (by (init_at after) ∙ ap (option_map (λ is. i ∷ is)) (sym (all_of after))))
  where
    by : (o : Option (List InstrValue × List ℕ)) → ((o >>= after_front (i ∷ [])) >>= whole) ≡ option_map (λ is. i ∷ is) (o >>= whole)
    by None = refl
    by (Some (is, left)) = one_before i is (length left == 0)

-- the end
init_ends : (rest after : List ℕ) (i : InstrValue) → init_instr_at rest ≡ Some (i, after) → ends i ≡ true → init_in rest ≡ option_map (λ is. i ∷ is) (nothing_in after)
init_ends rest after i e last =
    let given = until_end SpellsInitInstr init_instr_at init_instr_meets init_instr_some ends [] rest (init_at rest) i after (init_start rest) e last in
    all_of rest ∙ (ap (λ o. o >>= whole) given ∙ one_before i [] (length after == 0))

init_stops : (rest : List ℕ) → init_instr_at rest ≡ None → init_in rest ≡ None
init_stops rest none =
    all_of rest ∙ bind_none (init_at rest) whole (until_fails SpellsInitInstr init_instr_at init_instr_meets init_instr_some ends [] rest (init_at rest) (init_start rest) none)

-- what is left before and after an operator

left_running : (o : InitOperators) → o.has_ended ≡ false → init_left o ≡ init_in o.reader.rest.now
unfolding init_left
left_running o runs = ap (λ (b : Bool). if b then nothing_in o.reader.rest.now else init_in o.reader.rest.now) runs

left_ended : (o : InitOperators) → o.has_ended ≡ true → init_left o ≡ nothing_in o.reader.rest.now
unfolding init_left
left_ended o ended = ap (λ (b : Bool). if b then nothing_in o.reader.rest.now else init_in o.reader.rest.now) ended

pub left_read : (old new : InitOperators) (i : InstrValue) → old.has_ended ≡ false → init_instr_at old.reader.rest.now ≡ Some (i, new.reader.rest.now) → new.has_ended ≡ ends i → init_left old ≡ option_map (λ is. i ∷ is) (init_left new)
left_read old new i runs e last = by (ends i) refl
  where
    by : (b : Bool) → ends i ≡ b → init_left old ≡ option_map (λ is. i ∷ is) (init_left new)
    by true t =
        left_running old runs
        ∙ (init_ends old.reader.rest.now new.reader.rest.now i e t ∙ ap (option_map (λ is. i ∷ is)) (sym (left_ended new (last ∙ t))))
    by false t =
        left_running old runs
        ∙ (init_more old.reader.rest.now new.reader.rest.now i e t ∙ ap (option_map (λ is. i ∷ is)) (sym (left_running new (last ∙ t))))

pub left_not_read : (old : InitOperators) → old.has_ended ≡ false → init_instr_at old.reader.rest.now ≡ None → init_left old ≡ None
left_not_read old runs none = left_running old runs ∙ init_stops old.reader.rest.now none

-- after the end

pub left_none : (old : InitOperators) → old.has_ended ≡ true → true ≡ (length old.reader.rest.now == 0) → init_left old ≡ Some []
left_none old ended empty = left_ended old ended ∙ ap (λ (b : Bool). if b then Some [] else None) (sym empty)

pub left_over : (old : InitOperators) → old.has_ended ≡ true → false ≡ (length old.reader.rest.now == 0) → init_left old ≡ None
left_over old ended more = left_ended old ended ∙ ap (λ (b : Bool). if b then Some [] else None) (sym more)

-- whether there is an initialiser

abbrev with_front : List ℕ → List InstrValue × List ℕ → Option (List ℕ × List ℕ)
with_front bytes is = Some (bytes_before bytes is.1, is.1)

pub is_whole : (bytes front rest : List ℕ) → init_bytes_at bytes ≡ Some (front, rest) → (length rest == 0) ≡ is_some (init_in bytes)
unfolding init_bytes_at
is_whole bytes front rest e =
    let s = bind_is (init_at bytes) (with_front bytes) (front, rest) e in
    let p = some_pair (bytes_before bytes s.0.1) front s.0.1 rest s.2 in
    let given : init_in bytes ≡ whole (s.0.0, rest) = all_of bytes ∙ (bind_some (init_at bytes) whole s.0 s.1 ∙ ap (λ (r : List ℕ). whole (s.0.0, r)) p.1) in
    by (length rest == 0) s.0.0 ∙ sym (ap is_some given)
  where
    by : (b : Bool) (is : List InstrValue) → b ≡ is_some (if b then Some is else None)
    by true is = refl
    by false is = refl

pub is_none : (bytes : List ℕ) → init_bytes_at bytes ≡ None → is_some (init_in bytes) ≡ false
unfolding init_bytes_at
is_none bytes e = ap is_some (all_of bytes ∙ bind_none (init_at bytes) whole (nothing (init_at bytes) e))
  where
    nothing : (o : Option (List InstrValue × List ℕ)) → (o >>= with_front bytes) ≡ None → o ≡ None
    nothing None e = refl
    nothing (Some is) e = some_none (bytes_before bytes is.1, is.1) e

-- an operator of one index, and the end

one_constant : (b : ℕ) (rest : List ℕ) (form : Form) (v : ImmediatesValue) (left : List ℕ) → byte_form b ≡ Some form → immediates_at form rest ≡ Some (v, left) → is_init_operator (instr_of (Byte b) v) ≡ true → init_instr_at (b ∷ rest) ≡ Some (instr_of (Byte b) v, left)
unfolding init_instr_at
one_constant b rest form v left has e may = bind_some (instr_at (b ∷ rest)) _ (instr_of (Byte b) v, left) (frequent_read b rest form v left has e) ∙ rw may refl

the_end : init_in (0x0b ∷ []) ≡ Some (end_value ∷ [])
unfolding byte_form immediates_at
the_end = init_ends (0x0b ∷ []) [] end_value (one_constant 0x0b [] form_none WithNone [] refl refl refl) refl

pub index_read : (input : List ℕ) (b : ℕ) (rest : List ℕ) (space : Space) (n : ℕ) → input ≡ b ∷ rest → NamesSpace b space → number_at 32 rest ≡ Some (n, 0x0b ∷ []) → init_in input ≡ Some (instr_of (Byte b) (WithIndex (index_of (In space) n)) ∷ end_value ∷ [])
unfolding immediates_at
index_read input b rest space n cut (has, may) e =
    let i = instr_of (Byte b) (WithIndex (index_of (In space) n)) in
    let goes_on = constant_goes_on (Byte b) may in
    let read = one_constant b rest (form_index (In space)) (WithIndex (index_of (In space) n)) (0x0b ∷ []) has (bind_some (number_at 32 rest) _ (n, 0x0b ∷ []) e) (rw goes_on may) in
    ap init_in cut ∙ (init_more (b ∷ rest) (0x0b ∷ []) i read goes_on ∙ ap (option_map (λ is. i ∷ is)) the_end)

-- the same where other bytes follow

pub index_init_read : (input : List ℕ) (b : ℕ) (rest : List ℕ) (space : Space) (n last : ℕ) (left after : List ℕ) → input ≡ b ∷ rest → NamesSpace b space → number_at 32 rest ≡ Some (n, left) → left ≡ last ∷ after → last ≡ 0x0b
    → init_bytes_at input ≡ Some (bytes_before input after, after)
unfolding init_bytes_at immediates_at byte_form
index_init_read input b rest space n last left after cut (has, may) e tail is =
    let i = instr_of (Byte b) (WithIndex (index_of (In space) n)) in
    let goes_on = constant_goes_on (Byte b) may in
    let end_left : left ≡ 0x0b ∷ after = tail ∙ ap (λ (k : ℕ). k ∷ after) is in
    let read : init_instr_at input ≡ Some (i, left) = rw cut (one_constant b rest (form_index (In space)) (WithIndex (index_of (In space) n)) left has (bind_some (number_at 32 rest) _ (n, left) e) (rw goes_on may)) in
    let ends_at : init_instr_at left ≡ Some (end_value, after) = rw end_left (one_constant 0x0b after form_none WithNone after refl refl refl) in
    let part = until_more SpellsInitInstr init_instr_at init_instr_meets init_instr_some ends [] input (init_at input) i left (init_start input) read goes_on in
    bind_some (init_at input) (with_front input) _ (until_end SpellsInitInstr init_instr_at init_instr_meets init_instr_some ends (i ∷ []) left (init_at input) end_value after part ends_at refl)

pub index_init_shorter : (input : List ℕ) (b : ℕ) (rest : List ℕ) (n last : ℕ) (left after : List ℕ) → input ≡ b ∷ rest → number_at 32 rest ≡ Some (n, left) → left ≡ last ∷ after → length after ≤ length input
index_init_shorter input b rest n last left after cut e tail =
    let within = number_left 32 rest n left e in
    rw cut (omega (arith, within, ap length tail))
