-- The contents of sections are read as they are spelled.
use Rattle.std.proofs.Common.{◌≡◌, ℕ, List, [], ◌∷◌, ◌++◌, length, Option, Some, None, true, refl, sym, ◌∙◌, ap, append-nil, subst, eqb-true, arith}
use Rattle.std.specs.Prelude.{◌==◌, if◌then◌else◌, Result, Ok, Err, IfOk}
use Rattle.wc_read.specs.Formats.{Format, SpellsNumber, SpellsVector, Joined}
use Rattle.wc_read.specs.Types.{FuncTypeValue, SpellsValType}
use Rattle.wc_read.specs.Contents.{SpellsFuncType, SpellsSizePrefixed}
use Rattle.wc_read.specs.Reading.Reader.{Read, byte_at, bytes_at, where_at, number_at, vector_at, Answers, read_all}
use Rattle.wc_read.specs.Reading.Types.{val_type_at}
use Rattle.wc_read.specs.Options.{◌>>=◌}
use Rattle.wc_read.specs.Reading.Contents.{func_type_at, size_prefixed_at}
use Rattle.wc_read.specs.declared.types.ValType.{ValType}
use Rattle.wc_read.specs.Fault.{IfRefused, SpellsNothing}
use Rattle.wc_read.specs.declared.fault.ReadFault.{ReadFault}
use Rattle.wc_read.proofs.OptionsLemmas.{bind_some, some_none}
use Rattle.wc_read.proofs.MeetsLemmas.{Meets, same_meets, bind_meets, made_meets, made_at, where_meets, number_meets, byte_meets, bytes_meet, vector_meets, bind_is, if_is, all_spelled, IsByte, AreBytes, Made, Where}
use Rattle.wc_read.proofs.TypesLemmas.{val_type_meets}

-- A relation of all of the bytes and a value, and a function that finds the value.
pub record DecidesSpelling {A : Type 0} (Spells : Format A) (find : List ℕ → Option A) : Type 0 where
  pub found : (bytes : List ℕ) (x : A) → find bytes ≡ Some x → Spells bytes x
  pub finds : (bytes : List ℕ) (x : A) → Spells bytes x → find bytes ≡ Some x

read_all_found : {A : Type 0} (Spells : Format A) (read : Read A) → Meets Spells read → (bytes : List ℕ) (x : A) → read_all read bytes ≡ Some x → Spells bytes x
unfolding read_all
read_all_found Spells read m bytes x e =
    let s = bind_is (read bytes) (λ r. if length r.1 == 0 then Some r.0 else None) x e in
    let p = if_is (length s.0.1 == 0) s.0.0 x s.2 in
    by s.0.1 (s.1 ∙ ap (λ y. Some (y, s.0.1)) p.1) p.0
  where
    by : (rest : List ℕ) → read bytes ≡ Some (x, rest) → (length rest == 0) ≡ true → Spells bytes x
    by [] e t = all_spelled Spells read m bytes x e
    by (b ∷ rest) e t = let h : length (b ∷ rest) ≡ 0 = eqb-true (length (b ∷ rest)) 0 t in absurd (omega arith)

read_all_finds : {A : Type 0} (Spells : Format A) (read : Read A) → Meets Spells read → (bytes : List ℕ) (x : A) → Spells bytes x → read_all read bytes ≡ Some x
unfolding read_all
read_all_finds Spells read m bytes x s =
    let e : read bytes ≡ Some (x, []) = ap read (sym (append-nil bytes)) ∙ m.again bytes x [] s in
    bind_some (read bytes) _ (x, []) e

pub read_all_meets : {A : Type 0} (Spells : Format A) (read : Read A) → Meets Spells read → DecidesSpelling Spells (read_all read)
read_all_meets Spells read m = record { found = read_all_found Spells read m; finds = read_all_finds Spells read m }

-- what a function over all of some bytes answered, of the relation

pub items_spelled : {X A : Type 0} (Spells : Format A) (read : Read A) → Meets Spells read → (view : X → A) (bytes : List ℕ) (r : Result X ReadFault) → Answers view r (read_all read bytes) → IfOk r (λ x. Spells bytes (view x))
items_spelled Spells read m view bytes (Ok x) e = read_all_found Spells read m bytes (view x) e
items_spelled Spells read m view bytes (Err f) e = tt

pub none_spelled : {X A : Type 0} (Spells : Format A) (read : Read A) → Meets Spells read → (view : X → A) (bytes : List ℕ) (r : Result X ReadFault) → Answers view r (read_all read bytes) → IfRefused r (SpellsNothing Spells bytes)
none_spelled Spells read m view bytes (Ok x) e = tt
none_spelled Spells read m view bytes (Err f) e = λ real v s. some_none v (sym (read_all_finds Spells read m bytes v s) ∙ e.0 real)

-- bytes after their size

pub size_prefixed_meets : Meets SpellsSizePrefixed size_prefixed_at
unfolding size_prefixed_at
size_prefixed_meets =
    same_meets (Joined (SpellsNumber 32) AreBytes) SpellsSizePrefixed size_prefixed_at
    (bind_meets (SpellsNumber 32) (number_at 32) AreBytes bytes_at (number_meets 32) bytes_meet)
    (λ bytes content j. (j.1, j.3 ∙ ap (λ (r : List ℕ). j.1 ++ r) j.5.0, subst (λ (n : ℕ). SpellsNumber 32 j.1 n) (sym j.5.1) j.4))
    (λ bytes content s. (length content, s.0, content, s.1, s.2, (refl, refl)))

-- function types

made_func_type : List ValType → List ValType → FuncTypeValue
made_func_type ps rs = record { params = ps; results = rs }

abbrev IsForm : Format ℕ
IsForm = Where IsByte (λ b. b == 0x60)

abbrev SpellsValTypes : Format (List ValType)
SpellsValTypes bytes ts = SpellsVector SpellsValType bytes ts

abbrev SpellsResults : List ValType → Format FuncTypeValue
SpellsResults ps = Made SpellsValTypes (made_func_type ps)

abbrev SpellsParts : Format FuncTypeValue
SpellsParts = Joined IsForm (λ _. Joined SpellsValTypes SpellsResults)

val_types_meet : Meets SpellsValTypes (vector_at val_type_at)
val_types_meet = vector_meets SpellsValType val_type_at val_type_meets

func_type_to : (bytes : List ℕ) (f : FuncTypeValue) → SpellsParts bytes f → SpellsFuncType bytes f
unfolding made_func_type
func_type_to bytes f j =
    let form : j.0 ≡ 0x60 = eqb-true j.0 0x60 j.4.1 in
    rw j.5.5.2 (record { params_bytes = j.5.1; results_bytes = j.5.2; cut = rw (j.3, j.4.0, form, j.5.3) refl; has_params = j.5.4; has_results = j.5.5.1 })

func_type_from : (bytes : List ℕ) (f : FuncTypeValue) → SpellsFuncType bytes f → SpellsParts bytes f
unfolding made_func_type
func_type_from bytes f s = (0x60, 0x60 ∷ [], s.params_bytes ++ s.results_bytes, s.cut, (refl, refl), (f.params, s.params_bytes, s.results_bytes, refl, s.has_params, (f.results, s.has_results, refl)))

pub func_type_meets : Meets SpellsFuncType func_type_at
unfolding func_type_at made_func_type
func_type_meets =
    same_meets SpellsParts SpellsFuncType func_type_at
    (bind_meets IsForm (where_at (λ b. b == 0x60) byte_at) (λ _. Joined SpellsValTypes SpellsResults) (λ _ bytes. vector_at val_type_at bytes >>= λ ps. vector_at val_type_at ps.1 >>= made_at (made_func_type ps.0)) (where_meets IsByte byte_at (λ b. b == 0x60) byte_meets)
    (λ _. bind_meets SpellsValTypes (vector_at val_type_at) SpellsResults (λ ps bytes. vector_at val_type_at bytes >>= made_at (made_func_type ps)) val_types_meet
    (λ ps. made_meets SpellsValTypes (vector_at val_type_at) (made_func_type ps) val_types_meet)))
    func_type_to func_type_from

-- the contents
