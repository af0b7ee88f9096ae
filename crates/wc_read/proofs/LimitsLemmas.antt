-- Limits, table types and memory types are read as they are spelled.
use Rattle.std.proofs.Common.{◌≡◌, ℕ, zero, suc, ◌*◌, ◌^◌, ◌<◌, ◌≤◌, List, [], ◌∷◌, ◌++◌, Bool, true, false, Option, Some, None, refl, sym, ◌∙◌, ap, arith, inl}
use Rattle.std.proofs.Common.{inr, ◌⊎◌, ltb-true, eqb-true}
use Rattle.std.specs.Prelude.{◌==◌, nat_lt, nat_le, not, ◌&&◌, ◌||◌, is_some, IfSome}
use Rattle.std.specs.Option.{option_map_or}
use Rattle.std.proofs.lemmas.Bool.{cases_lt, leb-true, le-leb, false≢true, and_parts, and_from}
use Rattle.wc_read.specs.Formats.{Format, SpellsNumber, Joined}
use Rattle.wc_read.specs.Types.{SpellsValType, is_reference}
use Rattle.wc_read.specs.Limits.{flags_code, bound_bits, SpellsBounds, AreOrdered, table_flags, SpellsTable, memory_flags, FitsIn32, IsMemory, SpellsMemory}
use Rattle.wc_read.specs.Reading.Reader.{byte_at, number_at, where_at, optional_at}
use Rattle.wc_read.specs.Reading.Types.{val_type_at}
use Rattle.wc_read.specs.Reading.Limits.{flags_of, flags_at, is_at_most, bounds_at, table_at, is_page_size, max_pages, fits_addresses, memory_at}
use Rattle.wc_read.specs.Options.{◌>>=◌}
use Rattle.wc_read.specs.declared.limits.Flags.{Flags}
use Rattle.wc_read.specs.declared.types.ValType.{ValType}
use Rattle.wc_read.specs.declared.types.TableType.{TableType}
use Rattle.wc_read.specs.declared.types.MemoryType.{MemoryType}
use Rattle.wc_read.proofs.MeetsLemmas.{Meets, same_meets, bind_meets, made_meets, where_meets, tested_meets, tested_at, number_meets, optional_meets}
use Rattle.wc_read.proofs.MeetsLemmas.{byte_meets, IsByte, Where, Made, Tested, IsOptional, Coded}
use Rattle.wc_read.proofs.TypesLemmas.{val_type_meets}

-- tests of two parts

either : (a b : Bool) → (a || b) ≡ true → a ≡ false → b ≡ true
either a b e f = let g : (false || b) ≡ true = rw f at e in g

-- what passes for each number below 16
all_below : ℕ → (ℕ → Bool) → Bool
all_below zero test = true
all_below (suc n) test = test n && all_below n test

all_below_at : (n : ℕ) (test : ℕ → Bool) → all_below n test ≡ true → (b : ℕ) → b < n → test b ≡ true
unfolding all_below
all_below_at zero test e b lt = absurd (omega (arith, lt))
all_below_at (suc n) test e b lt =
    let p = and_parts (test n) (all_below n test) e in
    elim (cases_lt b n) [ inl less ↦ all_below_at n test p.1 b less | inr limit ↦ let same : b ≡ n = omega arith in rw same p.0 ]

-- the byte of flags
made_flags : Bool → Bool → Bool → Bool → Flags
made_flags l s w z = record { has_maximum = l; shared = s; is_64 = w; has_page_size = z }

flags_there : (l s w z : Bool) → (flags_of (flags_code (made_flags l s w z)) ≡ made_flags l s w z) × (nat_lt (flags_code (made_flags l s w z)) 16 ≡ true)
unfolding made_flags
flags_there false false false false = (refl, refl)
flags_there false false false true = (refl, refl)
flags_there false false true false = (refl, refl)
flags_there false false true true = (refl, refl)
flags_there false true false false = (refl, refl)
flags_there false true false true = (refl, refl)
flags_there false true true false = (refl, refl)
flags_there false true true true = (refl, refl)
flags_there true false false false = (refl, refl)
flags_there true false false true = (refl, refl)
flags_there true false true false = (refl, refl)
flags_there true false true true = (refl, refl)
flags_there true true false false = (refl, refl)
flags_there true true false true = (refl, refl)
flags_there true true true false = (refl, refl)
flags_there true true true true = (refl, refl)

flags_back : (b : ℕ) → nat_lt b 16 ≡ true → flags_code (flags_of b) ≡ b
unfolding all_below
flags_back b small = eqb-true _ _ (all_below_at 16 (λ n. flags_code (flags_of n) == n) refl b (ltb-true b 16 small))

pub flags_meets : Meets (Coded flags_code) flags_at
unfolding flags_at made_flags
flags_meets =
    same_meets (Made (Where IsByte (λ b. nat_lt b 16)) flags_of) (Coded flags_code) flags_at
    (made_meets (Where IsByte (λ b. nat_lt b 16)) (where_at (λ b. nat_lt b 16) byte_at) flags_of (where_meets IsByte byte_at (λ b. nat_lt b 16) byte_meets))
    (λ bytes f j. j.1.0 ∙ ap (λ (n : ℕ). n ∷ []) (sym (flags_back j.0 j.1.1) ∙ ap flags_code (sym j.2)))
    (λ bytes f s. let t = flags_there f.has_maximum f.shared f.is_64 f.has_page_size in (flags_code f, (s, t.1), sym t.0))

-- bounds
pub is_at_most_ordered : (n : ℕ) (m : Option ℕ) → is_at_most n m ≡ true → AreOrdered n m
is_at_most_ordered n None e = tt
is_at_most_ordered n (Some limit) e = leb-true n limit e

pub ordered_is_at_most : (n : ℕ) (m : Option ℕ) → AreOrdered n m → is_at_most n m ≡ true
ordered_is_at_most n None o = refl
ordered_is_at_most n (Some limit) o = le-leb n limit o

-- a minimum and a maximum, where the flags say that there is one
pub record IsBounds (is_64 has_maximum : Bool) (bytes : List ℕ) (bounds : ℕ × Option ℕ) : Type 0 where
  pub spelled : SpellsBounds is_64 bounds.0 bounds.1 bytes
  pub there : is_some bounds.1 ≡ has_maximum
  pub ordered : AreOrdered bounds.0 bounds.1

pair : ℕ → Option ℕ → ℕ × Option ℕ
pair initial maximum = (initial, maximum)

pub bounds_meets : (is_64 has_maximum : Bool) → Meets (IsBounds is_64 has_maximum) (bounds_at is_64 has_maximum)
unfolding bounds_at pair
bounds_meets is_64 has_maximum =
    let number = number_meets (bound_bits is_64) in
    let After : ℕ → Format (ℕ × Option ℕ) = λ n. Made (Where (IsOptional (SpellsNumber (bound_bits is_64)) has_maximum) (is_at_most n)) (pair n) in
    same_meets (Joined (SpellsNumber (bound_bits is_64)) After) (IsBounds is_64 has_maximum) (bounds_at is_64 has_maximum)
    (bind_meets (SpellsNumber (bound_bits is_64)) (number_at (bound_bits is_64)) After
    (λ n bytes. where_at (is_at_most n) (optional_at has_maximum (number_at (bound_bits is_64))) bytes >>= λ m. Some (pair n m.0, m.1)) number
    (λ n. made_meets (Where (IsOptional (SpellsNumber (bound_bits is_64)) has_maximum) (is_at_most n))
    (where_at (is_at_most n) (optional_at has_maximum (number_at (bound_bits is_64)))) (pair n)
    (where_meets (IsOptional (SpellsNumber (bound_bits is_64)) has_maximum) (optional_at has_maximum (number_at (bound_bits is_64))) (is_at_most n)
    (optional_meets (SpellsNumber (bound_bits is_64)) (number_at (bound_bits is_64)) number has_maximum))))
    (λ bytes b j. rw j.5.2 (record {
      spelled = record {
        initial_bytes = j.1;
        maximum_bytes = j.2;
        cut = j.3;
        has_initial = j.4;
        has_maximum = j.5.1.0.0;
      };
      there = j.5.1.0.1;
      ordered = is_at_most_ordered _ _ j.5.1.1;
    }))
    (λ bytes b s. (
      b.0,
      s.spelled.initial_bytes,
      s.spelled.maximum_bytes,
      s.spelled.cut,
      s.spelled.has_initial,
      (b.1, ((s.spelled.has_maximum, s.there), ordered_is_at_most b.0 b.1 s.ordered), refl),
    ))

-- tables
is_plain : Flags → Bool
is_plain f = not (f.shared || f.has_page_size)

plain_parts : (s z : Bool) → not (s || z) ≡ true → (s ≡ false) × (z ≡ false)
plain_parts false false e = (refl, refl)
plain_parts false true e = absurd (false≢true e)
plain_parts true z e = absurd (false≢true e)

made_table : ValType → Flags → ℕ × Option ℕ → TableType
made_table t f b = record { element_type = t; table64 = f.is_64; initial = b.0; maximum = b.1 }

table_to : (bytes : List ℕ) (t : TableType)
    → Joined (Where SpellsValType is_reference)
    (λ e. Joined (Where (Coded flags_code) is_plain) (λ f. Made (IsBounds f.is_64 f.has_maximum) (made_table e f))) bytes t → SpellsTable bytes t
unfolding is_plain made_table
table_to bytes t j =
    let p = plain_parts j.5.0.shared j.5.0.has_page_size j.5.4.1 in
    let b = j.5.5.1 in
    let flags : flags_code (record { has_maximum = is_some j.5.5.0.1; shared = false; is_64 = j.5.0.is_64; has_page_size = false })
    ≡ flags_code j.5.0 = rw (b.there, p.0, p.1) refl in
    rw j.5.5.2 (record {
      element = j.1;
      bounds = j.5.2;
      cut = j.3 ∙ rw (j.5.3, j.5.4.0, flags) refl;
      has_element = j.4.0;
      element_is_reference = j.4.1;
      has_bounds = b.spelled;
      ordered = b.ordered;
    })

table_from : (bytes : List ℕ) (t : TableType) → SpellsTable bytes t
    → Joined (Where SpellsValType is_reference)
    (λ e. Joined (Where (Coded flags_code) is_plain) (λ f. Made (IsBounds f.is_64 f.has_maximum) (made_table e f))) bytes t
unfolding is_plain made_table
table_from bytes t s = (
  t.element_type,
  s.element,
  flags_code (table_flags t) ∷ s.bounds,
  s.cut,
  (s.has_element, s.element_is_reference),
  (
    table_flags t,
    flags_code (table_flags t) ∷ [],
    s.bounds,
    refl,
    (refl, refl),
    ((t.initial, t.maximum), record { spelled = s.has_bounds; there = refl; ordered = s.ordered }, refl),
  ),
)

pub table_meets : Meets SpellsTable table_at
unfolding table_at is_plain made_table
table_meets =
    same_meets (Joined (Where SpellsValType is_reference)
    (λ e. Joined (Where (Coded flags_code) is_plain) (λ f. Made (IsBounds f.is_64 f.has_maximum) (made_table e f)))) SpellsTable table_at
    (bind_meets (Where SpellsValType is_reference) (where_at is_reference val_type_at)
    (λ e. Joined (Where (Coded flags_code) is_plain) (λ f. Made (IsBounds f.is_64 f.has_maximum) (made_table e f)))
    (λ e bytes. where_at is_plain flags_at bytes >>= λ f. bounds_at f.0.is_64 f.0.has_maximum f.1 >>= λ b. Some (made_table e f.0 b.0, b.1))
    (where_meets SpellsValType val_type_at is_reference val_type_meets)
    (λ e. bind_meets (Where (Coded flags_code) is_plain) (where_at is_plain flags_at) (λ f. Made (IsBounds f.is_64 f.has_maximum) (made_table e f))
    (λ f bytes. bounds_at f.is_64 f.has_maximum bytes >>= λ b. Some (made_table e f b.0, b.1))
    (where_meets (Coded flags_code) flags_at is_plain flags_meets)
    (λ f. made_meets (IsBounds f.is_64 f.has_maximum) (bounds_at f.is_64 f.has_maximum) (made_table e f) (bounds_meets f.is_64 f.has_maximum))))
    table_to table_from

-- memories
has_maximum_if_shared : Flags → Bool
has_maximum_if_shared f = not f.shared || f.has_maximum

implied : (s l : Bool) → (not s || l) ≡ true → s ≡ true → l ≡ true
implied true l e t = e
implied false l e t = absurd (false≢true t)

of_implied : (s l : Bool) → (s ≡ true → l ≡ true) → (not s || l) ≡ true
of_implied true l f = f refl
of_implied false l f = refl

-- the exponent of a page size
IsPageSize : Option ℕ → Type 0
IsPageSize o = IfSome o (λ page_size_log2. (page_size_log2 ≡ 0) ⊎ (page_size_log2 ≡ 16))

page_size : (o : Option ℕ) → is_page_size o ≡ true → IsPageSize o
unfolding IsPageSize
page_size None e = tt
page_size (Some x) e = by (x == 0) refl
  where
    by : (test : Bool) → (x == 0) ≡ test → (x ≡ 0) ⊎ (x ≡ 16)
    by true t = inl (eqb-true x 0 t)
    by false t = inr (eqb-true x 16 (either (x == 0) (x == 16) e t))

page_size_back : (o : Option ℕ) → IsPageSize o → is_page_size o ≡ true
unfolding IsPageSize
page_size_back None s = refl
page_size_back (Some x) (inl e) = rw e refl
page_size_back (Some x) (inr e) = rw e refl

-- pages that lie in 32 bits
pages_fit : (o : Option ℕ) (n : ℕ) → IsPageSize o → nat_le n (max_pages o) ≡ true → FitsIn32 o n
unfolding IsPageSize
pages_fit None n s e = let h : n ≤ 65536 = leb-true n 65536 e in omega arith
pages_fit (Some x) n (inl z) e = let h : n ≤ 4294967296 = leb-true n 4294967296 (rw z at e) in rw z (omega arith)
pages_fit (Some x) n (inr z) e = let h : n ≤ 65536 = leb-true n 65536 (rw z at e) in rw z (omega arith)

pages_fit_back : (o : Option ℕ) (n : ℕ) → IsPageSize o → FitsIn32 o n → nat_le n (max_pages o) ≡ true
unfolding IsPageSize
pages_fit_back None n s fit = le-leb n 65536 (omega (arith, fit))
pages_fit_back (Some x) n (inl z) fit = let h : n * 2 ^ 0 ≤ 2 ^ 32 = rw z at fit in rw z (le-leb n 4294967296 (omega arith))
pages_fit_back (Some x) n (inr z) fit = let h : n * 2 ^ 16 ≤ 2 ^ 32 = rw z at fit in rw z (le-leb n 65536 (omega arith))

maximum_fits_to : (o m : Option ℕ) → IsPageSize o → option_map_or (λ limit. nat_le limit (max_pages o)) m true ≡ true → IfSome m (FitsIn32 o)
maximum_fits_to o None s e = tt
maximum_fits_to o (Some n) s e = pages_fit o n s e

maximum_fits_back : (o m : Option ℕ) → IsPageSize o → IfSome m (FitsIn32 o) → option_map_or (λ limit. nat_le limit (max_pages o)) m true ≡ true
maximum_fits_back o None s fit = refl
maximum_fits_back o (Some n) s fit = pages_fit_back o n s fit

fits_parts : (m : MemoryType) → fits_addresses m ≡ true → m.memory64 ≡ false → (nat_le m.initial (max_pages m.page_size_log2) ≡ true)
    × (option_map_or (λ limit. nat_le limit (max_pages m.page_size_log2)) m.maximum true ≡ true)
fits_parts m e narrow = and_parts _ _ (either m.memory64 _ e narrow)

fits_from : (m : MemoryType) → IsMemory m → fits_addresses m ≡ true
unfolding IsPageSize
fits_from m is = by m.memory64 refl
  where
    by : (is_64 : Bool) → m.memory64 ≡ is_64 → fits_addresses m ≡ true
    by true e = rw e refl
    by false e = rw e (and_from _ _ (pages_fit_back m.page_size_log2 m.initial is.known_page_size (is.initial_fits e))
        (maximum_fits_back m.page_size_log2 m.maximum is.known_page_size (is.maximum_fits e)))

made_memory : Flags → ℕ × Option ℕ → Option ℕ → MemoryType
made_memory f b e = record { memory64 = f.is_64; shared = f.shared; initial = b.0; maximum = b.1; page_size_log2 = e }

abbrev SpellsExponent : Flags → Format (Option ℕ)
SpellsExponent f = Where (IsOptional (SpellsNumber 32) f.has_page_size) is_page_size

abbrev SpellsParts : Format MemoryType
SpellsParts = Joined (Where (Coded flags_code) has_maximum_if_shared)
    (λ f. Joined (IsBounds f.is_64 f.has_maximum) (λ b. Tested (SpellsExponent f) (made_memory f b) fits_addresses))

memory_to : (bytes : List ℕ) (m : MemoryType) → SpellsParts bytes m → SpellsMemory bytes m
unfolding has_maximum_if_shared made_memory IsPageSize
memory_to bytes m j =
    let k = j.5 in
    let b = k.4 in
    let e = k.5 in
    let fits = rw e.2 at e.3 in
    let page = page_size e.0 e.1.1 in
    let flags : flags_code (record { has_maximum = is_some k.0.1; shared = j.0.shared; is_64 = j.0.is_64; has_page_size = is_some e.0 })
    ≡ flags_code j.0 = rw (b.there, e.1.0.1) refl in
    rw e.2 (record {
      bounds = k.1;
      page_size_log2 = k.2;
      cut = j.3 ∙ rw (j.4.0, k.3, flags) refl;
      has_bounds = b.spelled;
      has_page_size_log2 = e.1.0.0;
      is_memory = record {
        ordered = b.ordered;
        maximum_if_shared = λ shared. b.there ∙ implied j.0.shared j.0.has_maximum j.4.1 shared;
        known_page_size = page;
        initial_fits = λ narrow. pages_fit e.0 k.0.0 page (fits_parts (made_memory j.0 k.0 e.0) fits narrow).0;
        maximum_fits = λ narrow. maximum_fits_to e.0 k.0.1 page (fits_parts (made_memory j.0 k.0 e.0) fits narrow).1;
      };
    })

memory_from : (bytes : List ℕ) (m : MemoryType) → SpellsMemory bytes m → SpellsParts bytes m
unfolding has_maximum_if_shared made_memory IsPageSize
memory_from bytes m s = (
  memory_flags m,
  flags_code (memory_flags m) ∷ [],
  s.bounds ++ s.page_size_log2,
  s.cut,
  (refl, of_implied m.shared (is_some m.maximum) s.is_memory.maximum_if_shared),
  (
    (m.initial, m.maximum),
    s.bounds,
    s.page_size_log2,
    refl,
    record { spelled = s.has_bounds; there = refl; ordered = s.is_memory.ordered },
    (m.page_size_log2, ((s.has_page_size_log2, refl), page_size_back m.page_size_log2 s.is_memory.known_page_size), refl, fits_from m s.is_memory),
  ),
)

pub memory_meets : Meets SpellsMemory memory_at
unfolding memory_at has_maximum_if_shared made_memory
memory_meets =
    same_meets SpellsParts SpellsMemory memory_at
    (bind_meets (Where (Coded flags_code) has_maximum_if_shared) (where_at has_maximum_if_shared flags_at)
    (λ f. Joined (IsBounds f.is_64 f.has_maximum) (λ b. Tested (SpellsExponent f) (made_memory f b) fits_addresses))
    (λ f bytes. bounds_at f.is_64 f.has_maximum bytes >>= λ b. where_at is_page_size (optional_at f.has_page_size (number_at 32)) b.1 >>= tested_at
    (made_memory f b.0) fits_addresses)
    (where_meets (Coded flags_code) flags_at has_maximum_if_shared flags_meets)
    (λ f. bind_meets (IsBounds f.is_64 f.has_maximum) (bounds_at f.is_64 f.has_maximum) (λ b. Tested (SpellsExponent f) (made_memory f b) fits_addresses)
    (λ b bytes. where_at is_page_size (optional_at f.has_page_size (number_at 32)) bytes >>= tested_at (made_memory f b) fits_addresses)
    (bounds_meets f.is_64 f.has_maximum)
    (λ b. tested_meets (SpellsExponent f) (where_at is_page_size (optional_at f.has_page_size (number_at 32))) (made_memory f b) fits_addresses
    (where_meets (IsOptional (SpellsNumber 32) f.has_page_size) (optional_at f.has_page_size (number_at 32)) is_page_size
    (optional_meets (SpellsNumber 32) (number_at 32) (number_meets 32) f.has_page_size)))))
    memory_to memory_from
