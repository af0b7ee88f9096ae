-- Bytes, numbers, names and lists (5.1 and 5.2), and the words by which readers say that they do what a reading function
-- does.
use Rattle.std.specs.Prelude.{ℕ, List, Option, ◌≡◌, ◌≢◌, Some, None, Result, Ok, Err, [], ◌∷◌, length, take, drop, nat_le, if◌then◌else◌, Bool, true, false, ◌+◌, ◌-◌, ◌*◌, ◌^◌, nat_lt, zero, suc, ◌++◌, ◌==◌}
use Rattle.std.specs.Str.{is_utf8}
use Rattle.wc_read.specs.Options.{◌>>=◌}
use Rattle.wc_read.specs.declared.fault.ReadFault.{ReadFault}
use Rattle.wc_read.specs.declared.fault.ReadFault.TheVariants.{Memory as memory_fault, Component as component_fault}

-- a reading function: what is made of the bytes at the front, and the bytes that are left; none where it fails
abbrev pub Read : Type 0 → Type 0
Read A = List ℕ → Option (A × List ℕ)

-- what a reader returned, seen by view, with the bytes that it left, is what reading gives, unless memory ran out. No
-- reader speaks of components
abbrev pub Gives : {X A : Type 0} → (X → A) → Result X ReadFault → List ℕ → Option (A × List ℕ) → Type 0
Gives view (Ok x) rest read = read ≡ Some (view x, rest)
Gives view (Err e) rest read = (e ≢ memory_fault → read ≡ None) × (e ≢ component_fault)

-- what a reader that takes no memory returned, seen by view, with the bytes that it left, is what reading gives: its
-- fault is never Memory, so nothing can be read where it comes
abbrev pub GivesWithoutMemory : {X A : Type 0} → (X → A) → Result X ReadFault → List ℕ → Option (A × List ℕ) → Type 0
GivesWithoutMemory view (Ok x) rest read = read ≡ Some (view x, rest)
GivesWithoutMemory view (Err e) rest read = (read ≡ None) × (e ≢ memory_fault) × (e ≢ component_fault)

-- what a reader found, or that there is nothing at the front; only memory refuses
abbrev pub ReadsOption : {X A : Type 0} → (X → A) → Result (Option X) ReadFault → List ℕ → Option (A × List ℕ) → Type 0
ReadsOption view (Ok (Some x)) rest read = read ≡ Some (view x, rest)
ReadsOption view (Ok None) rest read = read ≡ None
ReadsOption view (Err e) rest read = e ≡ memory_fault

-- what a function over all of some bytes returned, seen by view, is what reading gives, unless memory ran out
abbrev pub Answers : {X A : Type 0} → (X → A) → Result X ReadFault → Option A → Type 0
Answers view (Ok x) read = read ≡ Some (view x)
Answers view (Err e) read = (e ≢ memory_fault → read ≡ None) × (e ≢ component_fault)

-- what a function over all of some bytes that takes no memory returned, seen by view, is what reading gives: its fault
-- is never Memory
abbrev pub AnswersWithoutMemory : {X A : Type 0} → (X → A) → Result X ReadFault → Option A → Type 0
AnswersWithoutMemory view (Ok x) read = read ≡ Some (view x)
AnswersWithoutMemory view (Err e) read = (read ≡ None) × (e ≢ memory_fault) × (e ≢ component_fault)

-- small parts

abbrev pub byte_at : Read ℕ
byte_at [] = None
byte_at (b ∷ bytes) = Some (b, bytes)

abbrev pub bytes_at : ℕ → Read (List ℕ)
bytes_at n bytes = if nat_le n (length bytes) then Some (take n bytes, drop n bytes) else None

abbrev pub where_at : {A : Type 0} → (A → Bool) → Read A → Read A
where_at test read bytes = read bytes >>= λ x. if test x.0 then Some x else None

-- one byte for one value
abbrev pub coded_at : {A : Type 0} → (ℕ → Option A) → Read A
coded_at value bytes = byte_at bytes >>= λ b. value b.0 >>= λ x. Some (x, b.1)

abbrev pub optional_at : {A : Type 0} → Bool → Read A → Read (Option A)
optional_at false read bytes = Some (None, bytes)
optional_at true read bytes = read bytes >>= λ x. Some (Some x.0, x.1)

-- a value made of what was read
abbrev pub as_made : {A B : Type 0} → (A → B) → A × List ℕ → Option (B × List ℕ)
as_made made x = Some (made x.0, x.1)

-- numbers, names, lists

unfoldable pub number_at : ℕ → Read ℕ
number_at bits [] = None
number_at bits (b ∷ bytes) =
    if nat_lt b 128 then (if nat_lt b (2 ^ bits) then Some (b, bytes) else None)
    else if nat_lt 7 bits then number_at (bits - 7) bytes >>= (λ high. Some (b - 128 + 128 * high.0, high.1)) else None

unfoldable pub name_at : Read (List ℕ)
name_at bytes = do
  size ← number_at 32 bytes
  where_at is_utf8 (bytes_at size.0) size.1

unfoldable pub items_at : {A : Type 0} → Read A → ℕ → Read (List A)
items_at read zero bytes = Some ([], bytes)
items_at read (suc n) bytes = do
  first ← read bytes
  others ← items_at read n first.1
  Some (first.0 ∷ others.0, others.1)

-- an item, as the last of those before it
abbrev pub appended_at : {A : Type 0} → List A → Read A → Read (List A)
appended_at front read bytes = read bytes >>= λ x. Some (front ++ (x.0 ∷ []), x.1)

unfoldable pub vector_at : {A : Type 0} → Read A → Read (List A)
vector_at read bytes = do
  count ← number_at 32 bytes
  items_at read count.0 count.1

-- what is read to the end of the bytes
unfoldable pub read_all : {A : Type 0} → Read A → List ℕ → Option A
read_all read bytes = read bytes >>= λ x. if length x.1 == 0 then Some x.0 else None
