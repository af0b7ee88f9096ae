-- A relation of bytes and value, and a reading function that meets it: what is read is spelled at the front, and what is
-- spelled is read, whatever is after it. One lemma for each way to put formats together.
use Rattle.std.proofs.Common.{◌≡◌, ℕ, zero, suc, ◌+◌, ◌-◌, ◌*◌, ◌^◌, List, [], ◌∷◌, ◌++◌, length, take, drop, Bool, true, false, Option, Some, None, refl, sym, ◌∙◌, ap, append_assoc, append-nil, arith, inl, inr, ◌⊎◌, subst, eqb-true, eq-eqb}
use Rattle.std.specs.Prelude.{nat_le, ◌==◌, is_some, if◌then◌else◌}
use Rattle.std.proofs.lemmas.Bool.{cases_lt, false≢true, leb-true, le-leb}
use Rattle.std.proofs.lemmas.List.{take-append-drop, length-take-le}
use Rattle.std.proofs.Math.Seq.{take-append_seam, drop-append_seam}
use Rattle.std.proofs.Math.ListN.{length-append}
use Rattle.wc_read.specs.Formats.{Format, SpellsNumber, last, more, Joined, SpellsOptional, SpellsItems, SpellsVector}
use Rattle.wc_read.specs.Reading.Reader.{Read, byte_at, bytes_at, where_at, coded_at, optional_at, number_at, items_at, vector_at}
use Rattle.wc_read.specs.Options.{◌>>=◌}
use Rattle.wc_read.proofs.OptionsLemmas.{some_same, some_none, some_pair, bind_some}
use Rattle.wc_read.proofs.NumbersLemmas.{number_last, number_high, number_more, number_too_long, number_empty}

pub record Meets {A : Type 0} (Spells : Format A) (read : Read A) : Type 0 where
  pub parses : (bytes : List ℕ) (x : A) (rest : List ℕ) → read bytes ≡ Some (x, rest) → (text : List ℕ) × (bytes ≡ text ++ rest) × Spells text x
  pub again : (text : List ℕ) (x : A) (rest : List ℕ) → Spells text x → read (text ++ rest) ≡ Some (x, rest)

-- What follows for every format.

-- no bytes spell two values
pub one_value : {A : Type 0} (Spells : Format A) (read : Read A) → Meets Spells read → (bytes : List ℕ) (x y : A) → Spells bytes x → Spells bytes y → x ≡ y
one_value Spells read m bytes x y s t = (some_pair x y [] [] (sym (m.again bytes x [] s) ∙ m.again bytes y [] t)).0

-- no spelling begins another: two fronts of one text are one, with one value and one rest
pub one_spelling : {A : Type 0} (Spells : Format A) (read : Read A) → Meets Spells read → (a b : List ℕ) (x y : A) (rest others : List ℕ) → a ++ rest ≡ b ++ others → Spells a x → Spells b y → (x ≡ y) × (rest ≡ others)
one_spelling Spells read m a b x y rest others e s t = some_pair x y rest others (sym (m.again a x rest s) ∙ ap read e ∙ m.again b y others t)

-- where nothing is read, nothing is spelled at the front
pub no_spelling : {A : Type 0} (Spells : Format A) (read : Read A) → Meets Spells read → (bytes : List ℕ) → read bytes ≡ None → (text rest : List ℕ) (x : A) → bytes ≡ text ++ rest → Spells text x → ⊥
no_spelling Spells read m bytes none text rest x cut s = some_none (x, rest) (sym (m.again text x rest s) ∙ ap read (sym cut) ∙ none)

-- the same of all of the bytes
pub no_value : {A : Type 0} (Spells : Format A) (read : Read A) → Meets Spells read → (bytes : List ℕ) → read bytes ≡ None → (x : A) → Spells bytes x → ⊥
no_value Spells read m bytes none x s = no_spelling Spells read m bytes none bytes [] x (sym (append-nil bytes)) s

-- what is read to the end is spelled by all of the bytes
pub all_spelled : {A : Type 0} (Spells : Format A) (read : Read A) → Meets Spells read → (bytes : List ℕ) (x : A) → read bytes ≡ Some (x, []) → Spells bytes x
all_spelled Spells read m bytes x e = let t = m.parses bytes x [] e in subst (λ (b : List ℕ). Spells b x) (sym (t.1 ∙ append-nil t.0)) t.2

-- where bytes are left, all of them spell nothing
pub none_with_rest : {A : Type 0} (Spells : Format A) (read : Read A) → Meets Spells read → (bytes : List ℕ) (x : A) (b : ℕ) (rest : List ℕ) → read bytes ≡ Some (x, b ∷ rest) → (y : A) → Spells bytes y → ⊥
none_with_rest Spells read m bytes x b rest e y s =
    let again = m.again bytes y [] s in
    let same = some_pair x y (b ∷ rest) [] (sym e ∙ ap read (sym (append-nil bytes)) ∙ again) in
    absurd (cc same.1)

-- the same by the test whether bytes are left
pub left_over : {A : Type 0} (Spells : Format A) (read : Read A) → Meets Spells read → (bytes : List ℕ) (x : A) (rest : List ℕ) → read bytes ≡ Some (x, rest) → false ≡ (length rest == 0) → (y : A) → Spells bytes y → ⊥
left_over Spells read m bytes x [] e t y s = absurd (false≢true t)
left_over Spells read m bytes x (b ∷ rest) e t y s = none_with_rest Spells read m bytes x b rest e y s

pub none_left : {A : Type 0} (Spells : Format A) (read : Read A) → Meets Spells read → (bytes : List ℕ) (x : A) (rest : List ℕ) → read bytes ≡ Some (x, rest) → true ≡ (length rest == 0) → Spells bytes x
none_left Spells read m bytes x [] e t = all_spelled Spells read m bytes x e
none_left Spells read m bytes x (b ∷ rest) e t = let h : length (b ∷ rest) ≡ 0 = eqb-true (length (b ∷ rest)) 0 (sym t) in absurd (omega arith)

-- Ways to put formats together.

pub same_meets : {A : Type 0} (One Other : Format A) (read : Read A) → Meets One read → ((bytes : List ℕ) (x : A) → One bytes x → Other bytes x) → ((bytes : List ℕ) (x : A) → Other bytes x → One bytes x) → Meets Other read
same_meets One Other read m to from = record {
  parses = λ bytes x rest e. let t = m.parses bytes x rest e in (t.0, t.1, to t.0 x t.2);
  again = λ text x rest s. m.again text x rest (from text x s);
}

-- the step at the front and the step after it
pub bind_is : {A B : Type 0} (o : Option A) (f : A → Option B) (y : B) → (o >>= f) ≡ Some y → (x : A) × (o ≡ Some x) × (f x ≡ Some y)
bind_is None f y e = absurd cc
bind_is (Some x) f y e = (x, refl, e)

pub bind_meets : {A B : Type 0} (Front : Format A) (front : Read A) (Back : A → Format B) (back : A → Read B) → Meets Front front → ((x : A) → Meets (Back x) (back x)) → Meets (Joined Front Back) (λ bytes. front bytes >>= λ x. back x.0 x.1)
bind_meets Front front Back back f b = record {
  parses = λ bytes y rest e.
      let s = bind_is (front bytes) (λ x. back x.0 x.1) (y, rest) e in
      let t = f.parses bytes s.0.0 s.0.1 s.1 in
      let u = (b s.0.0).parses s.0.1 y rest s.2 in
      (t.0 ++ u.0, t.1 ∙ ap (λ (r : List ℕ). t.0 ++ r) u.1 ∙ sym (append_assoc t.0 u.0 rest), (s.0.0, t.0, u.0, refl, t.2, u.2));
  again = λ text y rest s.
      let cut : text ++ rest ≡ s.1 ++ (s.2 ++ rest) = ap (λ (r : List ℕ). r ++ rest) s.3 ∙ append_assoc s.1 s.2 rest in
      ap (λ (r : List ℕ). front r >>= λ x. back x.0 x.1) cut ∙ bind_some _ _ (s.0, s.2 ++ rest) (f.again s.1 s.0 (s.2 ++ rest) s.4) ∙ (b s.0).again s.2 y rest s.5;
}

-- a value made of what was read
abbrev pub Made : {A B : Type 0} → Format A → (A → B) → Format B
Made {A} Spells made bytes y = (x : A) × Spells bytes x × (y ≡ made x)

abbrev pub made_at : {A B : Type 0} → (A → B) → (A × List ℕ) → Option (B × List ℕ)
made_at made x = Some (made x.0, x.1)

pub made_meets : {A B : Type 0} (Spells : Format A) (read : Read A) (made : A → B) → Meets Spells read → Meets (Made Spells made) (λ bytes. read bytes >>= made_at made)
made_meets Spells read made m = record {
  parses = λ bytes y rest e.
      let s = bind_is (read bytes) (made_at made) (y, rest) e in
      let p = some_pair (made s.0.0) y s.0.1 rest s.2 in
      let t = m.parses bytes s.0.0 s.0.1 s.1 in
      (t.0, t.1 ∙ ap (λ (r : List ℕ). t.0 ++ r) p.1, (s.0.0, t.2, sym p.0));
  again = λ text y rest s.
      bind_some _ _ (s.0, rest) (m.again text s.0 rest s.1) ∙ rw s.2 refl;
}

-- what was read, where it passes a test
abbrev pub Where : {A : Type 0} → Format A → (A → Bool) → Format A
Where Spells test bytes x = Spells bytes x × (test x ≡ true)

pub if_is : {A : Type 0} (b : Bool) (x y : A) → (if b then Some x else None) ≡ Some y → (b ≡ true) × (x ≡ y)
if_is true x y e = (refl, some_same x y e)
if_is false x y e = absurd cc

pub where_meets : {A : Type 0} (Spells : Format A) (read : Read A) (test : A → Bool) → Meets Spells read → Meets (Where Spells test) (where_at test read)
where_meets {A} Spells read test m = record {
  parses = λ bytes y rest e.
      let s = bind_is (read bytes) (λ x. if test x.0 then Some x else None) (y, rest) e in
      let p = if_is (test s.0.0) s.0 (y, rest) s.2 in
      let t = m.parses bytes s.0.0 s.0.1 s.1 in
      let v : s.0.0 ≡ y = ap (λ q. q.0) p.1 in
      let r : s.0.1 ≡ rest = ap (λ q. q.1) p.1 in
      (t.0, t.1 ∙ ap (λ (r : List ℕ). t.0 ++ r) r, (subst (λ (w : A). Spells t.0 w) v t.2, subst (λ (w : A). test w ≡ true) v p.0));
  again = λ text y rest s.
      bind_some (read (text ++ rest)) _ (y, rest) (m.again text y rest s.0) ∙ rw s.1 refl;
}

-- a value made of what was read, where it passes a test
abbrev pub Tested : {A B : Type 0} → Format A → (A → B) → (B → Bool) → Format B
Tested {A} Spells made test bytes y = (x : A) × Spells bytes x × (y ≡ made x) × (test y ≡ true)

abbrev pub tested_at : {A B : Type 0} → (A → B) → (B → Bool) → (A × List ℕ) → Option (B × List ℕ)
tested_at made test x = if test (made x.0) then Some (made x.0, x.1) else None

pub tested_meets : {A B : Type 0} (Spells : Format A) (read : Read A) (made : A → B) (test : B → Bool) → Meets Spells read → Meets (Tested Spells made test) (λ bytes. read bytes >>= tested_at made test)
tested_meets {A} {B} Spells read made test m = record {
  parses = λ bytes y rest e.
      let s = bind_is (read bytes) (tested_at made test) (y, rest) e in
      let p = if_is (test (made s.0.0)) (made s.0.0, s.0.1) (y, rest) s.2 in
      let t = m.parses bytes s.0.0 s.0.1 s.1 in
      let v : made s.0.0 ≡ y = ap (λ q. q.0) p.1 in
      let r : s.0.1 ≡ rest = ap (λ q. q.1) p.1 in
      (t.0, t.1 ∙ ap (λ (r : List ℕ). t.0 ++ r) r, (s.0.0, t.2, sym v, subst (λ (w : B). test w ≡ true) v p.0));
  again = λ text y rest s.
      bind_some _ _ (s.0, rest) (m.again text s.0 rest s.1) ∙ rw (← s.2, s.3) refl;
}

-- one byte
abbrev pub IsByte : Format ℕ
IsByte bytes b = bytes ≡ b ∷ []

pub byte_meets : Meets IsByte byte_at
byte_meets = record { parses = taken; again = λ text b rest s. rw s refl }
  where
    taken : (bytes : List ℕ) (b : ℕ) (rest : List ℕ) → byte_at bytes ≡ Some (b, rest) → (text : List ℕ) × (bytes ≡ text ++ rest) × IsByte text b
    taken [] b rest e = absurd cc
    taken (x ∷ xs) b rest e = let p = some_pair x b xs rest e in (b ∷ [], rw (p.0, p.1) refl, refl)

-- so many bytes
abbrev pub AreBytes : ℕ → Format (List ℕ)
AreBytes n bytes xs = (bytes ≡ xs) × (length xs ≡ n)

pub bytes_meet : (n : ℕ) → Meets (AreBytes n) (bytes_at n)
bytes_meet n = record { parses = taken n; again = again_at n }
  where
    taken : (n : ℕ) (bytes xs rest : List ℕ) → bytes_at n bytes ≡ Some (xs, rest) → (text : List ℕ) × (bytes ≡ text ++ rest) × AreBytes n text xs
    taken n bytes xs rest e =
        let p = if_is (nat_le n (length bytes)) (take n bytes, drop n bytes) (xs, rest) e in
        let front : take n bytes ≡ xs = ap (λ q. q.0) p.1 in
        let back : drop n bytes ≡ rest = ap (λ q. q.1) p.1 in
        (take n bytes, sym (take-append-drop n bytes) ∙ ap (λ (r : List ℕ). take n bytes ++ r) back, (front, rw (← front) (length-take-le n bytes (leb-true n (length bytes) p.0))))

    again_at : (n : ℕ) (text xs rest : List ℕ) → AreBytes n text xs → bytes_at n (text ++ rest) ≡ Some (xs, rest)
    again_at n text xs rest s =
        let enough : nat_le (length xs) (length (xs ++ rest)) ≡ true = le-leb _ _ (omega (arith, length-append xs rest)) in
        rw (s.0, ← s.1, enough, take-append_seam, drop-append_seam) refl

-- numbers

number_taken : (bits : ℕ) (bytes : List ℕ) (x : ℕ) (rest : List ℕ) → number_at bits bytes ≡ Some (x, rest) → (text : List ℕ) × (bytes ≡ text ++ rest) × SpellsNumber bits text x
number_taken bits [] x rest e = absurd (some_none (x, rest) (sym e ∙ number_empty bits))
number_taken bits (b ∷ bytes) x rest e =
    elim (cases_lt b 128) [
      | inl small ↦ elim (cases_lt b (2 ^ bits)) [
        | inl fits ↦
            let p = some_pair b x bytes rest (sym (number_last bits b bytes small fits) ∙ e) in
            (b ∷ [], ap (λ (r : List ℕ). b ∷ r) p.1, subst (λ (n : ℕ). SpellsNumber bits (b ∷ []) n) p.0 (last small fits))
        | inr high ↦ absurd (some_none (x, rest) (sym e ∙ number_high bits b bytes small high))
      ]
      | inr large ↦ elim (cases_lt 7 bits) [
        | inl left ↦
            let s = bind_is (number_at (bits - 7) bytes) (λ high. Some (b - 128 + 128 * high.0, high.1)) (x, rest) (sym (number_more bits b bytes large left) ∙ e) in
            let p = some_pair (b - 128 + 128 * s.0.0) x s.0.1 rest s.2 in
            let t = number_taken (bits - 7) bytes s.0.0 s.0.1 s.1 in
            (b ∷ t.0, ap (λ (r : List ℕ). b ∷ r) t.1 ∙ ap (λ (r : List ℕ). b ∷ (t.0 ++ r)) p.1, rw p.0 at (more left large t.2))
        | inr short ↦ absurd (some_none (x, rest) (sym e ∙ number_too_long bits b bytes large short))
      ]
    ]

number_again : {bits : ℕ} {text : List ℕ} {x : ℕ} → SpellsNumber bits text x → (rest : List ℕ) → number_at bits (text ++ rest) ≡ Some (x, rest)
number_again (last small fits) rest = number_last _ _ rest small fits
number_again (more left large s) rest = number_more _ _ _ large left ∙ bind_some _ _ _ (number_again s rest)

pub number_meets : (bits : ℕ) → Meets (SpellsNumber bits) (number_at bits)
number_meets bits = record { parses = number_taken bits; again = λ text x rest s. number_again s rest }

-- counted lists

abbrev pub AreItems : {A : Type 0} → Format A → ℕ → Format (List A)
AreItems Spells n bytes xs = SpellsItems Spells bytes xs × (length xs ≡ n)

abbrev cons_at : {A : Type 0} → A → (List A × List ℕ) → Option (List A × List ℕ)
cons_at x others = Some (x ∷ others.0, others.1)

items_taken : {A : Type 0} (Spells : Format A) (read : Read A) → Meets Spells read → (n : ℕ) (bytes : List ℕ) (xs : List A) (rest : List ℕ) → items_at read n bytes ≡ Some (xs, rest) → (text : List ℕ) × (bytes ≡ text ++ rest) × AreItems Spells n text xs
unfolding items_at
items_taken Spells read m zero bytes xs rest e = let p = some_pair [] xs bytes rest e in rw (← p.0, p.1) ([], refl, (refl, refl))
items_taken Spells read m (suc n) bytes xs rest e =
    let s = bind_is (read bytes) (λ first. items_at read n first.1 >>= cons_at first.0) (xs, rest) e in
    let t = bind_is (items_at read n s.0.1) (cons_at s.0.0) (xs, rest) s.2 in
    let p = some_pair (s.0.0 ∷ t.0.0) xs t.0.1 rest t.2 in
    let u = m.parses bytes s.0.0 s.0.1 s.1 in
    let v = items_taken Spells read m n s.0.1 t.0.0 t.0.1 t.1 in
    rw (← p.0) (u.0 ++ v.0, u.1 ∙ ap (λ (r : List ℕ). u.0 ++ r) v.1 ∙ sym (append_assoc u.0 v.0 t.0.1) ∙ ap (λ (r : List ℕ). (u.0 ++ v.0) ++ r) p.1, ((u.0, v.0, refl, u.2, v.2.0), ap suc v.2.1))

items_again : {A : Type 0} (Spells : Format A) (read : Read A) → Meets Spells read → (xs : List A) (text rest : List ℕ) → SpellsItems Spells text xs → items_at read (length xs) (text ++ rest) ≡ Some (xs, rest)
unfolding items_at
items_again Spells read m [] text rest s = rw s refl
items_again Spells read m (x ∷ xs) text rest s =
    let cut : text ++ rest ≡ s.0 ++ (s.1 ++ rest) = ap (λ (r : List ℕ). r ++ rest) s.2 ∙ append_assoc s.0 s.1 rest in
    ap (λ (r : List ℕ). read r >>= λ first. items_at read (length xs) first.1 >>= cons_at first.0) cut
    ∙ bind_some (read (s.0 ++ (s.1 ++ rest))) _ (x, s.1 ++ rest) (m.again s.0 x (s.1 ++ rest) s.3)
    ∙ bind_some (items_at read (length xs) (s.1 ++ rest)) _ (xs, rest) (items_again Spells read m xs s.1 rest s.4)

pub items_meet : {A : Type 0} (Spells : Format A) (read : Read A) → Meets Spells read → (n : ℕ) → Meets (AreItems Spells n) (items_at read n)
items_meet Spells read m n = record {
  parses = items_taken Spells read m n;
  again = λ text xs rest s. rw (← s.1) (items_again Spells read m xs text rest s.0);
}

pub vector_meets : {A : Type 0} (Spells : Format A) (read : Read A) → Meets Spells read → Meets (SpellsVector Spells) (vector_at read)
unfolding vector_at
vector_meets Spells read m =
    same_meets (Joined (SpellsNumber 32) (AreItems Spells)) (SpellsVector Spells) (vector_at read)
    (bind_meets (SpellsNumber 32) (number_at 32) (AreItems Spells) (items_at read) (number_meets 32) (items_meet Spells read m))
    (λ bytes xs j. (j.1, j.2, j.3, rw (← j.5.1) at j.4, j.5.0))
    (λ bytes xs s. (length xs, s.0, s.1, s.2, s.3, (s.4, refl)))

-- a thing that may be left out, as a flag says
abbrev pub IsOptional : {A : Type 0} → Format A → Bool → Format (Option A)
IsOptional Spells there bytes o = SpellsOptional Spells bytes o × (is_some o ≡ there)

optional_again : {A : Type 0} (Spells : Format A) (read : Read A) → Meets Spells read → (there : Bool) (text : List ℕ) (o : Option A) (rest : List ℕ) → SpellsOptional Spells text o → is_some o ≡ there → optional_at there read (text ++ rest) ≡ Some (o, rest)
optional_again Spells read m there text None rest s e = rw (← e, s) refl
optional_again Spells read m there text (Some x) rest s e = rw (← e) (bind_some (read (text ++ rest)) _ (x, rest) (m.again text x rest s))

optional_taken : {A : Type 0} (Spells : Format A) (read : Read A) → Meets Spells read → (there : Bool) (bytes : List ℕ) (o : Option A) (rest : List ℕ) → optional_at there read bytes ≡ Some (o, rest) → (text : List ℕ) × (bytes ≡ text ++ rest) × IsOptional Spells there text o
optional_taken Spells read m false bytes o rest e = let p = some_pair None o bytes rest e in rw (← p.0, p.1) ([], refl, (refl, refl))
optional_taken {A} Spells read m true bytes o rest e =
    let s = bind_is (read bytes) (made_at Some) (o, rest) e in
    let p = some_pair (Some s.0.0) o s.0.1 rest s.2 in
    let t = m.parses bytes s.0.0 s.0.1 s.1 in
    (t.0, t.1 ∙ ap (λ (r : List ℕ). t.0 ++ r) p.1, subst (λ (v : Option A). IsOptional Spells true t.0 v) p.0 (t.2, refl))

pub optional_meets : {A : Type 0} (Spells : Format A) (read : Read A) → Meets Spells read → (there : Bool) → Meets (IsOptional Spells there) (optional_at there read)
optional_meets Spells read m there = record { parses = optional_taken Spells read m there; again = λ text o rest s. optional_again Spells read m there text o rest s.0 s.1 }

-- one byte for one value

abbrev pub Coded : {A : Type 0} → (A → ℕ) → Format A
Coded code bytes x = bytes ≡ code x ∷ []

abbrev with_rest : {A : Type 0} → List ℕ → A → Option (A × List ℕ)
with_rest rest x = Some (x, rest)

pub coded_meets : {A : Type 0} (code : A → ℕ) (value : ℕ → Option A) → ((x : A) → value (code x) ≡ Some x) → ((b : ℕ) (x : A) → value b ≡ Some x → b ≡ code x) → Meets (Coded code) (coded_at value)
coded_meets code value there back = record {
  parses = λ bytes x rest e.
      let s = bind_is (byte_at bytes) (λ b. value b.0 >>= with_rest b.1) (x, rest) e in
      let t = bind_is (value s.0.0) (with_rest s.0.1) (x, rest) s.2 in
      let p = some_pair t.0 x s.0.1 rest t.2 in
      let u = byte_meets.parses bytes s.0.0 s.0.1 s.1 in
      let is : s.0.0 ≡ code x = back s.0.0 t.0 t.1 ∙ ap code p.0 in
      (u.0, u.1 ∙ ap (λ (r : List ℕ). u.0 ++ r) p.1, u.2 ∙ ap (λ (n : ℕ). n ∷ []) is);
  again = λ text x rest s.
      rw s (bind_some (value (code x)) (with_rest rest) x (there x));
}

-- a choice by a number
pub choice_meets : {A : Type 0} (Spells : Format A) (b n : ℕ) (one other : Read A) → (b ≡ n → Meets Spells one) → ((b ≡ n → ⊥) → Meets Spells other) → Meets Spells (λ bytes. if b == n then one bytes else other bytes)
choice_meets Spells b n one other y z = by (b == n) refl
  where
    by : (test : Bool) → (b == n) ≡ test → Meets Spells (λ bytes. if b == n then one bytes else other bytes)
    by true e = rw e (y (eqb-true b n e))
    by false e = rw e (z (λ same. false≢true (sym e ∙ eq-eqb b n same)))

-- nothing is read, and nothing is spelled
pub none_meets : {A : Type 0} (Spells : Format A) → ((bytes : List ℕ) (x : A) → Spells bytes x → ⊥) → Meets Spells (λ _. None)
none_meets Spells nothing = record { parses = λ bytes x rest e. absurd cc; again = λ text x rest s. absurd (nothing text x s) }

-- a reading function that looks at the first byte before it reads
pub peek_meets : {A : Type 0} (Spells : Format A) (read : ℕ → Read A) → ((x : A) → Spells [] x → ⊥)
    → ((b : ℕ) (bytes : List ℕ) (x : A) (rest : List ℕ) → read b (b ∷ bytes) ≡ Some (x, rest) → (text : List ℕ) × (b ∷ bytes ≡ text ++ rest) × Spells text x)
    → ((b : ℕ) (text : List ℕ) (x : A) (rest : List ℕ) → Spells (b ∷ text) x → read b (b ∷ (text ++ rest)) ≡ Some (x, rest))
    → Meets Spells (λ bytes. byte_at bytes >>= λ b. read b.0 bytes)
peek_meets {A} Spells read some taken back = record { parses = there; again = here }
  where
    there : (bytes : List ℕ) (x : A) (rest : List ℕ) → (byte_at bytes >>= λ b. read b.0 bytes) ≡ Some (x, rest) → (text : List ℕ) × (bytes ≡ text ++ rest) × Spells text x
    there [] x rest e = absurd (some_none (x, rest) (sym e))
    there (b ∷ bytes) x rest e = taken b bytes x rest e

    here : (text : List ℕ) (x : A) (rest : List ℕ) → Spells text x → (byte_at (text ++ rest) >>= λ b. read b.0 (text ++ rest)) ≡ Some (x, rest)
    here [] x rest s = absurd (some x s)
    here (b ∷ text) x rest s = back b text x rest s

pub chosen : {A : Type 0} (c : Bool) (x y z : A) → (if c then x else y) ≡ z → ((c ≡ true) × (x ≡ z)) ⊎ ((c ≡ false) × (y ≡ z))
chosen true x y z e = inl (refl, e)
chosen false x y z e = inr (refl, e)
