-- Functions that are listed under what they call.
use Rattle.std.proofs.Common.{◌≡◌, ℕ, ◌+◌, ◌-◌, ◌<◌, Bool, true, false, cond, List, [], ◌∷◌, ◌++◌, length, take, get_or, Option, Some, None, nat_eq, ◌||◌, refl, sym, ◌∙◌, ap, arith}
use Rattle.std.specs.List.{slice_get}
use Rattle.std.specs.Map.{lookup}
use Rattle.std.specs.Option.{option_map_or}
use Rattle.std.specs.declared.alloc.Global.{Global}
use Rattle.std.specs.declared.vec.Vec.{Vec}
use Rattle.std.proofs.lemmas.Bool.{and_parts, eqb-true}
use Rattle.std.proofs.lemmas.Cmp.{nat_eq_equiv}
use Rattle.std.proofs.lemmas.List.{length-append, map-append, take_more}
use Rattle.std.proofs.lemmas.List.Folds.{list_any-append}
use Rattle.wc_read.specs.Operators.{instr_value, instr_values}
use Rattle.wc_read.specs.declared.operators.Instr.{Instr}
use Rattle.wc_paths.specs.CallLists.{CallKey, CallLists, is_call_key, listed}
use Rattle.wc_paths.specs.Private.CallLists.{ListsUnder, call_key, have_call, is_call, is_last, with_last}

-- a number that is last is not put there again

pub nat_eq_same : (n : ℕ) → nat_eq n n ≡ true
nat_eq_same n = nat_eq_equiv.refl n

long : (xs : List ℕ) (n : ℕ) → length (xs ++ n ∷ []) - 1 ≡ length xs
long xs n = let l = length-append xs (n ∷ []) in omega (arith, l)

at_end : (xs : List ℕ) (n : ℕ) → slice_get (xs ++ n ∷ []) (length xs) ≡ Some n
at_end [] n = refl
at_end (x ∷ xs) n = at_end xs n

last_pushed : (xs : List ℕ) (n : ℕ) → slice_get (xs ++ n ∷ []) (length (xs ++ n ∷ []) - 1) ≡ Some n
last_pushed xs n = ap (slice_get (xs ++ n ∷ [])) (long xs n) ∙ at_end xs n

is_last_pushed : (xs : List ℕ) (n : ℕ) → is_last (xs ++ n ∷ []) n ≡ true
is_last_pushed xs n = ap (λ o. option_map_or (nat_eq n) o false) (last_pushed xs n) ∙ nat_eq_same n

with_last_twice : (n : ℕ) (xs : List ℕ) → with_last n (with_last n xs) ≡ with_last n xs
with_last_twice n xs = by (is_last xs n) refl where
  by : (b : Bool) → is_last xs n ≡ b → with_last n (cond b xs (xs ++ n ∷ [])) ≡ cond b xs (xs ++ n ∷ [])
  by true e = ap (λ z. cond z xs (xs ++ n ∷ [])) e
  by false e = ap (λ z. cond z (xs ++ n ∷ []) ((xs ++ n ∷ []) ++ n ∷ [])) (is_last_pushed xs n)

pub last_kept : (xs : List ℕ) (n : ℕ) → is_last xs n ≡ true → xs ≡ with_last n xs
last_kept xs n e = sym (ap (λ z. cond z xs (xs ++ n ∷ [])) e)

pub last_put : (xs new : List ℕ) (n : ℕ) → is_last xs n ≡ false → new ≡ xs ++ n ∷ [] → new ≡ with_last n xs
last_put xs new n e is = is ∙ sym (ap (λ z. cond z xs (xs ++ n ∷ [])) e)

-- lists by keys

pub key_same : (a b : CallKey) → is_call_key a b ≡ true → a ≡ b
key_same (a, c) (b, d) e =
    let both = and_parts (nat_eq a b) (nat_eq c d) e in ap (λ z. (z, c)) (eqb-true a b both.0) ∙ ap (λ z. (b, z)) (eqb-true c d both.1)

pub list_put : (old new : CallLists) (k : CallKey) (n : ℕ) (w : Vec ℕ Global)
    → ((q : CallKey) → lookup (is_call_key q) new ≡ cond (is_call_key k q) (Some w) (lookup (is_call_key q) old))
    → w.items ≡ with_last n (listed old k) → ListsUnder (is_call_key k) n old new
list_put old new k n w at is q = by (is_call_key k q) refl where
  by : (b : Bool) → is_call_key k q ≡ b → listed new q ≡ cond b (with_last n (listed old q)) (listed old q)
  by true e =
      ap (λ (o : Option (Vec ℕ Global)). option_map_or (λ (v : Vec ℕ Global). v.items) o [])
      (at q ∙ ap (λ z. cond z (Some w) (lookup (is_call_key q) old)) e) ∙ (is ∙ ap (λ z. with_last n (listed old z)) (key_same k q e))
  by false e =
      ap (λ (o : Option (Vec ℕ Global)). option_map_or (λ (v : Vec ℕ Global). v.items) o [])
      (at q ∙ ap (λ z. cond z (Some w) (lookup (is_call_key q) old)) e)

pub list_found : (old : CallLists) (k : CallKey) (v w : Vec ℕ Global) (n : ℕ) → lookup (is_call_key k) old ≡ Some v → w.items ≡ with_last n v.items
    → w.items ≡ with_last n (listed old k)
list_found old k v w n found is = is ∙ sym (ap (λ (o : Option (Vec ℕ Global)). with_last n (option_map_or (λ (v : Vec ℕ Global). v.items) o [])) found)

pub list_begun : (old : CallLists) (k : CallKey) (w : Vec ℕ Global) (n : ℕ) → lookup (is_call_key k) old ≡ None → w.items ≡ n ∷ []
    → w.items ≡ with_last n (listed old k)
list_begun old k w n none is = is ∙ sym (ap (λ (o : Option (Vec ℕ Global)). with_last n (option_map_or (λ (v : Vec ℕ Global). v.items) o [])) none)

-- operators one after another

pub lists_none : (firsts : List ℕ) (n : ℕ) (lists : CallLists) → ListsUnder (λ q. have_call firsts q []) n lists lists
lists_none firsts n lists q = refl

pub have_more : (firsts : List ℕ) (q : CallKey) (is : List Instr) (i : ℕ) (d : Instr) → i < length is
    → have_call firsts q (instr_values (take (i + 1) is)) ≡ (have_call firsts q (instr_values (take i is)) || is_call firsts q (instr_value (get_or is i d)))
have_more firsts q is i d lt =
    ap (λ z. have_call firsts q (instr_values z)) (take_more is i d lt)
    ∙ (ap (have_call firsts q) (map-append instr_value (take i is) (get_or is i d ∷ []))
    ∙ (list_any-append (is_call firsts q) (instr_values (take i is)) (instr_value (get_or is i d) ∷ [])
    ∙ or_none (have_call firsts q (instr_values (take i is))) (is_call firsts q (instr_value (get_or is i d))))) where
      or_none : (a b : Bool) → (a || (b || false)) ≡ (a || b)
      or_none true b = refl
      or_none false true = refl
      or_none false false = refl

put_more : (n : ℕ) (xs : List ℕ) (a b : Bool) → cond b (with_last n (cond a (with_last n xs) xs)) (cond a (with_last n xs) xs) ≡ cond (a || b) (with_last n xs) xs
put_more n xs true true = with_last_twice n xs
put_more n xs true false = refl
put_more n xs false true = refl
put_more n xs false false = refl

-- an operator that calls, after others
pub lists_more : (firsts : List ℕ) (is : List Instr) (i : ℕ) (d : Instr) (n : ℕ) (k : CallKey) (first old new : CallLists) → i < length is
    → call_key firsts (instr_value (get_or is i d)).immediates ≡ Some k → ListsUnder (λ q. have_call firsts q (instr_values (take i is))) n first old
    → ListsUnder (is_call_key k) n old new → ListsUnder (λ q. have_call firsts q (instr_values (take (i + 1) is))) n first new
lists_more firsts is i d n k first old new lt at h put q =
    put q
    ∙ (ap (λ z. cond (is_call_key k q) (with_last n z) z) (h q)
    ∙ (put_more n (listed first q) (have_call firsts q (instr_values (take i is))) (is_call_key k q)
    ∙ ap (λ z. cond z (with_last n (listed first q)) (listed first q))
    (ap (λ (o : Option CallKey). have_call firsts q (instr_values (take i is)) || option_map_or (λ (j : CallKey). is_call_key j q) o false) (sym at)
    ∙ sym (have_more firsts q is i d lt))))

-- one that does not
pub lists_kept : (firsts : List ℕ) (is : List Instr) (i : ℕ) (d : Instr) (n : ℕ) (first old : CallLists) → i < length is
    → call_key firsts (instr_value (get_or is i d)).immediates ≡ None → ListsUnder (λ q. have_call firsts q (instr_values (take i is))) n first old
    → ListsUnder (λ q. have_call firsts q (instr_values (take (i + 1) is))) n first old
lists_kept firsts is i d n first old lt at h q =
    h q
    ∙ ap (λ z. cond z (with_last n (listed first q)) (listed first q))
    (sym (or_false (have_call firsts q (instr_values (take i is))))
    ∙ (ap (λ (o : Option CallKey). have_call firsts q (instr_values (take i is)) || option_map_or (λ (j : CallKey). is_call_key j q) o false) (sym at)
    ∙ sym (have_more firsts q is i d lt))) where
      or_false : (a : Bool) → (a || false) ≡ a
      or_false true = refl
      or_false false = refl
