-- The future or stream at an index of a list that is not made: what the search keeps.
use Rattle.std.proofs.Common.{◌≡◌, ℕ, zero, suc, ◌+◌, ◌-◌, ◌<◌, ◌≤◌, ◌^◌, min, Bool, true, false, String, List, [], ◌∷◌, ◌++◌, length, drop, get_or, Option, Some, refl, sym, ap, ◌∙◌, inl, inr, arith, add-one, append_assoc, append-nil, drop-cons, length-append, subst, take}
use Rattle.std.specs.List.{All, Contains, flat_map, slice_get}
use Rattle.std.specs.Option.{IfSome, option_map_or}
use Rattle.std.specs.declared.alloc.Global.{Global}
use Rattle.std.proofs.Math.ListN.{drop_of_length-le}
use Rattle.std.proofs.lemmas.List.{take_all}
use Rattle.std.proofs.lemmas.Grind.{flat_map-append}
use Rattle.std.proofs.lemmas.List.Folds.{flat_map-map}
use Rattle.std.proofs.lemmas.Option.{slice_get-get_or, slice_get_within}
use Rattle.std.specs.Rc.{rc_slice_items}
use Rattle.wc_resolve.specs.declared.functions.Function.{Function}
use Rattle.wc_resolve.specs.declared.ids.TypeId.{TypeId}
use Rattle.wc_resolve.specs.declared.types.WitType.{WitType}
use Rattle.wc_resolve.specs.Ranges.{IsFunctionIn, IsTypeIn}
use Rattle.wc_resolve.specs.Views.{FunctionView, TypeView, function_view}
use Rattle.wc_texts.specs.Names.{named_view}
use Rattle.wc_resolve.specs.Kinds.{SignatureHasOnly}
use Rattle.wc_resolve.specs.Roots.{indices, param_roots, passed_roots, type_roots}
use Rattle.wc_resolve.specs.Live.{listing_of}
use Rattle.wc_resolve.specs.Futures.{EntryView, IsFuturesEntry, IsPartWith, ends_of, futures_from, futures_of, itself}
use Rattle.wc_maps.proofs.ListLemmas.{contains_none, contains_cons, contains_head, contains_tail}
use Rattle.wc_resolve.proofs.ViewedLemmas.{all_unviewed}

-- so much of a list was passed over that an index in all of it is this one in the rest
pub record IsPassed (all rest : List ℕ) (n left : ℕ) : Type 0 where
  pub front : List ℕ
  pub split : all ≡ front ++ rest
  pub at : n ≡ length front + left

pub passed_start : (all : List ℕ) (n : ℕ) → IsPassed all all n n
passed_start all n = record { front = []; split = refl; at = omega arith }

slice_get_front : (xs ys : List ℕ) (i : ℕ) → i < length xs → slice_get (xs ++ ys) i ≡ slice_get xs i
slice_get_front [] ys i small = absurd (omega (arith, small))
slice_get_front (x ∷ xs) ys zero small = refl
slice_get_front (x ∷ xs) ys (suc i) small = slice_get_front xs ys i (omega (arith, small))

slice_get_after : (xs ys : List ℕ) (i : ℕ) → slice_get (xs ++ ys) (length xs + i) ≡ slice_get ys i
slice_get_after [] ys i = ap (slice_get ys) (let e : 0 + i ≡ i = omega arith in e)
slice_get_after (x ∷ xs) ys i = ap (slice_get (x ∷ (xs ++ ys))) (let e : suc (length xs) + i ≡ suc (length xs + i) = omega arith in e) ∙ slice_get_after xs ys i

-- the index is in the next part
pub passed_found : (all rest part more : List ℕ) (n left : ℕ) → IsPassed all rest n left → rest ≡ part ++ more → left < length part → slice_get all n ≡ slice_get part left
passed_found all rest part more n left p e small =
    ap (λ z. slice_get z n) p.split ∙ ap (slice_get (p.front ++ rest)) p.at ∙ slice_get_after p.front rest left
    ∙ ap (λ z. slice_get z left) e ∙ slice_get_front part more left small

-- or after it
pub passed_more : (all rest part more : List ℕ) (n left : ℕ) → IsPassed all rest n left → rest ≡ part ++ more → length part ≤ left → IsPassed all more n (left - length part)
passed_more all rest part more n left p e past = record {
  front = p.front ++ part;
  split = p.split ∙ ap (λ z. p.front ++ z) e ∙ sym (append_assoc p.front part more);
  at = (let both = length-append p.front part in let at = p.at in omega (arith, both, at, past));
}

pub passed_left : (all rest : List ℕ) (n left : ℕ) → IsPassed all rest n left → left ≤ n
passed_left all rest n left p = let at = p.at in omega (arith, at)

-- the last part
pub passed_rest : (all rest : List ℕ) (n left : ℕ) → IsPassed all rest n left → slice_get all n ≡ slice_get rest left
passed_rest all rest n left p = ap (λ z. slice_get z n) p.split ∙ ap (slice_get (p.front ++ rest)) p.at ∙ slice_get_after p.front rest left

-- a count that is small enough is the length
pub counted_more : (count m left : ℕ) → count ≡ min m (2 ^ 64 - 1) → left < 2 ^ 32 → count ≤ left → count ≡ m
counted_more count m left e small past = omega (arith, e, small, past)

pub counted_less : (count m left : ℕ) → count ≡ min m (2 ^ 64 - 1) → left < count → left < m
counted_less count m left e less = omega (arith, e, less)

-- from a type to one of its parts
pub part_entered : (types : List TypeView) (x part n m : ℕ) (entry : EntryView) → IsFuturesEntry types x entry → slice_get (futures_from types (indices entry.parts)) n ≡ slice_get (futures_of types part) m
    → m < length (futures_of types part) → slice_get (futures_of types x) n ≡ slice_get (futures_of types part) m
part_entered types x part n m entry kept e small =
    let read : slice_get (futures_of types part) m ≡ Some (get_or (futures_of types part) m 0) = slice_get-get_or (futures_of types part) m 0 small in
    let within : n < length (futures_from types (indices entry.parts)) = slice_get_within (futures_from types (indices entry.parts)) n (get_or (futures_of types part) m 0) (e ∙ read) in
    ap (λ z. slice_get z n) kept.made ∙ slice_get_front (futures_from types (indices entry.parts)) (itself entry.is_carrier x) n within ∙ e

-- after all parts is the type itself
itself_at : (types : List TypeView) (x n : ℕ) (front : List ℕ) (carrier : Bool) → futures_of types x ≡ front ++ itself carrier x → length front ≤ n → n < length (futures_of types x)
    → slice_get (futures_of types x) n ≡ Some x
itself_at types x n front true made past small =
    let total : length (futures_of types x) ≡ length front + 1 = ap length made ∙ length-append front (x ∷ []) in
    let here : n ≡ length front + 0 = omega (arith, total, past, small) in
    ap (λ z. slice_get z n) made ∙ ap (slice_get (front ++ x ∷ [])) here ∙ slice_get_after front (x ∷ []) 0
itself_at types x n front false made past small =
    let total : length (futures_of types x) ≡ length front = ap length (made ∙ append-nil front) in
    absurd (omega (arith, total, past, small))

pub type_reached : (types : List TypeView) (x n : ℕ) (entry : EntryView) → IsFuturesEntry types x entry → length (futures_from types (indices entry.parts)) ≤ n → n < length (futures_of types x)
    → slice_get (futures_of types x) n ≡ Some x
type_reached types x n entry kept past small = itself_at types x n (futures_from types (indices entry.parts)) entry.is_carrier kept.made past small

one_of : (f : ℕ → List ℕ) (xs : List ℕ) (x : ℕ) → Contains xs x → length (f x) ≤ length (flat_map f xs)
one_of f [] x h = absurd (contains_none x h)
one_of f (y ∷ xs) x h =
    let all = length-append (f y) (flat_map f xs) in
    elim (contains_cons y xs x h) [
      | inl same ↦ (let e : length (f y) ≡ length (f x) = ap (λ z. length (f z)) same in omega (arith, all, e))
      | inr later ↦ (let rest = one_of f xs x later in omega (arith, all, rest))
    ]

pub part_shorter : (types : List TypeView) (x part : ℕ) (entry : EntryView) → IsFuturesEntry types x entry → Contains (indices entry.parts) part → length (listing_of types part) < length (listing_of types x)
part_shorter types x part entry kept h =
    let one = one_of (listing_of types) (indices entry.parts) part h in
    let less = kept.shorter in
    omega (arith, one, less)

-- parts that are left

pub part_there : (parts : List TypeId) (i : ℕ) (d : TypeId) → i < length parts → Contains (indices parts) (get_or parts i d).0
part_there [] i d small = absurd (omega (arith, small))
part_there (p ∷ parts) zero d small = contains_head (indices parts) p.0
part_there (p ∷ parts) (suc i) d small = contains_tail p.0 (indices parts) (get_or parts i d).0 (part_there parts i d (omega (arith, small)))

pub parts_next : (types : List TypeView) (parts : List TypeId) (i : ℕ) (d : TypeId) → i < length parts
    → futures_from types (indices (drop i parts)) ≡ futures_of types (get_or parts i d).0 ++ futures_from types (indices (drop (i + 1) parts))
parts_next types parts i d small = rw (add-one i) (ap (λ z. futures_from types (indices z)) (drop-cons parts i d small))

pub next_read : (types : List TypeView) (parts : List TypeId) (i : ℕ) (part : TypeId) → i < length parts → part ≡ get_or parts i part
    → futures_from types (indices (drop i parts)) ≡ futures_of types part.0 ++ futures_from types (indices (drop (i + 1) parts))
next_read types parts i part small read =
    parts_next types parts i part small ∙ ap (λ (z : TypeId). futures_of types z.0 ++ futures_from types (indices (drop (i + 1) parts))) (sym read)

-- parts by how many there are up to each

pub parts_split : (types : List TypeView) (i : ℕ) (parts : List TypeId) → futures_from types (indices parts) ≡ futures_from types (indices (take i parts)) ++ futures_from types (indices (drop i parts))
parts_split types zero parts = refl
parts_split types (suc i) [] = refl
parts_split types (suc i) (p ∷ parts) =
    ap (λ z. futures_of types p.0 ++ z) (parts_split types i parts)
    ∙ sym (append_assoc (futures_of types p.0) (futures_from types (indices (take i parts))) (futures_from types (indices (drop i parts))))

-- how many there are before a part
abbrev pub passed_length : List TypeView → List TypeId → ℕ → ℕ
passed_length types parts i = length (futures_from types (indices (take i parts)))

pub end_at : (types : List TypeView) (parts : List TypeId) (i b c : ℕ) → c ≡ min b (2 ^ 64 - 1) → i ≤ length parts → get_or (c ∷ ends_of types b parts) i 0 ≡ min (b + passed_length types parts i) (2 ^ 64 - 1)
end_at types parts zero b c e small = omega (arith, e)
end_at types [] (suc i) b c e small = absurd (omega (arith, small))
end_at types (p ∷ parts) (suc i) b c e small =
    let l = length (futures_of types p.0) in
    let rest : get_or (min (b + l) (2 ^ 64 - 1) ∷ ends_of types (b + l) parts) i 0 ≡ min ((b + l) + passed_length types parts i) (2 ^ 64 - 1) =
    end_at types parts i (b + l) (min (b + l) (2 ^ 64 - 1)) refl (omega (arith, small)) in
    let both = length-append (futures_of types p.0) (futures_from types (indices (take i parts))) in
    rest ∙ ap (λ z. min z (2 ^ 64 - 1)) (let sum : (b + l) + passed_length types parts i ≡ b + passed_length types (p ∷ parts) (suc i) = omega (arith, both) in sum)

passed_next : (types : List TypeView) (parts : List TypeId) (i : ℕ) (d : TypeId) → i < length parts → passed_length types parts (suc i) ≡ passed_length types parts i + length (futures_of types (get_or parts i d).0)
passed_next types [] i d small = absurd (omega (arith, small))
passed_next types (p ∷ parts) zero d small = (let both = length-append (futures_of types p.0) [] in omega (arith, both))
passed_next types (p ∷ parts) (suc i) d small =
    let rest = passed_next types parts i d (omega (arith, small)) in
    let one = length-append (futures_of types p.0) (futures_from types (indices (take i parts))) in
    let more = length-append (futures_of types p.0) (futures_from types (indices (take (suc i) parts))) in
    omega (arith, rest, one, more)

uncapped : (c m n : ℕ) → c ≡ min (0 + m) (2 ^ 64 - 1) → c ≤ n → n < 2 ^ 32 → c ≡ m
uncapped c m n e low small = omega (arith, e, low, small)

below_cap : (c m n : ℕ) → c ≡ min (0 + m) (2 ^ 64 - 1) → n < c → n < m
below_cap c m n e more = omega (arith, e, more)

-- how many there are before a part, by the ends
pub end_passed : (types : List TypeView) (parts : List TypeId) (ends : List ℕ) (i n : ℕ) → ends ≡ ends_of types 0 parts → i ≤ length parts → get_or (0 ∷ ends) i 0 ≤ n → n < 2 ^ 32
    → get_or (0 ∷ ends) i 0 ≡ passed_length types parts i
end_passed types parts ends i n ended small low bound =
    uncapped (get_or (0 ∷ ends) i 0) (passed_length types parts i) n (ap (λ (z : List ℕ). get_or (0 ∷ z) i 0) ended ∙ end_at types parts i 0 0 refl small) low bound

pub ends_length : (types : List TypeView) (parts : List TypeId) (b : ℕ) → length (ends_of types b parts) ≡ length parts
ends_length types [] b = refl
ends_length types (p ∷ parts) b = ap suc (ends_length types parts (b + length (futures_of types p.0)))

-- the part that has an index among those of some types
pub record IsPartAt (types : List TypeView) (parts : List TypeId) (n : ℕ) (part : TypeId) (left : ℕ) : Type 0 where
  pub there : Contains (indices parts) part.0
  pub low : left ≤ n
  pub more : left < length (futures_of types part.0)
  pub same : slice_get (futures_from types (indices parts)) n ≡ slice_get (futures_of types part.0) left

pub part_at : (types : List TypeView) (parts : List TypeId) (ends : List ℕ) (i n left : ℕ) (part : TypeId) → ends ≡ ends_of types 0 parts → i < length parts → part ≡ get_or parts i part → n < 2 ^ 32
    → get_or (0 ∷ ends) i 0 ≤ n → n < get_or ends i 0 → left ≡ n - get_or (0 ∷ ends) i 0 → IsPartAt types parts n part left
part_at types parts ends i n left part ended small read bound low next left_is =
    let before : get_or (0 ∷ ends) i 0 ≡ passed_length types parts i = end_passed types parts ends i n ended (omega (arith, small)) low bound in
    let end : get_or ends i 0 ≡ min (0 + passed_length types parts (suc i)) (2 ^ 64 - 1) =
    ap (λ (z : List ℕ). get_or (0 ∷ z) (suc i) 0) ended ∙ end_at types parts (suc i) 0 0 refl (omega (arith, small)) in
    let above : n < passed_length types parts (suc i) = below_cap (get_or ends i 0) (passed_length types parts (suc i)) n end next in
    let grown : passed_length types parts (suc i) ≡ passed_length types parts i + length (futures_of types part.0) =
    passed_next types parts i part small ∙ ap (λ (z : TypeId). passed_length types parts i + length (futures_of types z.0)) (sym read) in
    let more : left < length (futures_of types part.0) = omega (arith, before, above, grown, left_is, low) in
    let passed : IsPassed (futures_from types (indices parts)) (futures_from types (indices (drop i parts))) n left = record {
      front = futures_from types (indices (take i parts));
      split = parts_split types i parts;
      at = omega (arith, before, left_is, low);
    } in
    record {
      there = subst (λ (z : TypeId). Contains (indices parts) z.0) (sym read) (part_there parts i part small);
      low = omega (arith, left_is);
      more = more;
      same = passed_found (futures_from types (indices parts)) (futures_from types (indices (drop i parts))) (futures_of types part.0) (futures_from types (indices (drop (i + 1) parts))) n left passed
          (next_read types parts i part small read) more;
    }

-- the part that has an index of a type
pub part_found : (types : List TypeView) (x : ℕ) (entry : EntryView) (i n left : ℕ) (part : TypeId) → IsFuturesEntry types x entry → i < length entry.parts → part ≡ get_or entry.parts i part → n < 2 ^ 32
    → get_or (0 ∷ entry.ends) i 0 ≤ n → n < get_or entry.ends i 0 → left ≡ n - get_or (0 ∷ entry.ends) i 0 → IsPartWith types x n part.0 left
part_found types x entry i n left part kept small read bound low next left_is =
    let at : IsPartAt types entry.parts n part left = part_at types entry.parts entry.ends i n left part kept.ended small read bound low next left_is in
    record {
      within = kept.within part.0 at.there;
      shorter = part_shorter types x part.0 entry kept at.there;
      low = at.low;
      more = at.more;
      same = part_entered types x part.0 n left entry kept at.same at.more;
    }

-- all parts are passed
pub all_passed : (types : List TypeView) (parts : List TypeId) (ends : List ℕ) (i n : ℕ) → ends ≡ ends_of types 0 parts → i ≤ length ends → length parts ≤ i → n < 2 ^ 32 → get_or (0 ∷ ends) i 0 ≤ n
    → length (futures_from types (indices parts)) ≤ n
all_passed types parts ends i n ended within past bound low =
    let same : length ends ≡ length parts = ap (λ (z : List ℕ). length z) ended ∙ ends_length types parts 0 in
    let before : get_or (0 ∷ ends) i 0 ≡ passed_length types parts i = end_passed types parts ends i n ended (omega (arith, same, within)) low bound in
    let all : passed_length types parts i ≡ length (futures_from types (indices parts)) = ap (λ (z : List TypeId). length (futures_from types (indices z))) (take_all i parts past) in
    omega (arith, before, all, low)

pub parts_passed : (types : List TypeView) (x : ℕ) (entry : EntryView) (i n : ℕ) → IsFuturesEntry types x entry → i ≤ length entry.ends → length entry.parts ≤ i → n < 2 ^ 32
    → get_or (0 ∷ entry.ends) i 0 ≤ n → n < length (futures_of types x) → slice_get (futures_of types x) n ≡ Some x
parts_passed types x entry i n kept within past bound low small =
    type_reached types x n entry kept (all_passed types entry.parts entry.ends i n kept.ended within past bound low) small

-- parameters that are left, and a result after them

pub params_next : (types : List TypeView) (params : List (String Global × WitType)) (after : List ℕ) (i : ℕ) (e : String Global × WitType) → i < length params → e ≡ get_or params i e
    → futures_from types (param_roots (drop i params) ++ after) ≡ futures_from types (type_roots e.1) ++ futures_from types (param_roots (drop (i + 1) params) ++ after)
params_next types params after i e small read =
    let next : drop i params ≡ e ∷ drop (i + 1) params = rw (add-one i) (drop-cons params i e small ∙ ap (λ z. z ∷ drop (suc i) params) (sym read)) in
    ap (λ z. futures_from types (param_roots z ++ after)) next ∙ ap (futures_from types) (append_assoc (type_roots e.1) (param_roots (drop (i + 1) params)) after)
    ∙ flat_map-append (futures_of types) (type_roots e.1) (param_roots (drop (i + 1) params) ++ after)

pub params_end : (types : List TypeView) (params : List (String Global × WitType)) (after : List ℕ) (i : ℕ) → length params ≤ i → futures_from types (param_roots (drop i params) ++ after) ≡ futures_from types after
params_end types params after i past = ap (λ z. futures_from types (param_roots z ++ after)) (drop_of_length-le params past)

pub outcome_end : (types : List TypeView) (params : List (String Global × WitType)) (outcome : Option WitType) (i n left : ℕ) → length params ≤ i
    → IsPassed (futures_from types (param_roots params ++ option_map_or type_roots outcome [])) (futures_from types (param_roots (drop i params) ++ option_map_or type_roots outcome [])) n left
    → slice_get (futures_from types (param_roots params ++ option_map_or type_roots outcome [])) n ≡ slice_get (futures_from types (option_map_or type_roots outcome [])) left
outcome_end types params outcome i n left past p =
    passed_rest (futures_from types (param_roots params ++ option_map_or type_roots outcome [])) (futures_from types (param_roots (drop i params) ++ option_map_or type_roots outcome [])) n left p
    ∙ ap (λ z. slice_get z left) (params_end types params (option_map_or type_roots outcome []) i past)

-- the roots of a function, before and after its names are read as bytes

pub passed_viewed : (f : Function) → passed_roots (function_view f) ≡ param_roots (rc_slice_items f.params) ++ option_map_or type_roots f.result []
passed_viewed f = ap (λ z. z ++ option_map_or type_roots f.result []) (flat_map-map (λ (p : List ℕ × WitType). type_roots p.1) named_view (rc_slice_items f.params))

pub signature_in : (n : ℕ) (f : FunctionView) → IsFunctionIn n f → SignatureHasOnly (IsTypeIn n) f
unfolding IsFunctionIn
signature_in n f h = h.1

pub params_in : (n : ℕ) (f : Function) → IsFunctionIn n (function_view f) → All (λ (p : String Global × WitType). IsTypeIn n p.1) (rc_slice_items f.params)
params_in n f h = all_unviewed named_view (λ (p : List ℕ × WitType). IsTypeIn n p.1) (rc_slice_items f.params) (signature_in n (function_view f) h).0

pub outcome_in : (n : ℕ) (f : Function) → IsFunctionIn n (function_view f) → IfSome f.result (IsTypeIn n)
outcome_in n f h = (signature_in n (function_view f) h).1
