-- The walk that puts each type after those that it refers to: what its progress, its steps and its order keep.
use Rattle.std.proofs.Common.{◌≡◌, ℕ, ◌+◌, ◌<◌, ◌≤◌, ◌⊎◌, zero, suc, List, [], ◌∷◌, ◌++◌, map, length, take, set, get_or, replicate, Option, Some, None, arith, refl, sym, ap, ◌∙◌, subst, inl, inr, add-zero, zero-add, append-nil, length-append, length-set, append_assoc}
use Rattle.std.specs.List.{Contains, range_with_len}
use Rattle.std.proofs.lemmas.List.FromFn.{length-range_with_len, get_or-range_with_len}
use Rattle.std.proofs.lemmas.Bool.{cases_eq, cases_lt}
use Rattle.std.proofs.lemmas.List.Elements.{Contains-append_left, Contains-append_right, Contains-append_cases, Contains-push, Contains-push_cases}
use Rattle.std.proofs.lemmas.List.{map-append, get_or-set_same, get_or-set_other, get_or_append_left, get_or_default, length-map, length-replicate, take-append-le}
use Rattle.std.proofs.Math.Seq.{take-append_seam, get_or-append_seam}
use Rattle.wc_maps.proofs.ListLemmas.{contains_cons, contains_head, contains_none, contains_tail}
use Rattle.wc_resolve.specs.Kinds.{Leads, refers, further, IsChildrenFirst}
use Rattle.wc_resolve.specs.declared.validate.order.Progress.{Progress}
use Rattle.wc_resolve.specs.declared.validate.order.Progress.TheVariants.{New, Open, Done}
use Rattle.wc_resolve.specs.declared.validate.order.IndexStep.{IndexStep}
use Rattle.wc_resolve.specs.declared.validate.order.IndexStep.TheVariants.{Enter, Leave}

abbrev pub target : IndexStep → ℕ
target (Enter x) = x
target (Leave x) = x

abbrev pub IsReferenced : (ℕ → List ℕ) → Option ℕ → ℕ → Type 0
IsReferenced next None x = Unit {0}
IsReferenced next (Some parent) x = Contains (next parent) x

-- the last type that is left by one of the steps, else the one before them
abbrev pub last_open : Option ℕ → List IndexStep → Option ℕ
last_open parent [] = parent
last_open parent (Enter x ∷ steps) = last_open parent steps
last_open parent (Leave x ∷ steps) = last_open (Some x) steps

-- each step's type is referred to by the last one before it that is left
abbrev pub IsChain : (ℕ → List ℕ) → Option ℕ → List IndexStep → Type 0
IsChain next parent [] = Unit {0}
IsChain next parent (Enter x ∷ steps) = IsReferenced next parent x × IsChain next parent steps
IsChain next parent (Leave x ∷ steps) = IsReferenced next parent x × IsChain next (Some x) steps

chain_front : (next : ℕ → List ℕ) (parent : Option ℕ) (xs ys : List IndexStep) → IsChain next parent (xs ++ ys) → IsChain next parent xs
chain_front next parent [] ys h = tt
chain_front next parent (Enter x ∷ xs) ys h = (h.0, chain_front next parent xs ys h.1)
chain_front next parent (Leave x ∷ xs) ys h = (h.0, chain_front next (Some x) xs ys h.1)

chain_back : (next : ℕ → List ℕ) (parent : Option ℕ) (xs ys : List IndexStep) → IsChain next parent (xs ++ ys) → IsChain next (last_open parent xs) ys
chain_back next parent [] ys h = h
chain_back next parent (Enter x ∷ xs) ys h = chain_back next parent xs ys h.1
chain_back next parent (Leave x ∷ xs) ys h = chain_back next (Some x) xs ys h.1

chain_join : (next : ℕ → List ℕ) (parent : Option ℕ) (xs ys : List IndexStep) → IsChain next parent xs → IsChain next (last_open parent xs) ys → IsChain next parent (xs ++ ys)
chain_join next parent [] ys h k = k
chain_join next parent (Enter x ∷ xs) ys h k = (h.0, chain_join next parent xs ys h.1 k)
chain_join next parent (Leave x ∷ xs) ys h k = (h.0, chain_join next (Some x) xs ys h.1 k)

chain_enters : (next : ℕ → List ℕ) (parent : ℕ) (xs : List ℕ) → ((c : ℕ) → Contains xs c → Contains (next parent) c) → IsChain next (Some parent) (map Enter xs)
chain_enters next parent [] h = tt
chain_enters next parent (x ∷ xs) h = (h x (contains_head xs x), chain_enters next parent xs (λ c k. h c (contains_tail x xs c k)))

chain_any : (next : ℕ → List ℕ) (xs : List ℕ) → IsChain next None (map Enter xs)
chain_any next [] = tt
chain_any next (x ∷ xs) = (tt, chain_any next xs)

-- a chain that begins with what a type refers to leads from the type to its last step's type
chain_leads : (next : ℕ → List ℕ) (parent : ℕ) (xs : List IndexStep) (x : ℕ) → IsChain next (Some parent) (xs ++ Enter x ∷ []) → Leads next parent x
chain_leads next parent [] x h = refers parent x h.0
chain_leads next parent (Enter y ∷ xs) x h = chain_leads next parent xs x h.1
chain_leads next parent (Leave y ∷ xs) x h = further parent y x h.0 (chain_leads next y xs x h.1)

-- entering a type that is open: a cycle
pub cycle_found : (next : ℕ → List ℕ) (parent : Option ℕ) (xs : List IndexStep) (x : ℕ) → IsChain next parent (xs ++ Enter x ∷ []) → Contains xs (Leave x) → Leads next x x
cycle_found next parent [] x h k = absurd (contains_none (Leave x) k)
cycle_found next parent (Enter y ∷ xs) x h k =
    elim (contains_cons (Enter y) xs (Leave x) k) [ inl same ↦ absurd (let e : ⊥ = cc same in e) | inr rest ↦ cycle_found next parent xs x h.1 rest ]
cycle_found next parent (Leave y ∷ xs) x h k =
    elim (contains_cons (Leave y) xs (Leave x) k) [
      | inl same ↦ (let e : y ≡ x = cc same in let P : ℕ → Type 0 = λ z. IsChain next (Some z) (xs ++ Enter x ∷ []) in chain_leads next x xs x (subst P e h.1))
      | inr rest ↦ cycle_found next (Some y) xs x h.1 rest
    ]

-- what a type refers to that is left by a step is done, or waits in the steps after
abbrev pub IsAwaited : (ℕ → List ℕ) → (ℕ → Type 0) → List IndexStep → Type 0
IsAwaited next D [] = Unit {0}
IsAwaited next D (Enter x ∷ steps) = IsAwaited next D steps
IsAwaited next D (Leave x ∷ steps) = ((c : ℕ) → Contains (next x) c → D c ⊎ Contains (map target steps) c) × IsAwaited next D steps

awaits_more : (D E : ℕ → Type 0) (xs ys zs : List IndexStep) → ((c : ℕ) → D c ⊎ Contains (map target ys) c → E c ⊎ Contains (map target zs) c)
    → (c : ℕ) → D c ⊎ Contains (map target (xs ++ ys)) c → E c ⊎ Contains (map target (xs ++ zs)) c
awaits_more D E xs ys zs h c (inl d) =
    elim (h c (inl d)) [ inl e ↦ inl e | inr k ↦ inr (rw (map-append target xs zs) (Contains-append_right (map target xs) (map target zs) c k)) ]
awaits_more D E xs ys zs h c (inr k) =
    elim (Contains-append_cases (map target xs) (map target ys) c (rw (map-append target xs ys) at k)) [
      | inl front ↦ inr (rw (map-append target xs zs) (Contains-append_left (map target xs) (map target zs) c front))
      | inr back ↦ elim (h c (inr back)) [ inl e ↦ inl e | inr k2 ↦ inr (rw (map-append target xs zs) (Contains-append_right (map target xs) (map target zs) c k2)) ]
    ]

awaited_more : (next : ℕ → List ℕ) (D E : ℕ → Type 0) (xs ys zs : List IndexStep) → ((c : ℕ) → D c ⊎ Contains (map target ys) c → E c ⊎ Contains (map target zs) c)
    → IsAwaited next D (xs ++ ys) → IsAwaited next E zs → IsAwaited next E (xs ++ zs)
awaited_more next D E [] ys zs h w v = v
awaited_more next D E (Enter x ∷ xs) ys zs h w v = awaited_more next D E xs ys zs h w v
awaited_more next D E (Leave x ∷ xs) ys zs h w v = ((λ c k. awaits_more D E xs ys zs h c (w.0 c k)), awaited_more next D E xs ys zs h w.1 v)

awaited_back : (next : ℕ → List ℕ) (D : ℕ → Type 0) (xs ys : List IndexStep) → IsAwaited next D (xs ++ ys) → IsAwaited next D ys
awaited_back next D [] ys w = w
awaited_back next D (Enter x ∷ xs) ys w = awaited_back next D xs ys w
awaited_back next D (Leave x ∷ xs) ys w = awaited_back next D xs ys w.1

awaited_enters : (next : ℕ → List ℕ) (D : ℕ → Type 0) (xs : List ℕ) → IsAwaited next D (map Enter xs)
awaited_enters next D [] = tt
awaited_enters next D (x ∷ xs) = awaited_enters next D xs

targets_enters : (xs : List ℕ) → map target (map Enter xs) ≡ xs
targets_enters [] = refl
targets_enters (x ∷ xs) = ap (λ rest. x ∷ rest) (targets_enters xs)

abbrev pub progress_at : List Progress → ℕ → Progress
progress_at progress x = get_or progress x New

abbrev pub IsDone : List Progress → ℕ → Type 0
IsDone progress x = progress_at progress x ≡ Done

-- what the walk keeps
pub record IsWalk (next : ℕ → List ℕ) (n : ℕ) (progress : List Progress) (steps : List IndexStep) (order : List ℕ) : Type 0 where
  pub same_length : length progress ≡ n
  pub within : (x : ℕ) → Contains (map target steps) x → x < n
  pub order_within : (x : ℕ) → Contains order x → x < n
  pub done : (x : ℕ) → IsDone progress x → Contains order x
  pub first : IsChildrenFirst next order
  pub opened : (x : ℕ) → progress_at progress x ≡ Open → Contains steps (Leave x)
  pub covered : (x : ℕ) → x < n → IsDone progress x ⊎ Contains (map target steps) x
  pub chain : IsChain next None steps
  pub awaited : IsAwaited next (IsDone progress) steps

-- the steps that the progress leaves to do
abbrev pub weight_of : ℕ → Progress → ℕ
weight_of referenced New = 2 + referenced
weight_of referenced Open = 0
weight_of referenced Done = 0

abbrev pub weight : (ℕ → List ℕ) → ℕ → List Progress → ℕ
weight next x [] = 0
weight next x (m ∷ progress) = weight_of (length (next x)) m + weight next (suc x) progress

pub weight_set : (next : ℕ → List ℕ) (first x : ℕ) (progress : List Progress) (m d : Progress) → x < length progress
    → weight next first (set progress x m) + weight_of (length (next (first + x))) (get_or progress x d) ≡ weight next first progress + weight_of (length (next (first + x))) m
weight_set next first x [] m d h = absurd (omega arith)
weight_set next first zero (k ∷ progress) m d h = rw (add-zero first) (omega arith)
weight_set next first (suc x) (k ∷ progress) m d h =
    let rest : x < length progress = omega arith in
    let same : suc first + x ≡ first + suc x = omega arith in
    let more = weight_set next (suc first) x progress m d rest in
    let more2 : weight next (suc first) (set progress x m) + weight_of (length (next (first + suc x))) (get_or progress x d) ≡ weight next (suc first) progress + weight_of (length (next (first + suc x))) m = rw same at more in
    omega (arith, more2)

new_at : (n x : ℕ) → progress_at (replicate n New) x ≡ New
new_at zero x = refl
new_at (suc n) zero = refl
new_at (suc n) (suc x) = new_at n x

contains_range : (n x : ℕ) → x < n → Contains (range_with_len 0 n) x
contains_range n x h =
    (x, rw (length-range_with_len 0 n) h, get_or-range_with_len 0 n x x h ∙ zero-add x)

range_within : (n x : ℕ) → Contains (range_with_len 0 n) x → x < n
range_within n x (k, within, same) =
    let small : k < n = rw (length-range_with_len 0 n) at within in
    let found : get_or (range_with_len 0 n) k x ≡ 0 + k = get_or-range_with_len 0 n k x small in
    let e : x ≡ k = sym same ∙ found ∙ zero-add k in
    rw e small

pub walk_start : (next : ℕ → List ℕ) (n : ℕ) → IsWalk next n (replicate n New) (map Enter (range_with_len 0 n)) []
walk_start next n = record {
  same_length = length-replicate n New;
  within = λ x h. range_within n x (rw (targets_enters (range_with_len 0 n)) at h);
  order_within = λ x h. absurd (contains_none x h);
  done = λ x h. absurd (let e : New ≡ Done = sym (new_at n x) ∙ h in let bad : ⊥ = cc e in bad);
  first = λ i c small. absurd (omega (arith, small));
  opened = λ x h. absurd (let e : New ≡ Open = sym (new_at n x) ∙ h in let bad : ⊥ = cc e in bad);
  covered = λ x h. inr (rw (targets_enters (range_with_len 0 n)) (contains_range n x h));
  chain = chain_any next (range_with_len 0 n);
  awaited = awaited_enters next (IsDone (replicate n New)) (range_with_len 0 n);
}

-- a type that is open and entered again is in a cycle
pub walk_cycle : (next : ℕ → List ℕ) (n x : ℕ) (progress : List Progress) (rest : List IndexStep) (order : List ℕ)
    → IsWalk next n progress (rest ++ Enter x ∷ []) order → progress_at progress x ≡ Open → Leads next x x
walk_cycle next n x progress rest order w m =
    elim (Contains-push_cases rest (Enter x) (Leave x) (w.opened x m)) [
      | inl before ↦ cycle_found next None rest x w.chain before
      | inr same ↦ absurd (let bad : ⊥ = cc same in bad)
    ]

contains_before : (rest : List IndexStep) (s : IndexStep) (x : ℕ) → Contains (map target rest) x → Contains (map target (rest ++ s ∷ [])) x
contains_before rest s x h = rw (map-append target rest (s ∷ [])) (Contains-append_left (map target rest) (target s ∷ []) x h)

at_end : (rest : List IndexStep) (s : IndexStep) → Contains (map target (rest ++ s ∷ [])) (target s)
at_end rest s = rw (map-append target rest (s ∷ [])) (Contains-append_right (map target rest) (target s ∷ []) (target s) (Contains-push [] (target s)))

one_target : (s : IndexStep) (x : ℕ) → Contains (map target (s ∷ [])) x → target s ≡ x
one_target s x h = elim (Contains-push_cases [] (target s) x h) [ inl none ↦ absurd (contains_none x none) | inr same ↦ same ]

pub walk_within : (next : ℕ → List ℕ) (n : ℕ) (progress : List Progress) (rest : List IndexStep) (s : IndexStep) (order : List ℕ)
    → IsWalk next n progress (rest ++ s ∷ []) order → target s < length progress
walk_within next n progress rest s order w = rw w.same_length (w.within (target s) (at_end rest s))

-- where only a type that is done was entered, no step is left to do for it
waits_skip : (D : ℕ → Type 0) (s : IndexStep) → D (target s) → (c : ℕ) → D c ⊎ Contains (map target (s ∷ [])) c → D c ⊎ Contains (map target []) c
waits_skip D s d c (inl e) = inl e
waits_skip D s d c (inr k) = inl (subst D (one_target s c k) d)

pub walk_skip : (next : ℕ → List ℕ) (n x : ℕ) (progress : List Progress) (rest : List IndexStep) (order : List ℕ)
    → IsWalk next n progress (rest ++ Enter x ∷ []) order → IsDone progress x → IsWalk next n progress rest order
walk_skip next n x progress rest order w d = record {
  same_length = w.same_length;
  within = λ y h. w.within y (contains_before rest (Enter x) y h);
  order_within = w.order_within;
  done = w.done;
  first = w.first;
  opened = λ y h. elim (Contains-push_cases rest (Enter x) (Leave y) (w.opened y h)) [ inl before ↦ before | inr same ↦ absurd (let bad : ⊥ = cc same in bad) ];
  covered = λ y h. rw (← append-nil rest) (awaits_more (IsDone progress) (IsDone progress) rest (Enter x ∷ []) [] (waits_skip (IsDone progress) (Enter x) d) y (w.covered y h));
  chain = chain_front next None rest (Enter x ∷ []) w.chain;
  awaited = rw (← append-nil rest) (awaited_more next (IsDone progress) (IsDone progress) rest (Enter x ∷ []) [] (waits_skip (IsDone progress) (Enter x) d) w.awaited tt);
}

done_after : (progress : List Progress) (x : ℕ) → x < length progress → (c : ℕ) → IsDone progress c → IsDone (set progress x Done) c
done_after progress x h c d =
    elim (cases_eq c x) [
      | inl same ↦ (let P : ℕ → Type 0 = λ z. IsDone (set progress x Done) z in subst P (sym same) (get_or-set_same progress x Done New h))
      | inr other ↦ get_or-set_other progress x c Done New other ∙ d
    ]

waits_leave : (progress : List Progress) (x : ℕ) → x < length progress → (c : ℕ) → IsDone progress c ⊎ Contains (map target (Leave x ∷ [])) c → IsDone (set progress x Done) c ⊎ Contains (map target []) c
waits_leave progress x h c (inl d) = inl (done_after progress x h c d)
waits_leave progress x h c (inr k) = inl (let P : ℕ → Type 0 = λ z. IsDone (set progress x Done) z in subst P (one_target (Leave x) c k) (get_or-set_same progress x Done New h))

-- what the last step left refers to is done
referenced_done : (next : ℕ → List ℕ) (progress : List Progress) (rest : List IndexStep) (x : ℕ) → IsAwaited next (IsDone progress) (rest ++ Leave x ∷ []) → (c : ℕ) → Contains (next x) c → IsDone progress c
referenced_done next progress rest x w c k =
    elim ((awaited_back next (IsDone progress) rest (Leave x ∷ []) w).0 c k) [ inl d ↦ d | inr none ↦ absurd (contains_none c none) ]

pub first_push : (next : ℕ → List ℕ) (order : List ℕ) (x : ℕ) → IsChildrenFirst next order → ((c : ℕ) → Contains (next x) c → Contains order c) → IsChildrenFirst next (order ++ x ∷ [])
first_push next order x first all i c small k =
    elim (cases_lt i (length order)) [
      | inl before ↦
          (let old : Contains (next (get_or order i 0)) c = rw (get_or_append_left order (x ∷ []) 0 i before) at k in
          let there : Contains (take i order) c = first i c before old in
          let le : i ≤ length order = omega arith in
          rw (take-append-le i order (x ∷ []) le) there)
      | inr past ↦
          (let last : i ≡ length order = omega (arith, length-append order (x ∷ [])) in
          let here : Contains (next (get_or (order ++ x ∷ []) (length order) 0)) c = rw last at k in
          let mine : Contains (next x) c = rw (get_or-append_seam order x [] 0) at here in
          let P : ℕ → Type 0 = λ j. Contains (take j (order ++ x ∷ [])) c in
          subst P (sym last) (rw (take-append_seam order (x ∷ [])) (all c mine)))
    ]

done_push : (progress : List Progress) (order : List ℕ) (x : ℕ) → ((c : ℕ) → IsDone progress c → Contains order c) → (c : ℕ) → IsDone (set progress x Done) c → Contains (order ++ x ∷ []) c
done_push progress order x h c d =
    elim (cases_eq c x) [
      | inl same ↦ rw same (Contains-push order x)
      | inr other ↦ Contains-append_left order (x ∷ []) c (h c (sym (get_or-set_other progress x c Done New other) ∙ d))
    ]

pub walk_leave : (next : ℕ → List ℕ) (n x : ℕ) (progress : List Progress) (rest : List IndexStep) (order : List ℕ)
    → IsWalk next n progress (rest ++ Leave x ∷ []) order → IsWalk next n (set progress x Done) rest (order ++ x ∷ [])
walk_leave next n x progress rest order w =
    let small : x < length progress = walk_within next n progress rest (Leave x) order w in
    let bound : x < n = rw w.same_length at small in
    record {
      same_length = length-set progress x Done ∙ w.same_length;
      within = λ y h. w.within y (contains_before rest (Leave x) y h);
      order_within = λ y h. elim (Contains-push_cases order x y h) [ inl before ↦ w.order_within y before | inr same ↦ rw (← same) bound ];
      done = done_push progress order x w.done;
      first = first_push next order x w.first (λ c k. w.done c (referenced_done next progress rest x w.awaited c k));
      opened = λ y h. elim (cases_eq y x) [
        | inl same ↦ absurd (let e : progress_at (set progress x Done) x ≡ Open = rw same at h in let f : Done ≡ Open = sym (get_or-set_same progress x Done New small) ∙ e in let bad : ⊥ = cc f in bad)
        | inr other ↦ elim (Contains-push_cases rest (Leave x) (Leave y) (w.opened y (sym (get_or-set_other progress x y Done New other) ∙ h))) [
          | inl before ↦ before
          | inr same ↦ absurd (let e : x ≡ y = cc same in other (sym e))
        ]
      ];
      covered = λ y h. rw (← append-nil rest) (awaits_more (IsDone progress) (IsDone (set progress x Done)) rest (Leave x ∷ []) [] (waits_leave progress x small) y (w.covered y h));
      chain = chain_front next None rest (Leave x ∷ []) w.chain;
      awaited = rw (← append-nil rest) (awaited_more next (IsDone progress) (IsDone (set progress x Done)) rest (Leave x ∷ []) [] (waits_leave progress x small) w.awaited tt);
    }

done_open : (progress : List Progress) (x : ℕ) → progress_at progress x ≡ New → (c : ℕ) → IsDone progress c → IsDone (set progress x Open) c
done_open progress x new c d =
    elim (cases_eq c x) [
      | inl same ↦ absurd (let e : progress_at progress x ≡ Done = rw same at d in let f : New ≡ Done = sym new ∙ e in let bad : ⊥ = cc f in bad)
      | inr other ↦ get_or-set_other progress x c Open New other ∙ d
    ]

undone_open : (progress : List Progress) (x : ℕ) → x < length progress → (c : ℕ) → IsDone (set progress x Open) c → IsDone progress c
undone_open progress x small c d =
    elim (cases_eq c x) [
      | inl same ↦ absurd (let e : progress_at (set progress x Open) x ≡ Done = rw same at d in let f : Open ≡ Done = sym (get_or-set_same progress x Open New small) ∙ e in let bad : ⊥ = cc f in bad)
      | inr other ↦ sym (get_or-set_other progress x c Open New other) ∙ d
    ]

waits_enter : (next : ℕ → List ℕ) (progress : List Progress) (x : ℕ) → progress_at progress x ≡ New → (c : ℕ) → IsDone progress c ⊎ Contains (map target (Enter x ∷ [])) c
    → IsDone (set progress x Open) c ⊎ Contains (map target (Leave x ∷ map Enter (next x))) c
waits_enter next progress x new c (inl d) = inl (done_open progress x new c d)
waits_enter next progress x new c (inr k) = inr (rw (← one_target (Enter x) c k) (contains_head (map target (map Enter (next x))) x))

pub walk_enter : (next : ℕ → List ℕ) (n x : ℕ) (progress : List Progress) (rest : List IndexStep) (order : List ℕ)
    → IsWalk next n progress (rest ++ Enter x ∷ []) order → progress_at progress x ≡ New → ((c : ℕ) → Contains (next x) c → c < n)
    → IsWalk next n (set progress x Open) (rest ++ Leave x ∷ map Enter (next x)) order
walk_enter next n x progress rest order w new small =
    let bound : x < length progress = walk_within next n progress rest (Enter x) order w in
    let more : List IndexStep = Leave x ∷ map Enter (next x) in
    record {
      same_length = length-set progress x Open ∙ w.same_length;
      within = λ y h.
          elim (Contains-append_cases (map target rest) (map target (Leave x ∷ map Enter (next x))) y (rw (map-append target rest (Leave x ∷ map Enter (next x))) at h)) [
            | inl front ↦ w.within y (contains_before rest (Enter x) y front)
            | inr back ↦ elim (contains_cons x (map target (map Enter (next x))) y back) [
              | inl same ↦ rw (← same) (rw w.same_length at bound)
              | inr child ↦ small y (rw (targets_enters (next x)) at child)
            ]
          ];
      order_within = w.order_within;
      done = λ c d. w.done c (undone_open progress x bound c d);
      first = w.first;
      opened = λ y h. elim (cases_eq y x) [
        | inl same ↦ rw same (Contains-append_right rest (Leave x ∷ map Enter (next x)) (Leave x) (contains_head (map Enter (next x)) (Leave x)))
        | inr other ↦ elim (Contains-push_cases rest (Enter x) (Leave y) (w.opened y (sym (get_or-set_other progress x y Open New other) ∙ h))) [
          | inl before ↦ Contains-append_left rest (Leave x ∷ map Enter (next x)) (Leave y) before
          | inr same ↦ absurd (let bad : ⊥ = cc same in bad)
        ]
      ];
      covered = λ y h. awaits_more (IsDone progress) (IsDone (set progress x Open)) rest (Enter x ∷ []) (Leave x ∷ map Enter (next x)) (waits_enter next progress x new) y (w.covered y h);
      chain = chain_join next None rest (Leave x ∷ map Enter (next x)) (chain_front next None rest (Enter x ∷ []) w.chain)
          ((chain_back next None rest (Enter x ∷ []) w.chain).0, chain_enters next x (next x) (λ c k. k));
      awaited = awaited_more next (IsDone progress) (IsDone (set progress x Open)) rest (Enter x ∷ []) (Leave x ∷ map Enter (next x)) (waits_enter next progress x new) w.awaited
          ((λ c k. inr (rw (targets_enters (next x)) k)), awaited_enters next (IsDone (set progress x Open)) (next x));
    }

-- where no step is left, all are in the order
pub walk_end : (next : ℕ → List ℕ) (n : ℕ) (progress : List Progress) (order : List ℕ) → IsWalk next n progress [] order → (x : ℕ) → x < n → Contains order x
walk_end next n progress order w x h = elim (w.covered x h) [ inl d ↦ w.done x d | inr none ↦ absurd (contains_none x none) ]

progress_read : (progress : List Progress) (x : ℕ) (m d : Progress) → x < length progress → m ≡ get_or progress x m → m ≡ d → progress_at progress x ≡ d
progress_read progress x m d h read e = get_or_default progress x New m h ∙ sym read ∙ e

-- the walk with the step that was taken from the end
as_popped : (next : ℕ → List ℕ) (n : ℕ) (progress : List Progress) (before rest : List IndexStep) (s t : IndexStep) (order : List ℕ)
    → before ≡ rest ++ s ∷ [] → s ≡ t → IsWalk next n progress before order → IsWalk next n progress (rest ++ t ∷ []) order
as_popped next n progress before rest s t order e f w =
    let P : IndexStep → Type 0 = λ z. IsWalk next n progress (rest ++ z ∷ []) order in
    let Q : List IndexStep → Type 0 = λ z. IsWalk next n progress z order in
    subst P f (subst Q e w)

pub in_bounds : (next : ℕ → List ℕ) (n : ℕ) (progress : List Progress) (before rest : List IndexStep) (s t : IndexStep) (order : List ℕ)
    → before ≡ rest ++ s ∷ [] → s ≡ t → IsWalk next n progress before order → target t < length progress
in_bounds next n progress before rest s t order e f w = walk_within next n progress rest t order (as_popped next n progress before rest s t order e f w)

pub within_types : (next : ℕ → List ℕ) (n : ℕ) (progress : List Progress) (before rest : List IndexStep) (s t : IndexStep) (order : List ℕ)
    → before ≡ rest ++ s ∷ [] → s ≡ t → IsWalk next n progress before order → target t < n
within_types next n progress before rest s t order e f w =
    let popped = as_popped next n progress before rest s t order e f w in
    popped.within (target t) (at_end rest t)

pub left : (next : ℕ → List ℕ) (n x : ℕ) (progress : List Progress) (before rest : List IndexStep) (s : IndexStep) (order : List ℕ)
    → before ≡ rest ++ s ∷ [] → s ≡ Leave x → IsWalk next n progress before order → IsWalk next n (set progress x Done) rest (order ++ x ∷ [])
left next n x progress before rest s order e f w = walk_leave next n x progress rest order (as_popped next n progress before rest s (Leave x) order e f w)

pub skipped : (next : ℕ → List ℕ) (n x : ℕ) (progress : List Progress) (before rest : List IndexStep) (s : IndexStep) (order : List ℕ) (m : Progress)
    → before ≡ rest ++ s ∷ [] → s ≡ Enter x → IsWalk next n progress before order → m ≡ get_or progress x m → m ≡ Done → IsWalk next n progress rest order
skipped next n x progress before rest s order m e f w read is =
    let popped = as_popped next n progress before rest s (Enter x) order e f w in
    walk_skip next n x progress rest order popped (progress_read progress x m Done (walk_within next n progress rest (Enter x) order popped) read is)

pub cycle_closed : (next : ℕ → List ℕ) (n x : ℕ) (progress : List Progress) (before rest : List IndexStep) (s : IndexStep) (order : List ℕ) (m : Progress)
    → before ≡ rest ++ s ∷ [] → s ≡ Enter x → IsWalk next n progress before order → m ≡ get_or progress x m → m ≡ Open → Leads next x x
cycle_closed next n x progress before rest s order m e f w read is =
    let popped = as_popped next n progress before rest s (Enter x) order e f w in
    walk_cycle next n x progress rest order popped (progress_read progress x m Open (walk_within next n progress rest (Enter x) order popped) read is)

pub entered : (next : ℕ → List ℕ) (n x : ℕ) (progress : List Progress) (before rest : List IndexStep) (s : IndexStep) (order : List ℕ) (m : Progress)
    → before ≡ rest ++ s ∷ [] → s ≡ Enter x → IsWalk next n progress before order → m ≡ get_or progress x m → m ≡ New → ((c : ℕ) → Contains (next x) c → c < n)
    → IsWalk next n (set progress x Open) ((rest ++ Leave x ∷ []) ++ map Enter (next x)) order
entered next n x progress before rest s order m e f w read is small =
    let popped = as_popped next n progress before rest s (Enter x) order e f w in
    let P : List IndexStep → Type 0 = λ z. IsWalk next n (set progress x Open) z order in
    subst P (sym (append_assoc rest (Leave x ∷ []) (map Enter (next x))))
    (walk_enter next n x progress rest order popped (progress_read progress x m New (walk_within next n progress rest (Enter x) order popped) read is) small)

-- the measure falls where a new type is entered
pub weight_entered : (next : ℕ → List ℕ) (n x : ℕ) (progress : List Progress) (before rest : List IndexStep) (s : IndexStep) (order : List ℕ) (m : Progress)
    → before ≡ rest ++ s ∷ [] → s ≡ Enter x → IsWalk next n progress before order → m ≡ get_or progress x m → m ≡ New
    → weight next 0 (set progress x Open) + length ((rest ++ Leave x ∷ []) ++ map Enter (next x)) < weight next 0 progress + length before
weight_entered next n x progress before rest s order m e f w read is =
    let popped = as_popped next n progress before rest s (Enter x) order e f w in
    let small : x < length progress = walk_within next n progress rest (Enter x) order popped in
    let new : get_or progress x New ≡ New = progress_read progress x m New small read is in
    let moved = weight_set next 0 x progress Open New small in
    let moved2 : weight next 0 (set progress x Open) + weight_of (length (next x)) (get_or progress x New) ≡ weight next 0 progress + weight_of (length (next x)) Open = rw (zero-add x) at moved in
    let moved3 : weight next 0 (set progress x Open) + (2 + length (next x)) ≡ weight next 0 progress + 0 = rw new at moved2 in
    let l1 : length before ≡ length rest + 1 = ap length e ∙ length-append rest (s ∷ []) in
    let l2 : length ((rest ++ Leave x ∷ []) ++ map Enter (next x)) ≡ length (rest ++ Leave x ∷ []) + length (map Enter (next x)) = length-append (rest ++ Leave x ∷ []) (map Enter (next x)) in
    let l3 : length (rest ++ Leave x ∷ []) ≡ length rest + 1 = length-append rest (Leave x ∷ []) in
    let l4 : length (map Enter (next x)) ≡ length (next x) = length-map (next x) Enter in
    omega (arith, moved3, l1, l2, l3, l4)

-- and where a type is left
pub weight_left : (next : ℕ → List ℕ) (n x : ℕ) (progress : List Progress) (before rest : List IndexStep) (s : IndexStep) (order : List ℕ)
    → before ≡ rest ++ s ∷ [] → s ≡ Leave x → IsWalk next n progress before order
    → weight next 0 (set progress x Done) + length rest < weight next 0 progress + length before
weight_left next n x progress before rest s order e f w =
    let small : x < length progress = in_bounds next n progress before rest s (Leave x) order e f w in
    let moved = weight_set next 0 x progress Done New small in
    let moved2 : weight next 0 (set progress x Done) + weight_of (length (next x)) (get_or progress x New) ≡ weight next 0 progress + 0 = rw (zero-add x) at moved in
    let l1 : length before ≡ length rest + 1 = ap length e ∙ length-append rest (s ∷ []) in
    omega (arith, moved2, l1)
