-- Core modules and their names.
use Rattle.std.proofs.Common.{◌≡◌, ◌≢◌, ℕ, zero, suc, ◌+◌, ◌<◌, ◌≤◌, List, [], ◌∷◌, ◌++◌, length, map, take, get_or, set, Bool, true, false, cond, Option, Some, None, nat_eq, refl, sym, ◌∙◌, ap, append_assoc, append-nil, eqb-true, arith}
use Rattle.std.specs.List.{filter, enumerate_from, last_or}
use Rattle.std.proofs.lemmas.Bool.{eq-eqb}
use Rattle.std.proofs.lemmas.List.{get_or-map, map-append, map-set, length-map}
use Rattle.std.proofs.lemmas.List.Elements.{filter-append}
use Rattle.std.proofs.lemmas.List.FromFn.{length-enumerate_from}
use Rattle.wc_read.specs.Names.{GlobalNameValue}
use Rattle.wc_component_file.specs.Files.{CoreModuleView, core_module_view, module_of, modules_of}
use Rattle.wc_component_file.specs.Frames.{FrameValue, frame_value, frame_values, is_core_module}
use Rattle.wc_component_file.specs.Names.{last_name}
use Rattle.wc_component_file.specs.Private.Names.{AreNamed, IsNamed}
use Rattle.wc_component_file.proofs.SearchLemmas.{one_more}
use Rattle.wc_component_file.specs.declared.file.CoreModule.{CoreModule}
use Rattle.wc_component_file.specs.declared.frames.Frame.{Frame}

not_equal : (m n : ℕ) → m ≢ n → nat_eq m n ≡ false
not_equal m n other = by (nat_eq m n) refl
  where
    by : (test : Bool) → nat_eq m n ≡ test → test ≡ false
    by true same = absurd (other (eqb-true m n same))
    by false same = refl

-- core modules without names

enumerate_push : {A : Type 0} (n : ℕ) (xs : List A) (x : A) → enumerate_from n (xs ++ x ∷ []) ≡ enumerate_from n xs ++ (n + length xs, x) ∷ []
enumerate_push {A} n [] x = let e : n ≡ n + 0 = omega arith in ap (λ (k : ℕ). (k, x) ∷ []) e
enumerate_push {A} n (y ∷ ys) x =
    let e : (n + 1) + length ys ≡ n + length (y ∷ ys) = omega arith in
    ap (λ (l : List (ℕ × A)). (n, y) ∷ l) (enumerate_push (n + 1) ys x ∙ ap (λ (k : ℕ). enumerate_from (n + 1) ys ++ (k, x) ∷ []) e)

abbrev unnamed : FrameValue → CoreModuleView
unnamed f = record { offset = f.offset; bytes = f.section.content; name = None }

kept : (fs : List FrameValue) (f : FrameValue) (test : Bool) → is_core_module f ≡ test → filter is_core_module (fs ++ f ∷ []) ≡ filter is_core_module fs ++ cond test (f ∷ []) []
kept fs f test e = filter-append is_core_module fs (f ∷ []) ∙ ap (λ (t : Bool). filter is_core_module fs ++ cond t (f ∷ []) []) e

modules_push : (fs : List FrameValue) (f : FrameValue) → is_core_module f ≡ true → modules_of [] (fs ++ f ∷ []) ≡ modules_of [] fs ++ unnamed f ∷ []
modules_push fs f e =
    ap (λ (l : List FrameValue). map (module_of []) (enumerate_from 0 l)) (kept fs f true e) ∙ ap (λ (l : List (ℕ × FrameValue)). map (module_of []) l) (enumerate_push 0 (filter is_core_module fs) f)
    ∙ map-append (module_of []) (enumerate_from 0 (filter is_core_module fs)) ((0 + length (filter is_core_module fs), f) ∷ [])

modules_skip : (fs : List FrameValue) (f : FrameValue) → is_core_module f ≡ false → modules_of [] (fs ++ f ∷ []) ≡ modules_of [] fs
modules_skip fs f e = ap (λ (l : List FrameValue). map (module_of []) (enumerate_from 0 l)) (kept fs f false e ∙ append-nil (filter is_core_module fs))

pub modules_more : (fs : List Frame) (index : ℕ) (d : Frame) (old new : List CoreModule) (m : CoreModule) → map core_module_view old ≡ modules_of [] (frame_values (take index fs)) → index < length fs → (get_or fs index d).section.id ≡ 1
    → new ≡ old ++ m ∷ [] → core_module_view m ≡ record { offset = (get_or fs index d).offset; bytes = (get_or fs index d).section.content.now; name = None }
    → map core_module_view new ≡ modules_of [] (frame_values (take (index + 1) fs))
modules_more fs index d old new m are less is added view =
    let f : FrameValue = frame_value (get_or fs index d) in
    let core : is_core_module f ≡ true = rw is refl in
    ap (map core_module_view) added ∙ map-append core_module_view old (m ∷ []) ∙ ap (λ (l : List CoreModuleView). l ++ core_module_view m ∷ []) are
    ∙ ap (λ (v : CoreModuleView). modules_of [] (frame_values (take index fs)) ++ v ∷ []) view ∙ sym (modules_push (frame_values (take index fs)) f core) ∙ ap (modules_of []) (sym (one_more fs index d less))

pub modules_same : (fs : List Frame) (index : ℕ) (d : Frame) (old : List CoreModule) → map core_module_view old ≡ modules_of [] (frame_values (take index fs)) → index < length fs → (get_or fs index d).section.id ≢ 1
    → map core_module_view old ≡ modules_of [] (frame_values (take (index + 1) fs))
modules_same fs index d old are less other =
    are ∙ sym (modules_skip (frame_values (take index fs)) (frame_value (get_or fs index d)) (not_equal _ 1 other)) ∙ ap (modules_of []) (sym (one_more fs index d less))

-- the last name for an index, after one more pair

last_pushed : {A : Type 0} (o : Option A) (xs : List A) (x : A) → last_or o (xs ++ x ∷ []) ≡ Some x
last_pushed o [] x = refl
last_pushed o (y ∷ ys) x = last_pushed (Some y) ys x

abbrev is_for : ℕ → GlobalNameValue → Bool
is_for index p = nat_eq index p.0

abbrev name_in : GlobalNameValue → List ℕ
name_in p = p.1

for_index : (pairs : List GlobalNameValue) (p : GlobalNameValue) (index : ℕ) (test : Bool) → nat_eq index p.0 ≡ test
    → last_name (pairs ++ p ∷ []) index ≡ last_or None (map name_in (filter (is_for index) pairs ++ cond test (p ∷ []) []))
for_index pairs p index test e =
    ap (λ (l : List GlobalNameValue). last_or None (map name_in l)) (filter-append (is_for index) pairs (p ∷ []) ∙ ap (λ (t : Bool). filter (is_for index) pairs ++ cond t (p ∷ []) []) e)

last_this : (pairs : List GlobalNameValue) (p : GlobalNameValue) (index : ℕ) → index ≡ p.0 → last_name (pairs ++ p ∷ []) index ≡ Some p.1
last_this pairs p index e =
    let same : nat_eq index p.0 ≡ true = eq-eqb index p.0 e in
    for_index pairs p index true same ∙ ap (last_or None) (map-append name_in (filter (is_for index) pairs) (p ∷ [])) ∙ last_pushed None (map name_in (filter (is_for index) pairs)) p.1

last_other : (pairs : List GlobalNameValue) (p : GlobalNameValue) (index : ℕ) → index ≢ p.0 → last_name (pairs ++ p ∷ []) index ≡ last_name pairs index
last_other pairs p index e = for_index pairs p index false (not_equal index p.0 e) ∙ ap (λ (l : List GlobalNameValue). last_or None (map name_in l)) (append-nil (filter (is_for index) pairs))

-- core modules after one more pair

abbrev numbered : List GlobalNameValue → ℕ → List FrameValue → List CoreModuleView
numbered pairs n fs = map (module_of pairs) (enumerate_from n fs)

abbrev with_name : List ℕ → CoreModuleView → CoreModuleView
with_name name m = record { offset = m.offset; bytes = m.bytes; name = Some name }

abbrev made : FrameValue → Option (List ℕ) → CoreModuleView
made f name = record { offset = f.offset; bytes = f.section.content; name = name }

numbered_other : (pairs : List GlobalNameValue) (p : GlobalNameValue) (n : ℕ) (fs : List FrameValue) → ((k : ℕ) → n ≤ k → k < n + length fs → k ≢ p.0) → numbered (pairs ++ p ∷ []) n fs ≡ numbered pairs n fs
numbered_other pairs p n [] other = refl
numbered_other pairs p n (f ∷ fs) other =
    ap (λ (m : Option (List ℕ)). made f m ∷ numbered (pairs ++ p ∷ []) (n + 1) fs) (last_other pairs p n (other n (omega arith) (omega arith)))
    ∙ ap (λ (l : List CoreModuleView). made f (last_name pairs n) ∷ l) (numbered_other pairs p (n + 1) fs (λ k low high. other k (omega (arith, low)) (omega (arith, high))))

numbered_this : (pairs : List GlobalNameValue) (p : GlobalNameValue) (n : ℕ) (fs : List FrameValue) (k : ℕ) (d : CoreModuleView) → p.0 ≡ n + k → k < length fs
    → numbered (pairs ++ p ∷ []) n fs ≡ set (numbered pairs n fs) k (with_name p.1 (get_or (numbered pairs n fs) k d))
numbered_this pairs p n [] k d e less = absurd (omega (arith, less))
numbered_this pairs p n (f ∷ fs) zero d e less =
    ap (λ (m : Option (List ℕ)). made f m ∷ numbered (pairs ++ p ∷ []) (n + 1) fs) (last_this pairs p n (omega (arith, e)))
    ∙ ap (λ (l : List CoreModuleView). made f (Some p.1) ∷ l) (numbered_other pairs p (n + 1) fs (λ j low high same. omega (arith, low, same, e)))
numbered_this pairs p n (f ∷ fs) (suc k) d e less =
    ap (λ (m : Option (List ℕ)). made f m ∷ numbered (pairs ++ p ∷ []) (n + 1) fs) (last_other pairs p n (λ same. omega (arith, same, e)))
    ∙ ap (λ (l : List CoreModuleView). made f (last_name pairs n) ∷ l) (numbered_this pairs p (n + 1) fs k d (omega (arith, e)) (omega (arith, less)))

as_many : (pairs : List GlobalNameValue) (fs : List FrameValue) (modules : List CoreModule) → map core_module_view modules ≡ modules_of pairs fs → length modules ≡ length (filter is_core_module fs)
as_many pairs fs modules e =
    sym (length-map modules core_module_view) ∙ ap length e ∙ length-map (enumerate_from 0 (filter is_core_module fs)) (module_of pairs) ∙ length-enumerate_from 0 (filter is_core_module fs)

pub named_here : (modules : List CoreModule) (p : GlobalNameValue) (d new : CoreModule) → p.0 < length modules → core_module_view new ≡ with_name p.1 (core_module_view (get_or modules p.0 d)) → IsNamed modules (set modules p.0 new) p
named_here modules p d new less view pairs fs e =
    let many = as_many pairs fs modules e in
    let here : get_or (modules_of pairs fs) p.0 (core_module_view d) ≡ core_module_view (get_or modules p.0 d) = ap (λ (l : List CoreModuleView). get_or l p.0 (core_module_view d)) (sym e) ∙ get_or-map core_module_view modules p.0 d (core_module_view d) less in
    map-set core_module_view modules p.0 new ∙ ap (λ (l : List CoreModuleView). set l p.0 (core_module_view new)) e ∙ ap (λ (v : CoreModuleView). set (modules_of pairs fs) p.0 v) (view ∙ ap (with_name p.1) (sym here))
    ∙ sym (numbered_this pairs p 0 (filter is_core_module fs) p.0 (core_module_view d) (omega arith) (omega (arith, many, less)))

pub named_past : (modules : List CoreModule) (p : GlobalNameValue) → length modules ≤ p.0 → IsNamed modules modules p
named_past modules p past pairs fs e =
    let many = as_many pairs fs modules e in
    e ∙ sym (numbered_other pairs p 0 (filter is_core_module fs) (λ k low high same. omega (arith, many, high, same, past)))

pub named_none : (modules : List CoreModule) → AreNamed modules modules []
named_none modules pairs fs e = e ∙ ap (λ (l : List GlobalNameValue). modules_of l fs) (sym (append-nil pairs))

pub named_more : (old now new : List CoreModule) (names : List GlobalNameValue) (p : GlobalNameValue) → AreNamed old now names → IsNamed now new p → AreNamed old new (names ++ p ∷ [])
named_more old now new names p a b pairs fs e = b (pairs ++ names) fs (a pairs fs e) ∙ ap (λ (l : List GlobalNameValue). modules_of l fs) (append_assoc pairs names (p ∷ []))
