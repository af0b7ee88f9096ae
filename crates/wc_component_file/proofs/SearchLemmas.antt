-- The loops over components inside a component.
use Rattle.std.proofs.Common.{◌≡◌, ℕ, ◌+◌, ◌<◌, ◌≤◌, List, [], ◌∷◌, ◌++◌, length, map, take, get_or, Bool, true, false, refl, sym, ◌∙◌, ap, subst, arith}
use Rattle.std.specs.Prelude.{◌↔◌, IsTrue}
use Rattle.std.specs.List.{list_any}
use Rattle.std.proofs.lemmas.Bool.{false≢true}
use Rattle.std.proofs.lemmas.List.{map-append, take_more, length-map, length-take-le}
use Rattle.wc_component_file.specs.Frames.{FrameValue, SpellsComponent, frame_value, frame_values, is_core_module}
use Rattle.wc_component_file.specs.Inside.{HasCoreModules, IsInside, Counts}
use Rattle.wc_component_file.specs.Private.Inside.{components_of}
use Rattle.wc_component_file.specs.declared.frames.Frame.{Frame}
use Rattle.wc_component_file.proofs.InsideLemmas.{AreWaiting, any_viewed, waiting_found, waiting_into, waiting_pass, waiting_size, smaller_into, smaller_pass, counts_yes, counts_no, counts_fit}
use denote.Ref.{Bor}

abbrev pub contents_now : List (Bor (List ℕ)) → List (List ℕ)
contents_now parts = map (λ p. p.now) parts

-- the last one that waits

popped : (old new : List (Bor (List ℕ))) (c : Bor (List ℕ)) → old ≡ new ++ c ∷ [] → contents_now old ≡ contents_now new ++ c.now ∷ []
popped old new c e = ap contents_now e ∙ map-append (λ (p : Bor (List ℕ)). p.now) new (c ∷ [])

last_waits : (bytes : List ℕ) (old new : List (Bor (List ℕ))) (c : Bor (List ℕ)) → AreWaiting bytes (contents_now old) → old ≡ new ++ c ∷ [] → AreWaiting bytes (contents_now new ++ c.now ∷ [])
last_waits bytes old new c w e = subst (AreWaiting bytes) (popped old new c e) w

-- the test of its sections
tested : (fs given : List Frame) (r test : Bool) → given ≡ fs → r ≡ list_any (λ (f : Frame). is_core_module (frame_value f)) given → r ≡ test → list_any is_core_module (frame_values fs) ≡ test
tested fs given r test same is e = sym (any_viewed is_core_module frame_value fs) ∙ ap (λ (l : List Frame). list_any (λ (f : Frame). is_core_module (frame_value f)) l) (sym same) ∙ sym is ∙ e

found_so : (P : Type 0) → P → IsTrue true ↔ P
found_so P p = (λ _. p, λ _. refl)

pub search_found : (bytes : List ℕ) (old new : List (Bor (List ℕ))) (c : Bor (List ℕ)) (fs given : List Frame) (r : Bool) → AreWaiting bytes (contents_now old) → old ≡ new ++ c ∷ []
    → SpellsComponent c.now (frame_values fs) → given ≡ fs → r ≡ list_any (λ (f : Frame). is_core_module (frame_value f)) given → r ≡ true → IsTrue true ↔ HasCoreModules bytes
search_found bytes old new c fs given r w e s same is passes =
    found_so (HasCoreModules bytes) (waiting_found bytes (contents_now new) c.now (frame_values fs) (last_waits bytes old new c w e) s (tested fs given r true same is passes))

pub search_into : (bytes : List ℕ) (old new : List (Bor (List ℕ))) (c : Bor (List ℕ)) (fs given other : List Frame) (r : Bool) (added : List (Bor (List ℕ))) → AreWaiting bytes (contents_now old) → old ≡ new ++ c ∷ []
    → SpellsComponent c.now (frame_values fs) → given ≡ fs → r ≡ list_any (λ (f : Frame). is_core_module (frame_value f)) given → r ≡ false
    → other ≡ fs → contents_now added ≡ contents_now new ++ components_of (frame_values other) → AreWaiting bytes (contents_now added)
search_into bytes old new c fs given other r added w e s same is fails again is_added =
    rw (is_added, again) (waiting_into bytes (contents_now new) c.now (frame_values fs) (last_waits bytes old new c w e) s (tested fs given r false same is fails))

pub into_smaller : (old new : List (Bor (List ℕ))) (c : Bor (List ℕ)) (fs other : List Frame) (added : List (Bor (List ℕ))) → old ≡ new ++ c ∷ [] → SpellsComponent c.now (frame_values fs)
    → other ≡ fs → contents_now added ≡ contents_now new ++ components_of (frame_values other) → waiting_size (contents_now added) < waiting_size (contents_now old)
into_smaller old new c fs other added e s again is_added = rw (is_added, again, popped old new c e) (smaller_into (contents_now new) c.now (frame_values fs) s)

pub search_pass : (bytes : List ℕ) (old new : List (Bor (List ℕ))) (c : Bor (List ℕ)) → AreWaiting bytes (contents_now old) → old ≡ new ++ c ∷ []
    → ((fs : List FrameValue) → SpellsComponent c.now fs → ⊥) → AreWaiting bytes (contents_now new)
search_pass bytes old new c w e none = waiting_pass bytes (contents_now new) c.now (last_waits bytes old new c w e) none

pub pass_smaller : (old new : List (Bor (List ℕ))) (c : Bor (List ℕ)) → old ≡ new ++ c ∷ [] → waiting_size (contents_now new) < waiting_size (contents_now old)
pass_smaller old new c e = rw (popped old new c e) (smaller_pass (contents_now new) c.now)

-- how many sections are components with core modules

pub count_below : (fs : List Frame) (index n : ℕ) → Counts IsInside (frame_values (take index fs)) n → index < length fs → n + 1 ≤ length fs
count_below fs index n c less = omega (arith, counts_fit IsInside (frame_values (take index fs)) n c, length-map (take index fs) frame_value, length-take-le index fs (omega (arith, less)), less)

pub one_more : (fs : List Frame) (index : ℕ) (d : Frame) → index < length fs → frame_values (take (index + 1) fs) ≡ frame_values (take index fs) ++ frame_value (get_or fs index d) ∷ []
one_more fs index d less = ap frame_values (take_more fs index d less) ∙ map-append frame_value (take index fs) (get_or fs index d ∷ [])

pub counted_yes : (fs : List Frame) (index n : ℕ) (d : Frame) (test : Bool) → Counts IsInside (frame_values (take index fs)) n → index < length fs → IsTrue test ↔ IsInside (frame_value (get_or fs index d)) → test ≡ true
    → Counts IsInside (frame_values (take (index + 1) fs)) (n + 1)
counted_yes fs index n d test c less is passes = rw (one_more fs index d less) (counts_yes IsInside (frame_values (take index fs)) (frame_value (get_or fs index d)) n c (is.0 passes))

pub counted_no : (fs : List Frame) (index n : ℕ) (d : Frame) (test : Bool) → Counts IsInside (frame_values (take index fs)) n → index < length fs → IsTrue test ↔ IsInside (frame_value (get_or fs index d)) → test ≡ false
    → Counts IsInside (frame_values (take (index + 1) fs)) n
counted_no fs index n d test c less is fails =
    rw (one_more fs index d less) (counts_no IsInside (frame_values (take index fs)) (frame_value (get_or fs index d)) n c (λ p. false≢true (sym fails ∙ is.1 p)))
