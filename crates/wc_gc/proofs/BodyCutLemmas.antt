-- Bodies cut into stretches.
use Rattle.std.proofs.Common.{◌≡◌, ◌≢◌, inl, inr, ℕ, zero, suc, ◌+◌, ◌≤◌, List, [], ◌∷◌, ◌++◌, length, take, drop, set, refl, sym, ◌∙◌, ap, subst, arith, true, false, Option, Some, None, append_assoc, append-nil}
use Rattle.std.specs.Prelude.{◌==◌, is_some, replicate}
use Rattle.std.specs.Borrow.{Bor}
use Rattle.std.specs.List.{flat_map, slice_get}
use Rattle.std.specs.Option.{option_map, option_map_or}
use Rattle.std.proofs.lemmas.List.{map-append, take-append-le, take_all}
use Rattle.std.proofs.lemmas.Grind.{flat_map-append}
use Rattle.std.proofs.lemmas.Bool.{false≢true}
use Rattle.std.proofs.lemmas.Bool.Decides.{eqb_tells}
use Rattle.std.proofs.lemmas.Option.{same_Some}
use Rattle.wc_read.specs.Operators.{InstrValue}
use Rattle.wc_read.specs.Bodies.{BodyValue}
use Rattle.wc_read.specs.BodyOperators.{body_in, body_of, body_operators}
use Rattle.wc_read.specs.Passing.{run_and_left}
use Rattle.wc_read.specs.Renumbering.{Renumbering, renumber_instr}
use Rattle.wc_read.specs.declared.bodies.Locals.{Locals}
use Rattle.wc_read.specs.Items.{DefValue, imported, local, def_value}
use Rattle.wc_read.specs.declared.items.Def.{Def}
use Rattle.wc_read.specs.declared.items.Def.TheVariants.{Import, Local}
use Rattle.wc_read.specs.declared.items.Item.{Item}
use Rattle.wc_read.specs.declared.operators.Space.TheVariants.{Memories}
use Rattle.wc_write.specs.Operators.{instr_text}
use Rattle.wc_read.specs.Items.{def_seen}
use Rattle.wc_read.specs.Decoded.{func_code}
use Rattle.wc_gc.specs.Image.{renumber_code}
use Rattle.wc_gc.specs.Private.BodyCuts.{Adds, AreCut, AreCutAt, AreCutTo, AreWithin, IsBodyCut, IsCutIfKept, IsFuncCut, IsFuncCutIfKept, IsOpenAt, Passes, ReadFuncs, operator_after, stretch_text, stretches_in, text_left}
use Rattle.wc_gc.specs.Private.KeptBodies.{AreBodiesCut, IsCutAt, IsFuncCutAt, stretches_at}
use Rattle.wc_gc.specs.declared.body_cuts.BodyCut.{BodyCut}
use Rattle.wc_gc.specs.declared.body_cuts.BodyCuts.{BodyCuts}
use Rattle.wc_gc.specs.declared.body_cuts.Stretch.{Stretch}
use Rattle.wc_gc.proofs.RewriteLemmas.{passed_text_left}
use Rattle.wc_graph.proofs.ListLemmas.{get_set_other}

-- no operators, and those that are left
pub none_run : (left : Option (List InstrValue)) → left ≡ run_and_left [] left
none_run None = refl
none_run (Some is) = refl

-- two runs after each other
two_runs : (a b : List InstrValue) (left : Option (List InstrValue)) → run_and_left a (run_and_left b left) ≡ run_and_left (a ++ b) left
two_runs a b None = refl
two_runs a b (Some is) = ap Some (sym (append_assoc a b is))

-- of code
some_run : (is : List InstrValue) (left : Option (List InstrValue)) → is_some left ≡ true → is_some (run_and_left is left) ≡ true
some_run is None e = absurd cc
some_run is (Some xs) e = refl

two_texts : (new : Renumbering) (a b : List InstrValue) → text_left new (Some (a ++ b)) ≡ text_left new (Some a) ++ text_left new (Some b)
two_texts new a b = ap (flat_map instr_text) (map-append (renumber_instr new) a b) ∙ flat_map-append instr_text (renumber_code new a) (renumber_code new b)

run_text : (new : Renumbering) (is : List InstrValue) (left : Option (List InstrValue)) → is_some left ≡ true
    → text_left new (run_and_left is left) ≡ text_left new (Some is) ++ text_left new left
run_text new is None e = absurd cc
run_text new is (Some xs) e = two_texts new is xs

-- a stretch more
stretch_more : (new : Renumbering) (ss : List Stretch) (s : Stretch) → flat_map (stretch_text new) (ss ++ s ∷ []) ≡ flat_map (stretch_text new) ss ++ stretch_text new s
stretch_more new ss s = flat_map-append (stretch_text new) ss (s ∷ []) ∙ ap (λ (z : List ℕ). flat_map (stretch_text new) ss ++ z) (append-nil (stretch_text new s))

added : (old mid after : BodyCut) (all left rest : Option (List InstrValue)) (is : List InstrValue)
    → (old.is_kept ≡ true → (old.run.now ≡ []) × AreCutTo old.stretches.items all left) → Passes old mid left (run_and_left is rest) → Adds mid after is → after.is_kept ≡ true
    → AreCutTo after.stretches.items all rest
added old mid after all left rest is cut p add kept some new first =
    let a = add kept in
    let before = cut (sym p.4 ∙ a.0) in
    let passed = p.1 a.0 before.0 in
    let s = a.2.0 in
    let texts = flat_map (stretch_text new) old.stretches.items in
    let there : is_some (run_and_left is rest) ≡ true = some_run is rest some in
    let all_left : is_some left ≡ true = ap is_some p.2 ∙ some_run p.0 (run_and_left is rest) there in
    let same : after.stretches.items ≡ old.stretches.items ++ s ∷ [] = a.2.1 ∙ ap (λ (z : List Stretch). z ++ s ∷ []) p.3 in
    let text : stretch_text new s ++ text_left new rest ≡ text_left new left
    = append_assoc s.run.now (text_left new (Some (operator_after s))) (text_left new rest)
    ∙ (ap (λ (z : List ℕ). z ++ (text_left new (Some (operator_after s)) ++ text_left new rest)) a.2.2
    ∙ (ap (λ (z : List InstrValue). mid.run.now ++ (text_left new (Some z) ++ text_left new rest)) a.2.3
    ∙ (ap (λ (z : List ℕ). mid.run.now ++ z) (sym (run_text new is rest some))
    ∙ (passed_text_left new passed.0 p.0 mid.run.now (run_and_left is rest) first passed.1 (some_run p.0 (run_and_left is rest) there)
    ∙ ap (text_left new) (sym p.2))))) in
    ap (λ (z : List Stretch). flat_map (stretch_text new) z ++ text_left new rest) same
    ∙ (ap (λ (z : List ℕ). z ++ text_left new rest) (stretch_more new old.stretches.items s)
    ∙ (append_assoc texts (stretch_text new s) (text_left new rest)
    ∙ (ap (λ (z : List ℕ). texts ++ z) text ∙ before.1 all_left new first)))

-- a body is cut as it is read

pub cut_none : (ss : List Stretch) (all : Option (List InstrValue)) → ss ≡ [] → AreCutTo ss all all
cut_none ss all e = λ some new first. ap (λ (z : List Stretch). flat_map (stretch_text new) z ++ text_left new all) e

one_run : (i : InstrValue) (left : Option (List InstrValue)) → option_map (λ is. i ∷ is) left ≡ run_and_left (i ∷ []) left
one_run i None = refl
one_run i (Some is) = refl

pub cut_more : (old mid after : BodyCut) (all left rest : Option (List InstrValue)) (i : InstrValue)
    → (old.is_kept ≡ true → (old.run.now ≡ []) × AreCutTo old.stretches.items all left) → Passes old mid left (option_map (λ is. i ∷ is) rest) → Adds mid after (i ∷ []) → after.is_kept ≡ true
    → (after.run.now ≡ []) × AreCutTo after.stretches.items all rest
cut_more old mid after all left rest i cut p add kept =
    ((add kept).1, added old mid after all left rest (i ∷ []) cut (subst (λ (z : Option (List InstrValue)). Passes old mid left z) (one_run i rest) p) add kept)

operators_of_body : (locals : List Locals) (body : Option BodyValue) (all : Option (List InstrValue)) → body ≡ option_map (body_of locals) all → body_operators body ≡ all
operators_of_body locals body None e = ap body_operators e
operators_of_body locals body (Some is) e = ap body_operators e

pub cut_end : (old mid after : BodyCut) (locals : List Locals) (body : Option BodyValue) (all left : Option (List InstrValue))
    → body ≡ option_map (body_of locals) all
    → (old.is_kept ≡ true → (old.run.now ≡ []) × AreCutTo old.stretches.items all left) → Passes old mid left (Some []) → Adds mid after [] → IsCutIfKept after body
cut_end old mid after locals body all left is cut p add kept = λ new first.
    sym (append-nil (flat_map (stretch_text new) after.stretches.items))
    ∙ (added old mid after all left (Some []) [] cut p add kept refl new first
    ∙ ap (text_left new) (sym (operators_of_body locals body all is)))

-- the function that is at an index
pub open_at : (funcs : ReadFuncs) (n : ℕ) (f : Item ℕ (Bor (List ℕ))) (c : BodyCut) → slice_get funcs n ≡ Some f → IsFuncCutIfKept c f → IsOpenAt funcs n c
open_at funcs n f c at h = λ g there. subst (IsFuncCutIfKept c) (same_Some f g (sym at ∙ there)) h

-- bodies that are kept

no_span : (places n : ℕ) (span : ℕ × ℕ) → slice_get (replicate places (0, 0)) n ≡ Some span → span ≡ (0, 0)
no_span zero n span e = absurd cc
no_span (suc places) zero span e = sym (same_Some (0, 0) span e)
no_span (suc places) (suc n) span e = no_span places n span e

pub none_within : (places : ℕ) → AreWithin [] (replicate places (0, 0))
none_within places n span at = rw (no_span places n span at) (omega arith)

pub none_cut : (funcs : ReadFuncs) (places : ℕ) → AreCut funcs [] (replicate places (0, 0))
none_cut funcs places n span at = λ some f there. absurd (some (rw (no_span places n span at) refl))

get_set_same : {X : Type 0} (xs : List X) (n : ℕ) (x y : X) → slice_get (set xs n x) n ≡ Some y → y ≡ x
get_set_same [] n x y e = absurd cc
get_set_same (z ∷ xs) zero x y e = sym (same_Some x y e)
get_set_same (z ∷ xs) (suc n) x y e = get_set_same xs n x y e

-- stretches that are there stay where they are
part_stays : (a b : List Stretch) (from count : ℕ) → from + count ≤ length a → take count (drop from (a ++ b)) ≡ take count (drop from a)
part_stays a b zero count h = take-append-le count a b (omega arith)
part_stays [] b (suc from) count h = absurd (omega arith)
part_stays (x ∷ a) b (suc from) count h = part_stays a b from count (omega arith)

part_new : (a b : List Stretch) → take (length b) (drop (length a) (a ++ b)) ≡ b
part_new [] b = take_all (length b) b (omega arith)
part_new (x ∷ a) b = part_new a b

-- a span more
pub cut_kept : (funcs : ReadFuncs) (ss more : List Stretch) (spans : List (ℕ × ℕ)) (index from count : ℕ) (c : BodyCut) → AreWithin ss spans → AreCut funcs ss spans → IsOpenAt funcs index c → c.is_kept ≡ true
    → more ≡ c.stretches.items → from ≡ length ss → count ≡ length more → AreCut funcs (ss ++ more) (set spans index (from, count))
cut_kept funcs ss more spans index from count c within cut last kept is at_end all n span at = elim (eqb_tells n index) [ inl e ↦ here e.1 | inr d ↦ there d.1 ]
  where
    here : n ≡ index → AreCutAt funcs n (stretches_in (ss ++ more) span)
    here e =
        let s : span ≡ (from, count) = get_set_same spans index (from, count) span (ap (slice_get (set spans index (from, count))) (sym e) ∙ at) in
        let part : stretches_in (ss ++ more) span ≡ c.stretches.items
        = ap (stretches_in (ss ++ more)) (s ∙ (ap (λ (z : ℕ). (z, count)) at_end ∙ ap (λ (z : ℕ). (length ss, z)) all)) ∙ (part_new ss more ∙ is) in
        λ some f has. subst (λ (z : List Stretch). IsFuncCut z f) (sym part) (last f (ap (slice_get funcs) (sym e) ∙ has) kept)

    there : n ≢ index → AreCutAt funcs n (stretches_in (ss ++ more) span)
    there d =
        let old : slice_get spans n ≡ Some span = sym (get_set_other spans index n (from, count) d) ∙ at in
        subst (AreCutAt funcs n) (sym (part_stays ss more span.0 span.1 (within n span old))) (cut n span old)

-- the stretches at an index are those of its function
pub cut_at : (funcs : ReadFuncs) (c : BodyCuts) (n : ℕ) (f : Item ℕ (Bor (List ℕ))) → AreBodiesCut funcs c → slice_get funcs n ≡ Some f → IsFuncCutAt c n f
cut_at funcs c n f cut at = by (slice_get c.spans.items n) refl
  where
    by : (o : Option (ℕ × ℕ)) → slice_get c.spans.items n ≡ o → option_map_or (stretches_in c.stretches.items) o [] ≢ [] → IsFuncCut (option_map_or (stretches_in c.stretches.items) o []) f
    by None e some = absurd (some refl)
    by (Some span) e some = cut n span e some f at

pub cut_here : (c : BodyCuts) (n : ℕ) (body : Option BodyValue) (ss : List Stretch) → ss ≡ stretches_at c n → IsCutAt c n body → ss ≢ [] → IsBodyCut ss body
cut_here c n body ss e cut = subst (λ (z : List Stretch). z ≢ [] → IsBodyCut z body) (sym e) cut

-- there are stretches where they are not as many as none
pub some_stretches : (ss : List Stretch) → false ≡ (length ss == 0) → ss ≢ []
some_stretches ss some e = false≢true (some ∙ ap (λ (z : List Stretch). length z == 0) e)

-- stretches are written, as a body's operators are
pub stretches_written : (new : Renumbering) (ss : List Stretch) (locals : List Locals) (body : Option BodyValue) (all : Option (List InstrValue)) → body ≡ option_map (body_of locals) all
    → new Memories 0 ≡ 0 → IsBodyCut ss body → flat_map (stretch_text new) ss ≡ text_left new all
stretches_written new ss locals body all is first cut = cut new first ∙ ap (text_left new) (operators_of_body locals body all is)

-- a function's body

same_local : (a b : Option BodyValue) → ◌≡◌ {A = DefValue (Option BodyValue)} (local a) (local b) → a ≡ b
same_local a b e = cc

pub func_cut : (f : Item ℕ (Bor (List ℕ))) (bytes : Bor (List ℕ)) (ss : List Stretch) → f.def ≡ Local bytes → IsBodyCut ss (body_in bytes.now) → IsFuncCut ss f
func_cut f bytes ss at cut = λ body is.
    let same : body_in bytes.now ≡ body = same_local (body_in bytes.now) body (sym (ap (λ (d : Def (Bor (List ℕ))). def_seen body_in (def_value (λ b. b.now) d)) at) ∙ is) in
    subst (IsBodyCut ss) same cut

pub not_local : {P : Type 0} (f : Item ℕ (Bor (List ℕ))) (m n : Bor (List ℕ)) (body : Option BodyValue) → f.def ≡ Import m n → (func_code f).def ≡ local body → P
not_local f m n body at is =
    let e : ◌≡◌ {A = DefValue (Option BodyValue)} (imported m.now n.now) (local body) = sym (ap (λ (d : Def (Bor (List ℕ))). def_seen body_in (def_value (λ b. b.now) d)) at) ∙ is in
    absurd cc
