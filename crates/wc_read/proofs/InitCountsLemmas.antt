-- The loop that counts the values that an initialiser leaves.
use Rattle.std.proofs.Common.{◌≡◌, ℕ, ◌+◌, ◌≤◌, List, [], ◌∷◌, ◌++◌, length, Bool, true, false, Option, Some, None, refl, sym, ◌∙◌, ap, subst, arith, inl, inr, eqb-true}
use Rattle.std.specs.Prelude.{◌==◌}
use Rattle.std.proofs.lemmas.Bool.{false≢true}
use Rattle.wc_read.specs.Formats.{SpellsItems}
use Rattle.wc_read.specs.Options.{◌>>=◌}
use Rattle.wc_read.specs.Operators.{InstrValue, SpellsInstr}
use Rattle.wc_read.specs.Reading.Instructions.{instr_at}
use Rattle.wc_read.specs.Reading.Inits.{is_end}
use Rattle.wc_read.specs.Inits.{end_value}
use Rattle.wc_read.specs.InitTypes.{InitScope, IsTyped}
use Rattle.wc_read.specs.Reading.InitTypes.{next_depth, leaves_so, step_of, step_at}
use Rattle.wc_read.specs.declared.types.ValType.{ValType}
use Rattle.wc_read.specs.declared.init_types.InitStep.{InitStep}
use Rattle.wc_read.specs.declared.init_types.InitStep.TheVariants.{End, Leaves, Fails}
use Rattle.wc_read.proofs.OptionsLemmas.{some_none, some_pair}
use Rattle.wc_read.proofs.MeetsLemmas.{bind_is, one_spelling, no_spelling}
use Rattle.wc_read.proofs.OperatorsLemmas.{instr_meets, instr_some}
use Rattle.wc_read.proofs.ToEndLemmas.{to_shorter}
use Rattle.wc_read.proofs.UntilLemmas.{chosen}
use Rattle.wc_read.proofs.InitsLemmas.{end_is, constant_goes_on}
use Rattle.wc_read.proofs.InitDepthsLemmas.{depth_after, leaves_constant, depth_more, depth_fails, depth_constant, depth_bound, depth_none, depth_same, one_from_depth, depth_from_one}

-- what an operator does

given : (o : Option ℕ) (e : ℕ) → leaves_so o ≡ Leaves e → o ≡ Some e
given None e is = absurd cc
given (Some d) e is = let s : d ≡ e = cc in ap Some s

not_given : (o : Option ℕ) → leaves_so o ≡ Fails → o ≡ None
not_given None is = refl
not_given (Some d) is = absurd cc

no_end : (o : Option ℕ) → leaves_so o ≡ End → ⊥
no_end None is = absurd cc
no_end (Some d) is = absurd cc

-- the first of the items is the operator that was read
first_is : (rest : List ℕ) (i : InstrValue) (after : List ℕ) → instr_at rest ≡ Some (i, after) → (x : InstrValue) (xs : List InstrValue) → SpellsItems SpellsInstr rest (x ∷ xs) → (x ≡ i) × SpellsItems SpellsInstr after xs
first_is rest i after e x xs s =
    let t = instr_meets.parses rest i after e in
    let p = one_spelling SpellsInstr instr_at instr_meets s.0 t.0 x i s.1 after (sym s.2 ∙ t.1) s.3 t.2 in
    (p.0, subst (λ (b : List ℕ). SpellsItems SpellsInstr b xs) p.1 s.4)

none_in : (a b : List ℕ) (x : InstrValue) → [] ≡ a ++ b → SpellsInstr a x → ⊥
none_in [] b x cut s = instr_some x s
none_in (c ∷ a) b x cut s = absurd cc

module _ (scope : InitScope) (t : ValType) where
  -- operators and an end, which leave one value where there are so many at the front
  pub record LeavesFrom (depth : ℕ) (bytes : List ℕ) : Type 0 where
    pub front : List InstrValue
    pub spelled : SpellsItems SpellsInstr bytes (front ++ (end_value ∷ []))
    pub counts : depth_after scope t depth front ≡ Some 1

  typed_to : (bytes : List ℕ) → IsTyped scope t bytes → LeavesFrom 0 bytes
  typed_to bytes i = record {
    front = i.front;
    spelled = subst (λ (is : List InstrValue). SpellsItems SpellsInstr bytes is) i.cut i.has_operators.0;
    counts = depth_from_one scope t i.front i.leaves;
  }

  typed_from : (bytes : List ℕ) → LeavesFrom 0 bytes → IsTyped scope t bytes
  typed_from bytes l =
      let one = one_from_depth scope t l.front l.counts in
      record { operators = l.front ++ (end_value ∷ []); front = l.front; has_operators = (l.spelled, (l.front, refl, leaves_constant one)); cut = refl; leaves = one }

  -- what is left leaves one value where all of the bytes do
  pub record IsCounted (depth counter : ℕ) (rest bytes : List ℕ) : Type 0 where
    pub to_all : LeavesFrom depth rest → LeavesFrom 0 bytes
    pub from_all : LeavesFrom 0 bytes → LeavesFrom depth rest
    pub bounded : depth ≤ counter
    pub left : length rest + counter ≤ length bytes

  record HasInstr (depth : ℕ) (rest : List ℕ) (does : InitStep) (after : List ℕ) : Type 0 where
    instr : InstrValue
    reads : instr_at rest ≡ Some (instr, after)
    step : step_of scope t depth instr ≡ does

  abbrev what_it_does : ℕ → InstrValue × List ℕ → Option (InitStep × List ℕ)
  what_it_does depth i = Some (step_of scope t depth i.0, i.1)

  has_instr : (depth : ℕ) (rest : List ℕ) (does : InitStep) (after : List ℕ) → step_at scope t depth rest ≡ Some (does, after) → HasInstr depth rest does after
  unfolding step_at
  has_instr depth rest does after e =
      let s = bind_is (instr_at rest) (what_it_does depth) (does, after) e in
      let p = some_pair (step_of scope t depth s.0.0) does s.0.1 after s.2 in
      record { instr = s.0.0; reads = s.1 ∙ ap (λ (r : List ℕ). Some (s.0.0, r)) p.1; step = p.0 }

  goes_on : (depth : ℕ) (i : InstrValue) (e : ℕ) → step_of scope t depth i ≡ Leaves e → (is_end i.opcode ≡ false) × (next_depth scope t depth i ≡ Some e)
  goes_on depth i e is = elim (chosen (is_end i.opcode) End (leaves_so (next_depth scope t depth i)) (Leaves e) is) [
    | inl p ↦ let same : End ≡ Leaves e = p.1 in absurd (cc same)
    | inr p ↦ (p.0, given (next_depth scope t depth i) e p.1)
  ]

  goes_wrong : (depth : ℕ) (i : InstrValue) → step_of scope t depth i ≡ Fails → (is_end i.opcode ≡ false) × (next_depth scope t depth i ≡ None)
  goes_wrong depth i is = elim (chosen (is_end i.opcode) End (leaves_so (next_depth scope t depth i)) Fails is) [
    | inl p ↦ let same : End ≡ Fails = p.1 in absurd (cc same)
    | inr p ↦ (p.0, not_given (next_depth scope t depth i) p.1)
  ]

  goes_to_end : (depth : ℕ) (i : InstrValue) → step_of scope t depth i ≡ End → is_end i.opcode ≡ true
  goes_to_end depth i is = elim (chosen (is_end i.opcode) End (leaves_so (next_depth scope t depth i)) End is) [
    | inl p ↦ p.0
    | inr p ↦ absurd (no_end (next_depth scope t depth i) p.1)
  ]

  -- an operator that is no end is not read at the end
  not_end : (i : InstrValue) → is_end i.opcode ≡ false → end_value ≡ i → ⊥
  not_end i other is = absurd (false≢true (sym other ∙ ap (λ (j : InstrValue). is_end j.opcode) (sym is)))

  pub count_more : (depth e counter : ℕ) (rest after bytes : List ℕ) → IsCounted depth counter rest bytes → step_at scope t depth rest ≡ Some (Leaves e, after) → IsCounted e (counter + 1) after bytes
  count_more depth e counter rest after bytes c step =
      let h = has_instr depth rest (Leaves e) after step in
      let g = goes_on depth h.instr e h.step in
      let u = instr_meets.parses rest h.instr after h.reads in
      record {
        to_all = λ l. c.to_all (record {
          front = h.instr ∷ l.front;
          spelled = (u.0, after, u.1, u.2, l.spelled);
          counts = depth_more scope t depth e h.instr l.front g.1 ∙ l.counts;
        });
        from_all = λ l. let k = c.from_all l in go h.instr h.reads g.0 g.1 k.front k.spelled k.counts;
        bounded = omega (arith, c.bounded, depth_bound scope t depth e h.instr g.1);
        left = omega (arith, c.left, to_shorter SpellsInstr instr_at instr_meets instr_some rest h.instr after h.reads);
      }
    where
      go : (i : InstrValue) → instr_at rest ≡ Some (i, after) → is_end i.opcode ≡ false → next_depth scope t depth i ≡ Some e → (front : List InstrValue) → SpellsItems SpellsInstr rest (front ++ (end_value ∷ [])) → depth_after scope t depth front ≡ Some 1 → LeavesFrom e after
      go i reads other next [] s counts = absurd (not_end i other (first_is rest i after reads end_value [] s).0)
      go i reads other next (x ∷ xs) s counts =
          let f = first_is rest i after reads x (xs ++ (end_value ∷ [])) s in
          record { front = xs; spelled = f.1; counts = sym (depth_more scope t depth e i xs next) ∙ ap (λ (y : InstrValue). depth_after scope t depth (y ∷ xs)) (sym f.0) ∙ counts }

  pub count_fails : (depth counter : ℕ) (rest after bytes : List ℕ) → IsCounted depth counter rest bytes → step_at scope t depth rest ≡ Some (Fails, after) → IsTyped scope t bytes → ⊥
  count_fails depth counter rest after bytes c step typed =
      let h = has_instr depth rest Fails after step in
      let g = goes_wrong depth h.instr h.step in
      let k = c.from_all (typed_to bytes typed) in
      go h.instr h.reads g.0 g.1 k.front k.spelled k.counts
    where
      go : (i : InstrValue) → instr_at rest ≡ Some (i, after) → is_end i.opcode ≡ false → next_depth scope t depth i ≡ None → (front : List InstrValue) → SpellsItems SpellsInstr rest (front ++ (end_value ∷ [])) → depth_after scope t depth front ≡ Some 1 → ⊥
      go i reads other none [] s counts = not_end i other (first_is rest i after reads end_value [] s).0
      go i reads other none (x ∷ xs) s counts =
          let f = first_is rest i after reads x (xs ++ (end_value ∷ [])) s in
          some_none 1 (sym counts ∙ ap (λ (y : InstrValue). depth_after scope t depth (y ∷ xs)) f.0 ∙ depth_fails scope t depth i xs none)

  pub count_stops : (depth counter : ℕ) (rest bytes : List ℕ) → IsCounted depth counter rest bytes → step_at scope t depth rest ≡ None → IsTyped scope t bytes → ⊥
  unfolding step_at
  count_stops depth counter rest bytes c none typed = let k = c.from_all (typed_to bytes typed) in go k.front k.spelled
    where
      nothing : (o : Option (InstrValue × List ℕ)) → (o >>= what_it_does depth) ≡ None → o ≡ None
      nothing None e = refl
      nothing (Some i) e = some_none (step_of scope t depth i.0, i.1) e

      go : (front : List InstrValue) → SpellsItems SpellsInstr rest (front ++ (end_value ∷ [])) → ⊥
      go [] s = no_spelling SpellsInstr instr_at instr_meets rest (nothing (instr_at rest) none) s.0 s.1 end_value s.2 s.3
      go (x ∷ xs) s = no_spelling SpellsInstr instr_at instr_meets rest (nothing (instr_at rest) none) s.0 s.1 x s.2 s.3

  -- no bytes are left for an end
  pub count_out : (depth counter : ℕ) (rest bytes : List ℕ) → IsCounted depth counter rest bytes → length bytes ≤ counter → IsTyped scope t bytes → ⊥
  count_out depth counter rest bytes c all typed = let k = c.from_all (typed_to bytes typed) in go rest (omega (arith, c.left, all)) k.front k.spelled
    where
      go : (rest : List ℕ) → length rest ≤ 0 → (front : List InstrValue) → SpellsItems SpellsInstr rest (front ++ (end_value ∷ [])) → ⊥
      go [] none [] s = none_in s.0 s.1 end_value s.2 s.3
      go [] none (x ∷ xs) s = none_in s.0 s.1 x s.2 s.3
      go (b ∷ rest) none front s = absurd (omega (arith, none))

  -- at the end there is one value, and nothing after
  pub count_end : (depth counter : ℕ) (rest after bytes : List ℕ) → IsCounted depth counter rest bytes → step_at scope t depth rest ≡ Some (End, after) → IsTyped scope t bytes → (depth ≡ 1) × (after ≡ [])
  count_end depth counter rest after bytes c step typed =
      let h = has_instr depth rest End after step in
      let k = c.from_all (typed_to bytes typed) in
      go h.instr h.reads (goes_to_end depth h.instr h.step) k.front k.spelled k.counts
    where
      go : (i : InstrValue) → instr_at rest ≡ Some (i, after) → is_end i.opcode ≡ true → (front : List InstrValue) → SpellsItems SpellsInstr rest (front ++ (end_value ∷ [])) → depth_after scope t depth front ≡ Some 1 → (depth ≡ 1) × (after ≡ [])
      go i reads ends [] s counts = (depth_none scope t depth 1 counts, (first_is rest i after reads end_value [] s).1)
      go i reads ends (x ∷ xs) s counts =
          let f = first_is rest i after reads x (xs ++ (end_value ∷ [])) s in
          let other = constant_goes_on x.opcode (depth_constant scope t depth 1 x xs counts) in
          absurd (false≢true (sym other ∙ ap (λ (j : InstrValue). is_end j.opcode) f.0 ∙ ends))

  pub count_typed : (depth counter : ℕ) (rest after bytes : List ℕ) → IsCounted depth counter rest bytes → step_at scope t depth rest ≡ Some (End, after) → depth ≡ 1 → after ≡ [] → IsTyped scope t bytes
  count_typed depth counter rest after bytes c step one none =
      let h = has_instr depth rest End after step in
      let u = instr_meets.parses rest h.instr after h.reads in
      let is = end_is u.0 h.instr u.2 (goes_to_end depth h.instr h.step) in
      typed_from bytes (c.to_all (record {
        front = [];
        spelled = (u.0, after, u.1, subst (λ (i : InstrValue). SpellsInstr u.0 i) is u.2, none);
        counts = depth_same scope t depth ∙ ap Some one;
      }))

  -- answers, as whether the initialiser is typed

  abbrev pub IsAnswer : Bool → List ℕ → Type 0
  IsAnswer answer bytes = (answer ≡ true → IsTyped scope t bytes) × (IsTyped scope t bytes → answer ≡ true)

  pub answer_no : (bytes : List ℕ) → (IsTyped scope t bytes → ⊥) → IsAnswer false bytes
  answer_no bytes wrong = ((λ e. absurd (false≢true e)), (λ i. absurd (wrong i)))

  none_left : (after : List ℕ) → true ≡ (length after == 0) → after ≡ []
  none_left [] e = refl
  none_left (b ∷ after) e = let h : length (b ∷ after) ≡ 0 = eqb-true (length (b ∷ after)) 0 (sym e) in absurd (omega (arith, h))

  pub answer_end : (depth counter : ℕ) (rest after bytes : List ℕ) (answer : Bool) → IsCounted depth counter rest bytes → step_at scope t depth rest ≡ Some (End, after) → depth ≡ 1 → answer ≡ (length after == 0) → IsAnswer answer bytes
  answer_end depth counter rest after bytes answer c step one is = (
    (λ says. count_typed depth counter rest after bytes c step one (none_left after (sym says ∙ is))),
    (λ typed. let e = count_end depth counter rest after bytes c step typed in is ∙ ap (λ (b : List ℕ). length b == 0) e.1),
  )

  pub answer_else : (depth counter : ℕ) (rest after bytes : List ℕ) → IsCounted depth counter rest bytes → step_at scope t depth rest ≡ Some (End, after) → (depth ≡ 1 → ⊥) → IsAnswer (depth == 1) bytes
  answer_else depth counter rest after bytes c step other = (
    (λ says. absurd (other (eqb-true depth 1 says))),
    (λ typed. absurd (other (count_end depth counter rest after bytes c step typed).0)),
  )
