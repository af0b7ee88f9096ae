-- Names of built-ins for futures and streams, and their parts.
use Rattle.std.proofs.Common.{◌≡◌, ℕ, true, cond, nat_eq, codes, Option, Some, None, List, [], ◌∷◌, ◌++◌, refl, sym, ap, ◌∙◌, subst}
use Rattle.wc_names.specs.declared.async_values.AsyncValue.{AsyncValue}
use Rattle.wc_names.specs.declared.async_values.AsyncValue.TheVariants.{Future, Stream}
use Rattle.wc_names.specs.declared.async_values.Operation.{Operation}
use Rattle.wc_names.specs.declared.async_values.Operation.TheVariants.{New, Write, Read, CancelWrite, CancelRead, Forward, DropWritable, DropReadable}
use Rattle.wc_names.specs.AsyncValues.{async_value_name, bracketed_text, operation_row, operation_text, value_text}
use Rattle.wc_names.specs.Mangling.{lowered_name}
use Rattle.wc_names.specs.Texts.{IsSplitAtFirst, Lacks}
use Rattle.wc_names.proofs.TextLemmas.{lacks, lacks_after, lacks_append, lacks_by_test, lacks_cons, not_lacking, split_unique}

value_lacks : (v : AsyncValue) → lacks 93 (value_text v) ≡ true
value_lacks Future = refl
value_lacks Stream = refl

operation_lacks : (v : AsyncValue) (op : Operation) → lacks 93 (operation_row v op).text ≡ true
operation_lacks v New = refl
operation_lacks v Write = refl
operation_lacks v Read = refl
operation_lacks v CancelWrite = refl
operation_lacks v CancelRead = refl
operation_lacks v Forward = refl
operation_lacks v DropWritable = refl
operation_lacks v DropReadable = refl

-- what is between the brackets has no closing bracket
bracketed_lacks : (v : AsyncValue) (op : Operation) (which : List ℕ) → Lacks 93 which → Lacks 93 (bracketed_text v op which)
bracketed_lacks v op which l =
    let after_operation : Lacks 93 (45 ∷ which) = lacks_cons 93 45 which (λ e. let bad : ⊥ = cc e in bad) l in
    let after_value : Lacks 93 (45 ∷ operation_text v op which) = lacks_cons 93 45 (operation_text v op which) (λ e. let bad : ⊥ = cc e in bad)
    (lacks_append 93 (operation_row v op).text (45 ∷ which) (lacks_by_test 93 (operation_row v op).text (operation_lacks v op)) after_operation) in
    lacks_append 93 (value_text v) (45 ∷ operation_text v op which) (lacks_by_test 93 (value_text v) (value_lacks v)) after_value

-- the text that says which future or stream it is has no closing bracket
pub which_lacks : (v : AsyncValue) (op : Operation) (which inside : List ℕ) → inside ≡ bracketed_text v op which → Lacks 93 inside → Lacks 93 which
which_lacks v op which inside is l =
    lacks_after 93 (45 ∷ []) which (lacks_after 93 (operation_row v op).text (45 ∷ which)
    (lacks_after 93 (45 ∷ []) (operation_text v op which) (lacks_after 93 (value_text v) (45 ∷ operation_text v op which) (subst (Lacks 93) is l))))

-- a name after its opening bracket
after_opening : (name rest : List ℕ) (v : AsyncValue) (op : Operation) (which f : List ℕ) → name ≡ 91 ∷ rest → name ≡ async_value_name v op which f
    → rest ≡ bracketed_text v op which ++ (93 ∷ f)
after_opening name rest v op which f begins is =
    let both : 91 ∷ rest ≡ 91 ∷ (bracketed_text v op which ++ (93 ∷ f)) = sym begins ∙ is in
    cc both

-- a text without a closing bracket is no name
pub no_closing : (name rest : List ℕ) (v : AsyncValue) (op : Operation) (which f : List ℕ) → name ≡ 91 ∷ rest → Lacks 93 rest
    → ¬ (name ≡ async_value_name v op which f)
no_closing name rest v op which f begins l is = not_lacking 93 rest (bracketed_text v op which) f l (after_opening name rest v op which f begins is)

-- a text that has other text in its brackets is no name
pub not_bracketed : (name rest inside function : List ℕ) (v : AsyncValue) (op : Operation) (which f : List ℕ) → name ≡ 91 ∷ rest
    → IsSplitAtFirst 93 rest inside function
    → ¬ (inside ≡ bracketed_text v op which) → Lacks 93 which → ¬ (name ≡ async_value_name v op which f)
not_bracketed name rest inside function v op which f begins split other l is =
    other (split_unique 93 inside (bracketed_text v op which) function f split.1 (bracketed_lacks v op which l)
    (sym split.0 ∙ after_opening name rest v op which f begins is)).0

-- the parts of a name put together
pub name_of_parts : (name rest inside function : List ℕ) (v : AsyncValue) (op : Operation) (which : List ℕ) → name ≡ 91 ∷ rest
    → IsSplitAtFirst 93 rest inside function
    → inside ≡ bracketed_text v op which → (name ≡ async_value_name v op which function) × Lacks 93 which
name_of_parts name rest inside function v op which begins split is = (
  begins ∙ ap (λ (z : List ℕ). 91 ∷ z) (split.0 ∙ ap (λ (z : List ℕ). z ++ (93 ∷ function)) is),
  which_lacks v op which inside is split.1,
)

-- what is after a prefix, by computing
abbrev after_prefix : List ℕ → List ℕ → Option (List ℕ)
after_prefix [] text = Some text
after_prefix (c ∷ cs) [] = None
after_prefix (c ∷ cs) (b ∷ bs) = cond (nat_eq c b) (after_prefix cs bs) None

operation_unique : (v u : AsyncValue) (a b : Operation) (x y : List ℕ) → operation_text v a x ≡ operation_text u b y → (a ≡ b) × (x ≡ y)
operation_unique v u New New x y e = (refl, cc e)
operation_unique v u Write Write x y e = (refl, cc e)
operation_unique v u Read Read x y e = (refl, cc e)
operation_unique v u CancelWrite CancelWrite x y e = (refl, cc e)
operation_unique v u CancelRead CancelRead x y e = (refl, cc e)
operation_unique v u Forward Forward x y e = (refl, cc e)
operation_unique v u DropWritable DropWritable x y e = (refl, cc e)
operation_unique v u DropReadable DropReadable x y e = (refl, cc e)
operation_unique v u a b x y e = absurd (let t : None ≡ Some y = ap (after_prefix ((operation_row u b).text ++ (45 ∷ []))) e in let bad : ⊥ = cc t in bad)

bracketed_unique : (v u : AsyncValue) (a b : Operation) (x y : List ℕ) → bracketed_text v a x ≡ bracketed_text u b y → (v ≡ u) × (a ≡ b) × (x ≡ y)
bracketed_unique Future Future a b x y e =
    let both = operation_unique Future Future a b x y (let rest : operation_text Future a x ≡ operation_text Future b y = cc e in rest) in
    (refl, both.0, both.1)
bracketed_unique Stream Stream a b x y e =
    let both = operation_unique Stream Stream a b x y (let rest : operation_text Stream a x ≡ operation_text Stream b y = cc e in rest) in
    (refl, both.0, both.1)
bracketed_unique v u a b x y e =
    absurd (let t : None ≡ Some (operation_text u b y) = ap (after_prefix (value_text u ++ (45 ∷ []))) e in let bad : ⊥ = cc t in bad)

-- a name has one reading
pub name_unique : (v u : AsyncValue) (a b : Operation) (x y f g : List ℕ) → Lacks 93 x → Lacks 93 y → async_value_name v a x f ≡ async_value_name u b y g
    → (v ≡ u) × (a ≡ b) × (x ≡ y) × (f ≡ g)
name_unique v u a b x y f g lx ly e =
    let rest : bracketed_text v a x ++ (93 ∷ f) ≡ bracketed_text u b y ++ (93 ∷ g) = cc e in
    let both = split_unique 93 (bracketed_text v a x) (bracketed_text u b y) f g (bracketed_lacks v a x lx) (bracketed_lacks u b y ly) rest in
    let parts = bracketed_unique v u a b x y both.0 in
    (parts.0, parts.1, parts.2, both.1)

-- a name without `[async-lower]` doesn't begin with that
pub not_async_lower : (v : AsyncValue) (op : Operation) (which f rest : List ℕ) → ¬ (async_value_name v op which f ≡ lowered_name true rest)
not_async_lower Future op which f rest e = let t : None ≡ Some rest = ap (after_prefix (codes "[async-lower]")) e in let bad : ⊥ = cc t in bad
not_async_lower Stream op which f rest e = let t : None ≡ Some rest = ap (after_prefix (codes "[async-lower]")) e in let bad : ⊥ = cc t in bad
