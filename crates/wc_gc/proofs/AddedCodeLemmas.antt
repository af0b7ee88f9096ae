-- The bytes of the code that is added, part by part.
use Rattle.std.proofs.Common.{◌≡◌, ℕ, ◌/◌, ◌^◌, List, [], ◌∷◌, ◌++◌, sym, ◌∙◌, subst, append_assoc}
use Rattle.std.specs.Prelude.{Option}
use Rattle.std.proofs.lemmas.Grind.{flat_map-append}
use Rattle.wc_read.specs.Operators.{InstrValue}
use Rattle.wc_read.specs.Bodies.{BodyValue}
use Rattle.wc_read.specs.declared.bodies.Locals.{Locals}
use Rattle.wc_read.specs.declared.types.ValType.TheVariants.{I32}
use Rattle.wc_write.specs.Text.{vector_text}
use Rattle.wc_write.specs.Operators.{instr_text}
use Rattle.wc_write.specs.Bodies.{locals_text, body_text}
use Rattle.wc_write.specs.Laws.{BodyTextIsRead}
use Rattle.wc_gc.specs.AddedCode.{end, trap_unless, growth, shifted, growing_body, stack_code, stack_body}
use Rattle.wc_gc.specs.MachineLaws.{IsSpellable, SpellsOnly}
use Rattle.wc_write.specs.Modules.{operators_text}

-- a part more
part_more : (old new before : List ℕ) (is js : List InstrValue) → new ≡ old ++ (before ++ operators_text is) → new ++ operators_text js ≡ old ++ (before ++ operators_text (is ++ js))
part_more old new before is js e = rw (e, flat_map-append instr_text is js) (simp append_assoc)

-- operators after the locals of a body
part_first : (old new before : List ℕ) (is : List InstrValue) → new ≡ old ++ before → new ++ operators_text is ≡ old ++ (before ++ operators_text is)
part_first old new before is e = rw e (append_assoc old before (operators_text is))

abbrev pub growing_locals : List Locals
growing_locals = record { count = 1; ty = I32 } ∷ []

pub stack_written : (old o1 o2 : List ℕ) (realloc stack : ℕ) (state : Option ℕ) → o1 ≡ old ++ vector_text locals_text [] → o2 ≡ o1 ++ operators_text (stack_code realloc stack state) → o2 ++ operators_text (end ∷ []) ≡ old ++ body_text (stack_body realloc stack state)
unfolding body_text stack_body
stack_written old o1 o2 realloc stack state e1 e2 =
    let code = stack_code realloc stack state in
    part_more old o2 (vector_text locals_text []) code (end ∷ []) (e2 ∙ part_first old o1 (vector_text locals_text []) code e1)

pub growing_written : (e : ℕ) (old o1 o2 o3 o4 o5 o6 : List ℕ) → o1 ≡ old ++ vector_text locals_text growing_locals → o2 ≡ o1 ++ operators_text (trap_unless 0 0) → o3 ≡ o2 ++ operators_text (trap_unless 1 0) → o4 ≡ o3 ++ operators_text (trap_unless 3 65536) → o5 ≡ o4 ++ operators_text (growth (65536 / 2 ^ e) 0) → o6 ≡ o5 ++ operators_text (shifted e) → o6 ++ operators_text (end ∷ []) ≡ old ++ body_text (growing_body e 0)
unfolding body_text growing_body
growing_written e old o1 o2 o3 o4 o5 o6 e1 e2 e3 e4 e5 e6 = rw (e6, e5, e4, e3, e2, e1) (simp (append_assoc, flat_map-append))

-- bytes that are the text of a body spell a body of its kind, and no other
pub spells_only : (IsOfKind : BodyValue → Type 0) (b : BodyValue) (bytes : List ℕ) → BodyTextIsRead → IsSpellable b → IsOfKind b → bytes ≡ body_text b → SpellsOnly IsOfKind bytes
spells_only IsOfKind b bytes read spellable kind e =
    let all = read b spellable.0 spellable.1 in
    subst (SpellsOnly IsOfKind) (sym e) (record { body = b; spelled = all.0; unique = all.1; is_of_kind = kind })
