-- Operators that are passed over.
use Rattle.std.proofs.Common.{◌≡◌, ◌≢◌, inl, inr, ℕ, ◌+◌, ◌-◌, ◌<◌, ◌≤◌, List, [], ◌∷◌, ◌++◌, length, take, drop, Bool, true, false, Option, Some, None, refl, sym, ◌∙◌, ap, arith, append_assoc, append-nil}
use Rattle.std.specs.Prelude.{if◌then◌else◌}
use Rattle.std.specs.List.{flat_map}
use Rattle.std.specs.Option.{option_map}
use Rattle.std.proofs.lemmas.Bool.Decides.{nat_tests}
use Rattle.std.proofs.lemmas.List.{length-append, length-drop}
use Rattle.std.proofs.Math.Seq.{drop-append_seam, take-append_seam}
use Rattle.wc_read.specs.Operators.{byte_form, SpellsInstr, InstrValue, ImmediatesValue, WithNone, WithBlock, WithIndex, WithLabels, WithMemArg, WithI32, WithI64, WithBytes, index_of}
use Rattle.wc_read.specs.References.{refs_of, type_refs_of, one_ref, names_segment}
use Rattle.wc_read.specs.Nesting.{byte_token}
use Rattle.wc_read.specs.Text.{number_text, signed_text}
use Rattle.wc_read.specs.OperatorText.{immediates_text, instr_text}
use Rattle.wc_read.specs.BodyOperators.{operators_in}
use Rattle.wc_read.specs.Reading.Reader.{number_at, bytes_at}
use Rattle.wc_read.specs.Reading.Signed.{signed_at}
use Rattle.wc_read.specs.Reading.Instructions.{immediates_at, instr_of, instr_at}
use Rattle.wc_read.specs.Reading.Nesting.{step}
use Rattle.wc_read.specs.PassKinds.{pass_kind, short_size}
use Rattle.wc_read.specs.Private.TextSizes.{IsTextSize, SizesMemArg, SizesMemoryIndex, IsLabelsSize}
use Rattle.wc_read.specs.Passing.{ArePassable, IsPassable, IsPassableCode, run_and_left, PassesBlockStart, IsOperatorPassed, PassesOperator, PassesRun, AreOperatorsPassed, SizesShort}
use Rattle.wc_read.specs.Blocks.{BeginsElse, Closes, Pops}
use Rattle.wc_read.specs.declared.operators.Opcode.TheVariants.{Byte}
use Rattle.wc_read.specs.declared.operators.Space.TheVariants.{Memories}
use Rattle.wc_read.specs.declared.operators.IndexKind.TheVariants.{In}
use Rattle.wc_read.specs.declared.operators.Form.{Form}
use Rattle.wc_read.specs.declared.operators.Form.TheVariants.{None as form_none, Block as form_block, Index as form_index, Labels as form_labels, MemArg as form_mem_arg, I32 as form_i32, I64 as form_i64, Bytes as form_bytes}
use Rattle.wc_read.specs.declared.nesting.Token.TheVariants.{Plain, Block, If, Else, End}
use Rattle.wc_read.specs.declared.pass_kinds.PassKind.TheVariants.{CodeOnly, Index, I32 as ConstI32, I64 as ConstI64, FourBytes, EightBytes, MemArg, Memory, Labels, Block as OpensBlock, If as OpensIf, Else as MeetsElse, End as MeetsEnd}
use Rattle.wc_read.proofs.PassKindsLemmas.{kind_at, is_short_kind}
use Rattle.wc_read.proofs.FrequentLemmas.{frequent_read}
use Rattle.wc_read.proofs.ShortestTextLemmas.{memory_index_sized, number_short, signed_short}
use Rattle.wc_read.proofs.OptionsLemmas.{bind_some}
use Rattle.wc_read.proofs.OperatorsLemmas.{instr_meets, instr_some}
use Rattle.wc_read.proofs.ToEndLemmas.{to_shorter}
use Rattle.wc_read.proofs.BodyOperatorsLemmas.{left_read}

-- an operator by the form of its code
over : (memory : Bool) (input : List ℕ) (b : ℕ) (rest : List ℕ) (form : Form) (v : ImmediatesValue) (left : List ℕ) (old new : List Bool) (size : ℕ) → input ≡ b ∷ rest → byte_form b ≡ Some form → immediates_at form rest ≡ Some (v, left)
    → rest ≡ immediates_text v ++ left → size ≡ 1 + length (immediates_text v) → ArePassable memory (refs_of v) → names_segment v ≡ false → type_refs_of v ≡ [] → step old (byte_token b) ≡ Some new → IsOperatorPassed memory old input new size
unfolding instr_text
over memory input b rest form v left old new size e has read cut size_is refs segment types s = record {
  operator = instr_of (Byte b) v;
  left = left;
  read = rw e (frequent_read b rest form v left has read);
  cut = e ∙ ap (λ (z : List ℕ). b ∷ z) cut;
  size_is = size_is ∙ omega arith;
  passable = (refs, segment, types);
  steps = s;
}

plain_step : (old : List Bool) → old ≢ [] → step old Plain ≡ Some old
plain_step [] some = absurd (some refl)
plain_step (b ∷ blocks) some = refl

stays : (b : ℕ) (old : List Bool) → byte_token b ≡ Plain → old ≢ [] → step old (byte_token b) ≡ Some old
stays b old plain some = rw plain (plain_step old some)

-- those of each kind

pub code_only_over : (memory : Bool) (input : List ℕ) (b : ℕ) (rest : List ℕ) (old : List Bool) → input ≡ b ∷ rest → CodeOnly ≡ pass_kind b → old ≢ [] → IsOperatorPassed memory old input old 1
unfolding immediates_at immediates_text
code_only_over memory input b rest old e kind some = let w = kind_at b CodeOnly kind in over memory input b rest form_none WithNone rest old old 1 e w.0 refl refl refl (inl refl) refl refl (stays b old w.1 some)

pub index_over : (memory : Bool) (input : List ℕ) (b : ℕ) (rest : List ℕ) (old : List Bool) (size : ℕ) → input ≡ b ∷ rest → Index ≡ pass_kind b → old ≢ [] → IsTextSize (number_at 32) number_text rest size → IsOperatorPassed memory old input old (1 + size)
unfolding immediates_at immediates_text
index_over memory input b rest old size e kind some s =
    let w = kind_at b Index kind in
    over memory input b rest (form_index w.0) (WithIndex (index_of w.0 s.value)) s.left old old (1 + size) e w.1 (bind_some _ _ (s.value, s.left) s.read_is) s.cut (ap (λ (k : ℕ). 1 + k) s.size_is)
    (inl (ap one_ref (w.3 s.value))) w.4 refl (stays b old w.2 some)

pub i32_over : (memory : Bool) (input : List ℕ) (b : ℕ) (rest : List ℕ) (old : List Bool) (size : ℕ) → input ≡ b ∷ rest → ConstI32 ≡ pass_kind b → old ≢ [] → IsTextSize (signed_at 32) signed_text rest size → IsOperatorPassed memory old input old (1 + size)
unfolding immediates_at immediates_text
i32_over memory input b rest old size e kind some s =
    let w = kind_at b ConstI32 kind in
    over memory input b rest form_i32 (WithI32 s.value) s.left old old (1 + size) e w.0 (bind_some _ _ (s.value, s.left) s.read_is) s.cut (ap (λ (k : ℕ). 1 + k) s.size_is) (inl refl) refl refl (stays b old w.1 some)

pub i64_over : (memory : Bool) (input : List ℕ) (b : ℕ) (rest : List ℕ) (old : List Bool) (size : ℕ) → input ≡ b ∷ rest → ConstI64 ≡ pass_kind b → old ≢ [] → IsTextSize (signed_at 64) signed_text rest size → IsOperatorPassed memory old input old (1 + size)
unfolding immediates_at immediates_text
i64_over memory input b rest old size e kind some s =
    let w = kind_at b ConstI64 kind in
    over memory input b rest form_i64 (WithI64 s.value) s.left old old (1 + size) e w.0 (bind_some _ _ (s.value, s.left) s.read_is) s.cut (ap (λ (k : ℕ). 1 + k) s.size_is) (inl refl) refl refl (stays b old w.1 some)

pub four_over : (memory : Bool) (input : List ℕ) (b : ℕ) (rest : List ℕ) (old : List Bool) (size : ℕ) → input ≡ b ∷ rest → FourBytes ≡ pass_kind b → old ≢ [] → IsTextSize (bytes_at 4) (λ b. b) rest size → IsOperatorPassed memory old input old (1 + size)
unfolding immediates_at immediates_text
four_over memory input b rest old size e kind some s =
    let w = kind_at b FourBytes kind in
    over memory input b rest (form_bytes 4) (WithBytes s.value) s.left old old (1 + size) e w.0 (bind_some _ _ (s.value, s.left) s.read_is) s.cut (ap (λ (k : ℕ). 1 + k) s.size_is) (inl refl) refl refl (stays b old w.1 some)

pub eight_over : (memory : Bool) (input : List ℕ) (b : ℕ) (rest : List ℕ) (old : List Bool) (size : ℕ) → input ≡ b ∷ rest → EightBytes ≡ pass_kind b → old ≢ [] → IsTextSize (bytes_at 8) (λ b. b) rest size → IsOperatorPassed memory old input old (1 + size)
unfolding immediates_at immediates_text
eight_over memory input b rest old size e kind some s =
    let w = kind_at b EightBytes kind in
    over memory input b rest (form_bytes 8) (WithBytes s.value) s.left old old (1 + size) e w.0 (bind_some _ _ (s.value, s.left) s.read_is) s.cut (ap (λ (k : ℕ). 1 + k) s.size_is) (inl refl) refl refl (stays b old w.1 some)

pub mem_arg_over : (memory : Bool) (input : List ℕ) (b : ℕ) (rest : List ℕ) (old : List Bool) (size : ℕ) → input ≡ b ∷ rest → MemArg ≡ pass_kind b → old ≢ [] → SizesMemArg memory rest (Some size) → IsOperatorPassed memory old input old (1 + size)
unfolding immediates_at immediates_text
mem_arg_over memory input b rest old size e kind some (s, first, may) =
    let w = kind_at b MemArg kind in
    over memory input b rest form_mem_arg (WithMemArg s.value) s.left old old (1 + size) e w.0 (bind_some _ _ (s.value, s.left) s.read_is) s.cut (ap (λ (k : ℕ). 1 + k) s.size_is)
    (inr (may, ap (λ (k : ℕ). one_ref (Some (Memories, k))) first)) refl refl (stays b old w.1 some)

pub memory_index_over : (memory : Bool) (input : List ℕ) (b : ℕ) (rest : List ℕ) (old : List Bool) (size : ℕ) → input ≡ b ∷ rest → Memory ≡ pass_kind b → old ≢ [] → SizesMemoryIndex memory rest (Some size) → IsOperatorPassed memory old input old (1 + size)
unfolding immediates_at immediates_text
memory_index_over memory input b rest old size e kind some (left, cut, one, may) =
    let w = kind_at b Memory kind in
    let p = memory_index_sized rest left cut in
    let s = p.0 in
    over memory input b rest (form_index (In Memories)) (WithIndex (index_of (In Memories) s.value)) s.left old old (1 + size) e w.0 (bind_some _ _ (s.value, s.left) s.read_is) s.cut (ap (λ (k : ℕ). 1 + k) (one ∙ s.size_is))
    (inr (may, ap (λ (k : ℕ). one_ref (Some (Memories, k))) p.1)) refl refl (stays b old w.1 some)

pub labels_over : (memory : Bool) (input : List ℕ) (b : ℕ) (rest : List ℕ) (old : List Bool) (size : ℕ) → input ≡ b ∷ rest → Labels ≡ pass_kind b → old ≢ [] → IsLabelsSize rest size → IsOperatorPassed memory old input old (1 + size)
labels_over memory input b rest old size e kind some s =
    let w = kind_at b Labels kind in
    over memory input b rest form_labels (WithLabels s.labels s.others) s.left old old (1 + size) e w.0 s.read_is s.cut (ap (λ (k : ℕ). 1 + k) s.size_is) (inl refl) refl refl (stays b old w.1 some)

-- what is something to nesting

block_form : (b : ℕ) → byte_token b ≡ Block → byte_form b ≡ Some form_block
unfolding byte_form
block_form b e = grind (arith, nat_tests)

if_form : (b : ℕ) → byte_token b ≡ If → byte_form b ≡ Some form_block
unfolding byte_form
if_form b e = grind (arith, nat_tests)

else_form : (b : ℕ) → byte_token b ≡ Else → byte_form b ≡ Some form_none
unfolding byte_form
else_form b e = grind (arith, nat_tests)

end_form : (b : ℕ) → byte_token b ≡ End → byte_form b ≡ Some form_none
unfolding byte_form
end_form b e = grind (arith, nat_tests)

block_step : (old : List Bool) → old ≢ [] → step old Block ≡ Some (false ∷ old)
block_step [] some = absurd (some refl)
block_step (b ∷ blocks) some = refl

if_step : (old : List Bool) → old ≢ [] → step old If ≡ Some (true ∷ old)
if_step [] some = absurd (some refl)
if_step (b ∷ blocks) some = refl

block_start_over : (memory : Bool) (input : List ℕ) (b : ℕ) (rest : List ℕ) (old new : List Bool) (is_if : Bool) (size : ℕ) → input ≡ b ∷ rest → byte_form b ≡ Some form_block → step old (byte_token b) ≡ Some (is_if ∷ old)
    → PassesBlockStart is_if old rest new (Some size) → IsOperatorPassed memory old input new size
unfolding immediates_at immediates_text
block_start_over memory input b rest old new is_if size e form s (byte, left, cut, plain, two, opened) =
    over memory input b rest form_block (WithBlock plain.ty) left old new size e form
    (ap (λ (z : List ℕ). immediates_at form_block z) cut ∙ bind_some _ _ (plain.ty, left) (plain.reads left))
    (cut ∙ ap (λ (z : List ℕ). z ++ left) (sym plain.text)) (two ∙ ap (λ (z : List ℕ). 1 + length z) (sym plain.text)) (inl plain.names_none) refl refl (s ∙ ap Some (sym opened))

pub block_over : (memory : Bool) (input : List ℕ) (b : ℕ) (rest : List ℕ) (old new : List Bool) (size : ℕ) → input ≡ b ∷ rest → OpensBlock ≡ pass_kind b → old ≢ [] → PassesBlockStart false old rest new (Some size) → IsOperatorPassed memory old input new size
block_over memory input b rest old new size e kind some o =
    let t = kind_at b OpensBlock kind in
    block_start_over memory input b rest old new false size e (block_form b t) (rw t (block_step old some)) o

pub if_over : (memory : Bool) (input : List ℕ) (b : ℕ) (rest : List ℕ) (old new : List Bool) (size : ℕ) → input ≡ b ∷ rest → OpensIf ≡ pass_kind b → old ≢ [] → PassesBlockStart true old rest new (Some size) → IsOperatorPassed memory old input new size
if_over memory input b rest old new size e kind some o =
    let t = kind_at b OpensIf kind in
    block_start_over memory input b rest old new true size e (if_form b t) (rw t (if_step old some)) o

pub else_over : (memory : Bool) (input : List ℕ) (b : ℕ) (rest : List ℕ) (old new : List Bool) → input ≡ b ∷ rest → MeetsElse ≡ pass_kind b → BeginsElse true old new → IsOperatorPassed memory old input new 1
unfolding immediates_at immediates_text
else_over memory input b rest old new e kind (blocks, was, is) =
    let t = kind_at b MeetsElse kind in
    over memory input b rest form_none WithNone rest old new 1 e (else_form b t) refl refl refl (inl refl) refl refl (rw (t, was, is) refl)

pub end_over : (memory : Bool) (input : List ℕ) (b : ℕ) (rest : List ℕ) (old new : List Bool) → input ≡ b ∷ rest → MeetsEnd ≡ pass_kind b → Closes true old new → IsOperatorPassed memory old input new 1
unfolding immediates_at immediates_text
end_over memory input b rest old new e kind (is_if, other, blocks, was, is) =
    let t = kind_at b MeetsEnd kind in
    over memory input b rest form_none WithNone rest old new 1 e (end_form b t) refl refl refl (inl refl) refl refl (rw (t, was, is) refl)

-- operators one after another

pub passed_none : (memory : Bool) (old : List Bool) (input : List ℕ) → AreOperatorsPassed memory old input old input
passed_none memory old input = record { operators = []; cut = refl; passable = tt; same = nothing (operators_in old input) }
  where
    nothing : (o : Option (List InstrValue)) → o ≡ run_and_left [] o
    nothing None = refl
    nothing (Some is) = refl

push_passable : (memory : Bool) (is : List InstrValue) (i : InstrValue) → IsPassableCode memory is → IsPassable memory i → IsPassableCode memory (is ++ i ∷ [])
push_passable memory [] i all one = (one, tt)
push_passable memory (x ∷ is) i all one = (all.0, push_passable memory is i all.1 one)

push_text : (is : List InstrValue) (i : InstrValue) (left : List ℕ) → flat_map instr_text is ++ (instr_text i ++ left) ≡ flat_map instr_text (is ++ i ∷ []) ++ left
push_text [] i left = ap (λ (z : List ℕ). z ++ left) (sym (append-nil (instr_text i)))
push_text (x ∷ is) i left =
    append_assoc (instr_text x) (flat_map instr_text is) (instr_text i ++ left)
    ∙ (ap (λ (z : List ℕ). instr_text x ++ z) (push_text is i left) ∙ sym (append_assoc (instr_text x) (flat_map instr_text (is ++ i ∷ [])) left))

push_left : (is : List InstrValue) (i : InstrValue) (o : Option (List InstrValue)) → run_and_left is (option_map (λ others. i ∷ others) o) ≡ run_and_left (is ++ i ∷ []) o
push_left is i None = refl
push_left is i (Some others) = ap Some (sym (append_assoc is (i ∷ []) others))

pub passed_more : (memory : Bool) (old mid new : List Bool) (input rest : List ℕ) (size : ℕ) (after : List ℕ) → AreOperatorsPassed memory old input mid rest → IsOperatorPassed memory mid rest new size → after ≡ drop size rest → AreOperatorsPassed memory old input new after
passed_more memory old mid new input rest size after s o e =
    let left : after ≡ o.left = e ∙ (ap (λ (n : ℕ). drop n rest) o.size_is ∙ (ap (λ (z : List ℕ). drop (length (instr_text o.operator)) z) o.cut ∙ drop-append_seam (instr_text o.operator) o.left)) in
    rw left record {
      operators = s.operators ++ o.operator ∷ [];
      cut = s.cut ∙ (ap (λ (z : List ℕ). flat_map instr_text s.operators ++ z) o.cut ∙ push_text s.operators o.operator o.left);
      passable = push_passable memory s.operators o.operator s.passable o.passable;
      same = s.same ∙ (ap (run_and_left s.operators) (left_read mid new rest o.operator o.left o.read o.steps) ∙ push_left s.operators o.operator (operators_in new o.left));
    }

pub size_within : (memory : Bool) (old new : List Bool) (rest : List ℕ) (size : ℕ) → IsOperatorPassed memory old rest new size → size ≤ length rest
size_within memory old new rest size o =
    let parts : length rest ≡ length (instr_text o.operator) + length o.left = ap length o.cut ∙ length-append (instr_text o.operator) o.left in
    let e = o.size_is in omega arith

-- an operator that is its code alone, or has one number of one byte

pub short_over : (input : List ℕ) (b : ℕ) (rest : List ℕ) (n : ℕ) (left : List ℕ) (size : ℕ) → input ≡ b ∷ rest → rest ≡ n ∷ left → n < 128 → size ≡ short_size b → size ≢ 0 → SizesShort input (Some size)
short_over input b rest n left size e cut small is some = λ memory blocks inside.
    elim (is_short_kind (pass_kind b) size is some) [
      | inl (one, only) ↦ rw one (code_only_over memory input b rest blocks e only inside)
      | inr (two, inl index) ↦ rw two (index_over memory input b rest blocks 1 e index inside (number_short 32 rest n left (omega arith) cut small))
      | inr (two, inr (inl i32)) ↦ rw two (i32_over memory input b rest blocks 1 e i32 inside (signed_short 32 rest n left (omega arith) cut small))
      | inr (two, inr (inr i64)) ↦ rw two (i64_over memory input b rest blocks 1 e i64 inside (signed_short 64 rest n left (omega arith) cut small))
    ]

-- operators, and then others

append_passable : (memory : Bool) (is js : List InstrValue) → IsPassableCode memory is → IsPassableCode memory js → IsPassableCode memory (is ++ js)
append_passable memory [] js a b = b
append_passable memory (i ∷ is) js a b = (a.0, append_passable memory is js a.1 b)

append_left : (is js : List InstrValue) (o : Option (List InstrValue)) → run_and_left is (run_and_left js o) ≡ run_and_left (is ++ js) o
append_left is js None = refl
append_left is js (Some others) = ap Some (sym (append_assoc is js others))

append_text : (is js : List InstrValue) (left : List ℕ) → flat_map instr_text is ++ (flat_map instr_text js ++ left) ≡ flat_map instr_text (is ++ js) ++ left
append_text [] js left = refl
append_text (x ∷ is) js left =
    append_assoc (instr_text x) (flat_map instr_text is) (flat_map instr_text js ++ left)
    ∙ (ap (λ (z : List ℕ). instr_text x ++ z) (append_text is js left) ∙ sym (append_assoc (instr_text x) (flat_map instr_text (is ++ js)) left))

pub passed_then : (memory : Bool) (old mid new : List Bool) (input rest left : List ℕ) → AreOperatorsPassed memory old input mid rest → AreOperatorsPassed memory mid rest new left → AreOperatorsPassed memory old input new left
passed_then memory old mid new input rest left s t = record {
  operators = s.operators ++ t.operators;
  cut = s.cut ∙ (ap (λ (z : List ℕ). flat_map instr_text s.operators ++ z) t.cut ∙ append_text s.operators t.operators left);
  passable = append_passable memory s.operators t.operators s.passable t.passable;
  same = s.same ∙ (ap (run_and_left s.operators) t.same ∙ append_left s.operators t.operators (operators_in new left));
}

-- what was passed over, or nothing

pub block_passes : (memory : Bool) (input : List ℕ) (b : ℕ) (rest : List ℕ) (old new : List Bool) (result : Option ℕ) → input ≡ b ∷ rest → OpensBlock ≡ pass_kind b → old ≢ [] → PassesBlockStart false old rest new result → PassesOperator memory old input new result
block_passes memory input b rest old new None e kind some o = o
block_passes memory input b rest old new (Some size) e kind some o = block_over memory input b rest old new size e kind some o

pub if_passes : (memory : Bool) (input : List ℕ) (b : ℕ) (rest : List ℕ) (old new : List Bool) (result : Option ℕ) → input ≡ b ∷ rest → OpensIf ≡ pass_kind b → old ≢ [] → PassesBlockStart true old rest new result → PassesOperator memory old input new result
if_passes memory input b rest old new None e kind some o = o
if_passes memory input b rest old new (Some size) e kind some o = if_over memory input b rest old new size e kind some o

pub else_passes : (memory : Bool) (input : List ℕ) (b : ℕ) (rest : List ℕ) (old new : List Bool) (else_begun : Bool) (result : Option ℕ) → input ≡ b ∷ rest → MeetsElse ≡ pass_kind b → result ≡ (if else_begun then Some 1 else None) → BeginsElse else_begun old new → PassesOperator memory old input new result
else_passes memory input b rest old new true result e kind is t = rw is (else_over memory input b rest old new e kind t)
else_passes memory input b rest old new false result e kind is t = rw is t

pub end_passes : (memory : Bool) (input : List ℕ) (b : ℕ) (rest : List ℕ) (old new : List Bool) (closed : Bool) (result : Option ℕ) → input ≡ b ∷ rest → MeetsEnd ≡ pass_kind b → result ≡ (if closed then Some 1 else None) → Closes closed old new → PassesOperator memory old input new result
end_passes memory input b rest old new true result e kind is t = rw is (end_over memory input b rest old new e kind t)
end_passes memory input b rest old new false result e kind is t = rw is t

-- a block is open still

pub some_open : (b : Bool) (blocks : List Bool) → b ∷ blocks ≢ []
some_open b blocks e = absurd cc

pub passes_shorter : (memory : Bool) (old new : List Bool) (rest : List ℕ) (size : ℕ) (after : List ℕ) → IsOperatorPassed memory old rest new size → after ≡ drop size rest → length after < length rest
passes_shorter memory old new rest size after o e =
    let left : after ≡ o.left = e ∙ (ap (λ (n : ℕ). drop n rest) o.size_is ∙ (ap (λ (z : List ℕ). drop (length (instr_text o.operator)) z) o.cut ∙ drop-append_seam (instr_text o.operator) o.left)) in
    rw left (to_shorter SpellsInstr instr_at instr_meets instr_some rest o.operator o.left o.read)

-- the end of the inmost block
pub end_passed : (memory : Bool) (old mid new : List Bool) (input rest : List ℕ) (b : ℕ) (left : List ℕ) (popped : Option Bool) → AreOperatorsPassed memory old input mid rest → mid ≢ [] → rest ≡ b ∷ left → b ≡ 0x0b → Pops popped mid new → AreOperatorsPassed memory old input new left
unfolding immediates_at immediates_text byte_form
end_passed memory old mid new input rest b left None s some cut last popped = absurd (some popped)
end_passed memory old mid new input rest b left (Some is_if) s some cut last popped =
    passed_more memory old mid new input rest 1 left s (over memory rest b left form_none WithNone left mid new 1 cut (rw last refl) refl refl refl (inl refl) refl refl (rw (last, popped) refl)) (rw cut refl)

-- the bytes that were passed over

pub passed_left : (memory : Bool) (old new : List Bool) (input left : List ℕ) → AreOperatorsPassed memory old input new left → length left ≤ length input
passed_left memory old new input left s = rw s.cut (omega (arith, length-append (flat_map instr_text s.operators) left))

pub passed_text : (memory : Bool) (old new : List Bool) (input left : List ℕ) (s : AreOperatorsPassed memory old input new left) → take (length input - length left) input ≡ flat_map instr_text s.operators
passed_text memory old new input left s =
    let parts : length input ≡ length (flat_map instr_text s.operators) + length left = ap length s.cut ∙ length-append (flat_map instr_text s.operators) left in
    let size : length input - length left ≡ length (flat_map instr_text s.operators) = omega arith in
    rw size (ap (λ (z : List ℕ). take (length (flat_map instr_text s.operators)) z) s.cut ∙ take-append_seam (flat_map instr_text s.operators) left)

passed_cut : (memory : Bool) (old new : List Bool) (input left : List ℕ) → AreOperatorsPassed memory old input new left → drop (length input - length left) input ≡ left
passed_cut memory old new input left s =
    let parts : length input ≡ length (flat_map instr_text s.operators) + length left = ap length s.cut ∙ length-append (flat_map instr_text s.operators) left in
    let size : length input - length left ≡ length (flat_map instr_text s.operators) = omega arith in
    ap (λ (n : ℕ). drop n input) size ∙ (ap (λ (z : List ℕ). drop (length (flat_map instr_text s.operators)) z) s.cut ∙ drop-append_seam (flat_map instr_text s.operators) left)

-- operators of so many bytes

pub run_of_size : (memory : Bool) (old new : List Bool) (input : List ℕ) (size : ℕ) → IsOperatorPassed memory old input new size → PassesRun memory old input new (Some size)
run_of_size memory old new input size o = (
  passed_more memory old old new input input size (drop size input) (passed_none memory old input) o refl,
  some_bytes,
  size_within memory old new input size o,
)
  where
    some_bytes : 0 < size
    some_bytes =
        let less = passes_shorter memory old new input size (drop size input) o refl in
        let left = length-drop size input in
        omega (arith, less, left)

pub run_of_passed : (memory : Bool) (old new : List Bool) (input left : List ℕ) → AreOperatorsPassed memory old input new left → 0 < length input - length left → PassesRun memory old input new (Some (length input - length left))
run_of_passed memory old new input left all some = (
  rw (passed_cut memory old new input left all) all,
  some,
  (let within : length input - length left ≤ length input = omega arith in within),
)

pub passed_run : (memory : Bool) (old mid new : List Bool) (input rest after : List ℕ) (size : ℕ) → AreOperatorsPassed memory old input mid rest → PassesRun memory mid rest new (Some size) → after ≡ drop size rest
    → AreOperatorsPassed memory old input new after
passed_run memory old mid new input rest after size s o e = rw e (passed_then memory old mid new input rest (drop size rest) s o.0)
