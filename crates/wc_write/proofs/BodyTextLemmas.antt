-- The text of a body spells it, and no other.
use Rattle.std.proofs.Common.{◌≡◌, ◌^◌, ◌<◌, List, [], ◌∷◌, length, refl, arith}
use Rattle.std.specs.Prelude.{All}
use Rattle.std.specs.List.{flat_map}
use Rattle.std.proofs.lemmas.List.{length-append}
use Rattle.std.proofs.lemmas.List.Elements.{All-nil, All-cons}
use Rattle.wc_read.specs.Operators.{SpellsInstr}
use Rattle.wc_read.specs.Bodies.{BodyValue, SpellsLocals, local_count, SpellsBody}
use Rattle.wc_read.specs.declared.bodies.Locals.{Locals}
use Rattle.wc_read.proofs.BodiesLemmas.{body_one}
use Rattle.wc_write.specs.Text.{number_text, val_type_text, vector_text}
use Rattle.wc_write.specs.Operators.{instr_text}
use Rattle.wc_write.specs.Bodies.{locals_text, body_text}
use Rattle.wc_write.specs.Values.{IsValType, IsInstr, IsBody}
use Rattle.wc_write.proofs.TextLemmas.{number_32}
use Rattle.wc_write.proofs.ValueTypeLemmas.{val_type_spelled, val_type_some}
use Rattle.wc_write.proofs.VectorTextLemmas.{front_shorter, back_shorter, items_spelled, vector_spelled}
use Rattle.wc_write.proofs.OperatorTextLemmas.{instr_spelled}

-- locals whose count fits u32 are in runs whose counts do
abbrev CountFitsU32 : Locals → Type 0
CountFitsU32 l = l.count < 2 ^ 32

runs_bounded : (ls : List Locals) → local_count ls < 2 ^ 32 → All CountFitsU32 ls
runs_bounded [] bounded = All-nil CountFitsU32
runs_bounded (l ∷ ls) bounded = All-cons CountFitsU32 l ls (omega arith) (runs_bounded ls (omega arith))

abbrev IsRun : Locals → Type 0
IsRun l = CountFitsU32 l × IsValType l.ty

runs_are : (ls : List Locals) → All CountFitsU32 ls → All (λ l. IsValType l.ty) ls → All IsRun ls
runs_are ls bounded fit = λ k d within. (bounded k d within, fit k d within)

locals_spelled : (l : Locals) → IsRun l → SpellsLocals (locals_text l) l
locals_spelled l h = (number_text l.count, val_type_text l.ty, refl, number_32 l.count h.0, val_type_spelled l.ty h.1)

locals_some : (l : Locals) → 0 < length (locals_text l)
locals_some l = omega (arith, val_type_some l.ty, length-append (number_text l.count) (val_type_text l.ty))

body_spelled : (b : BodyValue) → IsBody b → length (body_text b) < 2 ^ 32 → SpellsBody (body_text b) b
unfolding body_text
body_spelled b h short = record {
  runs = vector_text locals_text b.locals;
  code = flat_map instr_text b.operators;
  cut = refl;
  has_locals = vector_spelled SpellsLocals locals_text IsRun (λ l h _. locals_spelled l h) locals_some b.locals
      (runs_are b.locals (runs_bounded b.locals h.locals_fit_u32) h.has_locals)
      (front_shorter (vector_text locals_text b.locals) (flat_map instr_text b.operators) _ short);
  locals_fit_u32 = h.locals_fit_u32;
  has_operators = items_spelled SpellsInstr instr_text IsInstr instr_spelled b.operators h.has_operators (back_shorter (vector_text locals_text b.locals) (flat_map instr_text b.operators) _ short);
  nests = h.nests;
}

pub body_read : (b : BodyValue) → IsBody b → length (body_text b) < 2 ^ 32 → SpellsBody (body_text b) b × ((v : BodyValue) → SpellsBody (body_text b) v → v ≡ b)
body_read b h short = let s = body_spelled b h short in (s, λ v t. body_one (body_text b) v b t s)
