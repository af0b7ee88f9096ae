-- Element segments are read as they are spelled.
use Rattle.std.proofs.Common.{ℕ, List, [], ◌∷◌, ◌++◌, Bool, true, false, refl, ◌∙◌, ap, eqb-true}
use Rattle.std.specs.Prelude.{◌==◌}
use Rattle.wc_read.specs.Formats.{Format, SpellsNumber, SpellsVector, Joined}
use Rattle.wc_read.specs.Options.{◌>>=◌}
use Rattle.wc_read.specs.Types.{SpellsValType, is_reference}
use Rattle.wc_read.specs.Reading.Inits.{init_bytes_at}
use Rattle.wc_read.specs.Reading.Reader.{Read, byte_at, number_at, vector_at, where_at}
use Rattle.wc_read.specs.Reading.Types.{val_type_at}
use Rattle.wc_read.specs.declared.types.ValType.{ValType}
use Rattle.wc_read.specs.declared.types.ValType.TheVariants.{FuncRef}
use Rattle.wc_read.proofs.MeetsLemmas.{Meets, same_meets, bind_meets, made_meets, made_at, where_meets, number_meets, byte_meets, vector_meets, IsByte, Made, Where}
use Rattle.wc_read.proofs.InitsLemmas.{init_bytes_meet}
use Rattle.wc_read.proofs.TypesLemmas.{val_type_meets}
use Rattle.wc_segments.specs.Modes.{ModeValue, IsInitialiser, SpellsMode}
use Rattle.wc_segments.specs.Elements.{ElementValue, ElementsValue, functions, expressions, form_of, SpellsElementType, SpellsElements, SpellsElement}
use Rattle.wc_segments.specs.Reading.Modes.{mode_at}
use Rattle.wc_segments.specs.Reading.Elements.{form_at, kind_at, reference_at, type_at, elements_at, element_at}
use Rattle.wc_segments.specs.declared.elements.ElementForm.{ElementForm}
use Rattle.wc_segments.specs.declared.elements.TypeForm.{TypeForm}
use Rattle.wc_segments.specs.declared.elements.TypeForm.TheVariants.{Nothing, Kind, Reference}
use Rattle.wc_segments.proofs.FormsLemmas.{nothing_meets, looked_meets, Looked}
use Rattle.wc_segments.proofs.ModesLemmas.{mode_meets}

-- forms, by their flags

abbrev IsForm : Format ElementForm
IsForm = Looked (SpellsNumber 32) form_of

form_meets : Meets IsForm form_at
unfolding form_at
form_meets = looked_meets (SpellsNumber 32) (number_at 32) form_of (number_meets 32)

-- types of elements

is_zero : ℕ → Bool
is_zero b = b == 0

abbrev func_ref_of : ℕ → ValType
func_ref_of b = FuncRef

kind_meets : Meets (SpellsElementType Kind) kind_at
unfolding kind_at is_zero
kind_meets =
    same_meets (Made (Where IsByte is_zero) func_ref_of) (SpellsElementType Kind) kind_at
    (made_meets (Where IsByte is_zero) (where_at is_zero byte_at) func_ref_of (where_meets IsByte byte_at is_zero byte_meets))
    (λ bytes t j. (j.1.0 ∙ ap (λ (n : ℕ). n ∷ []) (eqb-true j.0 0 j.1.1), j.2))
    (λ bytes t s. (0, (s.0, refl), s.1))

type_meets : (form : TypeForm) → Meets (SpellsElementType form) (type_at form)
unfolding reference_at
type_meets Nothing = nothing_meets FuncRef
type_meets Kind = kind_meets
type_meets Reference = where_meets SpellsValType val_type_at is_reference val_type_meets

-- elements

elements_meet : (has_expressions : Bool) → Meets (SpellsElements has_expressions) (elements_at has_expressions)
unfolding elements_at
elements_meet true = made_meets (SpellsVector IsInitialiser) (vector_at init_bytes_at) expressions (vector_meets IsInitialiser init_bytes_at init_bytes_meet)
elements_meet false =
    made_meets (SpellsVector (SpellsNumber 32)) (vector_at (number_at 32)) functions (vector_meets (SpellsNumber 32) (number_at 32) (number_meets 32))

-- segments

made_element : ModeValue → ValType → ElementsValue → ElementValue
made_element mode t es = record { mode = mode; ty = t; elements = es }

abbrev AfterType : ElementForm → ModeValue → ValType → Format ElementValue
AfterType f mode t = Made (SpellsElements f.has_expressions) (made_element mode t)

abbrev AfterMode : ElementForm → ModeValue → Format ElementValue
AfterMode f mode = Joined (SpellsElementType f.ty) (AfterType f mode)

abbrev AfterForm : ElementForm → Format ElementValue
AfterForm f = Joined (SpellsMode f.mode) (AfterMode f)

abbrev after_type_at : ElementForm → ModeValue → ValType → Read ElementValue
after_type_at f mode t bytes = elements_at f.has_expressions bytes >>= made_at (made_element mode t)

abbrev after_mode_at : ElementForm → ModeValue → Read ElementValue
after_mode_at f mode bytes = type_at f.ty bytes >>= λ t. after_type_at f mode t.0 t.1

abbrev after_form_at : ElementForm → Read ElementValue
after_form_at f bytes = mode_at f.mode bytes >>= λ mode. after_mode_at f mode.0 mode.1

element_to : (bytes : List ℕ) (e : ElementValue) → Joined IsForm AfterForm bytes e → SpellsElement bytes e
unfolding made_element
element_to bytes e j =
    let m = j.5 in
    let t = m.5 in
    let x = t.5 in
    rw x.2 (record {
      flags = j.4.0;
      has_form = j.0;
      flags_bytes = j.1;
      mode_bytes = m.1;
      type_bytes = t.1;
      elements_bytes = t.2;
      cut = j.3 ∙ ap (λ (r : List ℕ). j.1 ++ r) (m.3 ∙ ap (λ (r : List ℕ). m.1 ++ r) t.3);
      has_flags = j.4.1;
      is_form = j.4.2;
      has_mode = m.4;
      has_type = t.4;
      has_elements = x.1;
    })

element_from : (bytes : List ℕ) (e : ElementValue) → SpellsElement bytes e → Joined IsForm AfterForm bytes e
unfolding made_element
element_from bytes e s = (
  s.has_form,
  s.flags_bytes,
  s.mode_bytes ++ (s.type_bytes ++ s.elements_bytes),
  s.cut,
  (s.flags, s.has_flags, s.is_form),
  (e.mode, s.mode_bytes, s.type_bytes ++ s.elements_bytes, refl, s.has_mode, (e.ty, s.type_bytes, s.elements_bytes, refl, s.has_type, (e.elements, s.has_elements, refl))),
)

pub element_meets : Meets SpellsElement element_at
unfolding element_at made_element
element_meets =
    same_meets (Joined IsForm AfterForm) SpellsElement element_at
    (bind_meets IsForm form_at AfterForm after_form_at form_meets
    (λ f. bind_meets (SpellsMode f.mode) (mode_at f.mode) (AfterMode f) (after_mode_at f) (mode_meets f.mode)
    (λ mode. bind_meets (SpellsElementType f.ty) (type_at f.ty) (AfterType f mode) (after_type_at f mode) (type_meets f.ty)
    (λ t. made_meets (SpellsElements f.has_expressions) (elements_at f.has_expressions) (made_element mode t) (elements_meet f.has_expressions)))))
    element_to element_from
