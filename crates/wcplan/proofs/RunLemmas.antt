-- A run of a command: why it could not be run where nothing was printed, and what became of its files where it was.
use Rattle.std.proofs.Common.{◌≡◌, ◌≢◌, ◌⊎◌, ℕ, List, [], ◌∷◌, Option, Ok, IfSome, refl, sym, subst, string_bytes, inl, inr, map, String, Global, length, take, drop, get_or, suc, arith, ◌<◌, ◌++◌, ap, ◌∙◌, zero}
use Rattle.std.specs.Borrow.{Bor}
use Rattle.std.specs.declared.io.ErrorKind.{ErrorKind}
use Rattle.std.proofs.lemmas.List.{map-append}
use Rattle.wcplan_inputs.specs.Inputs.{IsInputCause, IsEncoderOf, Reads}
use Rattle.wc_encoder.specs.EncoderParts.{EncoderView}
use Rattle.wc_plan.specs.Fault.{IsPlanRefusal, RefusedPlan}
use Rattle.wc_program.specs.Files.{FailsFrom, Held, IsProblemOf, StoreChange, Writes}
use Rattle.wc_program.specs.declared.files.FileProblem.{FileProblem}
use Rattle.wc_world.specs.Causes.{IsComponentWorldCause, IsMemory as IsWorldMemory}
use Rattle.wc_world.specs.Options.{plain_options}
use Rattle.wc_world.specs.Views.{ComponentWorldView}
use Rattle.wc_world.specs.World.{IsWorldOf}
use Rattle.wc_world.specs.declared.fault.WorldFault.{WorldFault}
use Rattle.wc_world.specs.declared.fault.WorldFault.TheVariants.{Memory as world_memory}
use Rattle.wc_options.specs.Wrong.{IsStop, Reading, wrong_view}
use Rattle.wcplan_inputs.specs.Arguments.{CommandView}
use Rattle.wcplan_inputs.specs.Details.{IsExplanation}
use Rattle.wcplan_inputs.specs.Reading.{AsksMemory, read_arguments}
use Rattle.wc_program.specs.Screen.{Printing, nothing, printed}
use Rattle.wc_options.specs.declared.wrong.NoCommand.{NoCommand}
use Rattle.wc_options.specs.declared.wrong.NoCommand.TheVariants.{Memory, Help, Version, Wrong}
use Rattle.wc_gc.specs.declared.fault.GcFault.{GcFault}
use Rattle.wc_gc.specs.declared.fault.GcFault.TheVariants.{Memory as gc_memory}
use Rattle.wc_ways.specs.WaysFaults.{IsWaysFault}
use Rattle.wcplan_inputs.specs.Fault.{of_gc}
use Rattle.wcplan.specs.Program.{CommandEnds, EndsWell, EndsWith, IsPlanCause, IsPlanned, IsPrintedText, IsRunCause, IsUnwrittenFile, ReadingEnds, Writing, WritesAll, file_view, files_of}
use Rattle.wcplan.specs.Private.Runs.{AnswersStop, IsDescriptionFault, IsWorldFault, IsWritingFault}
use Rattle.wcplan_inputs.specs.Explained.{IsOfPlan, IsOfWorld}
use Rattle.wcplan.specs.Warnings.{warnings_text}
use Rattle.wcplan_inputs.specs.declared.fault.ProgramFault.{ProgramFault}
use Rattle.wcplan_inputs.specs.declared.fault.ProgramFault.TheVariants.{CannotMake, CannotWrite, Output, Plan, Ways, World, Memory as program_memory}

-- paths with the bytes of their files
abbrev Files : Type 0
Files = List (String Global × Bor (List ℕ))

-- before files are written nothing is printed
pub quiet : (c : CommandView) (files : StoreChange) (out : Printing → Type 0) (f : ProgramFault) → files.after ≡ files.before → out nothing
    → IsPlanCause c files.before files.IsFailedRead f → IsRunCause c files out f
quiet c files out (CannotMake path p) kept still h = absurd h
quiet c files out (CannotWrite path p) kept still h = absurd h
quiet c files out Output kept still h = absurd h
quiet c files out f kept still h = (h, kept, still)

-- a command has no encoder, and so no plan
pub input_cause : (c : CommandView) (before : Option Held) (fails : Reads) (f : ProgramFault) → IsInputCause c before fails f
    → IsPlanCause c before fails f
input_cause c before fails (World x) h = absurd h
input_cause c before fails (Plan x) h = absurd h
input_cause c before fails (Ways x) h = absurd h
input_cause c before fails f h = h

-- there is no component's world
pub world_fault : (e : EncoderView) (f : WorldFault) (g : ProgramFault) → IsWorldMemory e f ⊎ IsComponentWorldCause e f → IsOfWorld e f g
    → IsWorldFault e g
world_fault e f program_memory h is = tt
world_fault e f (World x) h is =
    let here : (f ≢ world_memory) × (IsWorldMemory e f ⊎ IsComponentWorldCause e f) × IsExplanation e f x.place = (is.1, h, is.2) in
    subst (λ k. (k ≢ world_memory) × (IsWorldMemory e k ⊎ IsComponentWorldCause e k) × IsExplanation e k x.place) (sym is.0) here
world_fault e f g h is = absurd is

module _ (c : CommandView) (before : Option Held) (fails : Reads) where
  -- a fault of the component's world
  pub world_cause : (e : EncoderView) (g : ProgramFault) → IsEncoderOf c before e → IsWorldFault e g → IsPlanCause c before fails g
  world_cause e program_memory encodes h = tt
  world_cause e (World x) encodes h = (e, encodes, h.0, h.1, h.2)
  world_cause e g encodes h = absurd h

  -- a fault of its plan
  pub plan_cause : (e : EncoderView) (w : ComponentWorldView) (x : RefusedPlan) (g : ProgramFault) → IsEncoderOf c before e → IsWorldOf plain_options e w
      → IsPlanRefusal w x → IsOfPlan x g → IsPlanCause c before fails g
  plan_cause e w x program_memory encodes world h is = tt
  plan_cause e w x (Plan y) encodes world (inl memory) is = absurd (is.1 memory.0)
  plan_cause e w x (Plan y) encodes world (inr h) is = subst (λ z. IsPlanCause c before fails (Plan z)) (sym is.0) (e, w, encodes, world, h.0, h.1)
  plan_cause e w x g encodes world h is = absurd is

-- a fault of ways, and of what is printed
pub ways_fault : (w : ComponentWorldView) (f : GcFault) → IsWaysFault w f → IsDescriptionFault w (of_gc f)
ways_fault w gc_memory h = tt
ways_fault w f h = ((λ e. cc), h)

pub description_cause : (c : CommandView) (before : Option Held) (fails : Reads) (w : ComponentWorldView) (f : ProgramFault) → IsPlanned c before w
    → IsDescriptionFault w f → IsPlanCause c before fails f
description_cause c before fails w program_memory planned h = tt
description_cause c before fails w (Ways f) planned h = (w, planned, h.0, h.1)
description_cause c before fails w f planned h = absurd h

module _ (c : CommandView) (change : StoreChange) (out : Printing → Type 0) (w : ComponentWorldView) (planned : IsPlanned c change.before w)
    (files : Files) (outputs : map file_view files ≡ files_of c.out w)
  where
    -- all files were written, and the lines printed
    pub all_written : (text warnings : List ℕ) → IsPrintedText c w text → IfSome c.out change.Makes
        → WritesAll change.before change.after (map file_view files) → out (printed text) → warnings ≡ warnings_text c w
        → EndsWell c change out warnings
    all_written text warnings is made written shown warned = (
      w,
      text,
      record { planned = planned; made = made; written = subst (WritesAll change.before change.after) outputs written },
      is,
      shown,
      warned,
    )

    -- the directory could not be made, a file not be written, or the lines not be printed
    pub unwritten : (f : ProgramFault) → IsWritingFault c.out change files out f → IsRunCause c change out f
    unwritten (CannotMake path p) h = (record { world = w; planned = planned; directory = h.0; failed = h.1; kept = h.2 }, h.3)
    unwritten (CannotWrite path p) h =
        let stopped = subst (λ fs. IsUnwrittenFile change.before change.after change.IsFailedWrite fs (string_bytes path) p) outputs h.1 in
        (record { world = w; planned = planned; made = h.0; stopped = stopped }, h.2)
    unwritten Output h = (w, record { planned = planned; made = h.0; written = subst (WritesAll change.before change.after) outputs h.1 }, h.2)
    unwritten f h = absurd h

-- how the program ends by what its arguments are read as

pub ends_by_command : (arguments : List (List ℕ)) (c : CommandView) (files : StoreChange)
    (out err : Printing → Type 0) (status : ℕ) → read_arguments arguments ≡ Ok c → CommandEnds c files out err status
    → EndsWith arguments files out err status
ends_by_command arguments c files out err status read ends =
    inl (subst (λ (r : Reading CommandView). ReadingEnds r files out err status) (sym read) ends)

pub ends_by_stop : (arguments : List (List ℕ)) (e : NoCommand) (files : StoreChange) (out err : Printing → Type 0) (status : ℕ)
    → files.after ≡ files.before → IsStop (AsksMemory arguments) (read_arguments arguments) e → AnswersStop e out err status
    → EndsWith arguments files out err status
ends_by_stop arguments Memory files out err status kept stops answer = inr (inl stops, kept, answer)
ends_by_stop arguments Help files out err status kept stops answer =
    inl (subst (λ (r : Reading CommandView). ReadingEnds r files out err status) (sym stops) (kept, answer))
ends_by_stop arguments Version files out err status kept stops answer =
    inl (subst (λ (r : Reading CommandView). ReadingEnds r files out err status) (sym stops) (kept, answer))
ends_by_stop arguments (Wrong w) files out err status kept stops (inl answer) =
    inl (subst (λ (r : Reading CommandView). ReadingEnds r files out err status) (sym stops) (kept, answer))
ends_by_stop arguments (Wrong w) files out err status kept stops (inr none) = inr (inr (wrong_view w, stops), kept, none)

-- files that are written one after another: one more is
pub writes_more : (before middle after : Option Held) (files : Files) (file : String Global × Bor (List ℕ)) → WritesAll before middle (map file_view files)
    → Writes middle after (string_bytes file.0) file.1.now → WritesAll before after (map file_view (files ++ file ∷ []))
writes_more before middle after [] file h w = (after, subst (λ (m : Option Held). Writes m after (string_bytes file.0) file.1.now) h w, refl)
writes_more before middle after (f ∷ fs) file (next, written, rest) w = (next, written, writes_more next middle after fs file rest w)

cut_at : (xs : Files) (k : ℕ) (d : String Global × Bor (List ℕ)) → k < length xs → xs ≡ take k xs ++ get_or xs k d ∷ drop (suc k) xs
cut_at [] k d lt = absurd (omega arith)
cut_at (y ∷ ys) zero d lt = refl
cut_at (y ∷ ys) (suc k) d lt = ap (λ l. y ∷ l) (cut_at ys k d (omega arith))

map_id : (xs : Files) → map (λ f. f) xs ≡ xs
map_id [] = refl
map_id (x ∷ xs) = ap (λ l. x ∷ l) (map_id xs)

-- one could not be, after those before it
pub unwritten_at : (before after : Option Held) (fails : Writing) (files front : Files) (file : String Global × Bor (List ℕ)) (p : FileProblem)
    → (length front < length files) × (file ≡ get_or files (length front) file) → map (λ f. f) front ≡ take (length front) files
    → WritesAll before after (map file_view front)
    → fails after (string_bytes file.0) file.1.now p → IsUnwrittenFile before after fails (map file_view files) (string_bytes file.0) p
unwritten_at before after fails files front file p at passed written failed =
    let cut : files ≡ front ++ file ∷ drop (suc (length front)) files = cut_at files (length front) file at.0
    ∙ (λ i. sym passed i ++ sym at.1 i ∷ drop (suc (length front)) files) ∙ ap (λ l. l ++ file ∷ drop (suc (length front)) files) (map_id front) in
    record {
      front = map file_view front;
      back = map file_view (drop (suc (length front)) files);
      bytes = file.1.now;
      cut = ap (map file_view) cut ∙ map-append file_view front (file ∷ drop (suc (length front)) files);
      written = written;
      failed = failed;
    }

-- a write that failed, of files that stay as they were
pub failed_from : {S : Type 0} (held : S → Option Held) (fails : S → S → List ℕ → List ℕ → ErrorKind → Type 0) (s after : S) (path bytes : List ℕ)
    (k : ErrorKind) (p : FileProblem) → held after ≡ held s → fails s after path bytes k → IsProblemOf k p → FailsFrom held fails after (held after) path bytes p
failed_from held fails s after path bytes k p kept failed is = (s, sym kept, (k, failed, is))
