-- What became of the file that a core module is written to.
use Rattle.std.proofs.Common.{◌≡◌, ◌≢◌, ◌≤◌, ◌∙◌, ap, ℕ, List, [], ◌∷◌, length, Some, Result, Ok, Err, OnOk, IfErr, refl, sym, subst, inl, inr}
use Rattle.std.specs.List.{slice_get}
use Rattle.wc_component_file.specs.Files.{CoreModuleView, FileView, SpellsFile}
use Rattle.wc_program.specs.Files.{FileChange, Writes}
use Rattle.wcwhy.specs.Arguments.{CommandView}
use Rattle.wcwhy.specs.CoreFile.{HasBytes, IsCoreCause, IsCoreWritten, LacksBytes}
use Rattle.wcwhy.specs.Inputs.{IsSource, IsSourceCause}
use Rattle.wcwhy.specs.Private.Component.{IsUnreadFault, of_missing, of_missing_in}
use Rattle.wcwhy.specs.Private.CoreFile.{IsWriteFault}
use Rattle.wcwhy.specs.declared.fault.WhyFault.{WhyFault}
use Rattle.wcwhy.specs.declared.fault.WhyFault.TheVariants.{Memory, File, NoModule, NoSuchModule, CannotWrite}

module _ (c : CommandView) (t : ℕ × List ℕ) (files : FileChange) where
  -- the component's file is not there

  pub source_cause : files.after ≡ files.before → (f : WhyFault) → IsSourceCause c files f → IsCoreCause c t files f
  source_cause kept (CannotWrite path p) h = absurd h.2
  source_cause kept f h = (kept, inl h)

  -- it is there
  module _ (source : List ℕ) (is : IsSource c files.before source) where
    lacks : files.after ≡ files.before → (f : WhyFault) → LacksBytes source t.0 f → IsCoreCause c t files f
    lacks kept (CannotWrite path p) h = absurd h
    lacks kept f h = (kept, inr (source, is, h))

    pub unread_cause : files.after ≡ files.before → (f : WhyFault) → IsUnreadFault source f → IsCoreCause c t files f
    unread_cause kept Memory h = lacks kept Memory tt
    unread_cause kept (File f byte) h = lacks kept (File f byte) h
    unread_cause kept f h = absurd h

    -- and is read
    module _ (file : FileView) (spelled : SpellsFile source file) where
      missing : (modules : List CoreModuleView) → file.modules ≡ modules → length modules ≤ t.0 → LacksBytes source t.0 (of_missing_in modules file.inside t.0)
      missing [] are past = (file, spelled, are, refl)
      missing (m ∷ modules) are past =
          (refl, (file, spelled, (λ none. let no : m ∷ modules ≡ [] = sym are ∙ none in cc), sym (ap length are), past))

      pub missing_cause : files.after ≡ files.before → length file.modules ≤ t.0 → (f : WhyFault) → f ≡ of_missing file t.0 → IsCoreCause c t files f
      missing_cause kept past f same = lacks kept f (subst (LacksBytes source t.0) (sym same) (missing file.modules refl past))

      module _ (core : CoreModuleView) (is_core : slice_get file.modules t.0 ≡ Some core) where
        has_bytes : HasBytes source t.0 core.bytes
        has_bytes = record { file = file; spelled = spelled; core = core; is_core = is_core; is = refl }

        pub written : {T : Type 0} (r : Result T WhyFault) → OnOk r (Writes files.before files.after t.1 core.bytes)
            → OnOk r (IsCoreWritten c t files.before files.after)
        written (Ok x) h = record { source = source; is_source = is; bytes = core.bytes; has_bytes = has_bytes; written = h }
        written (Err f) h = tt

        write_cause : (f : WhyFault) → IsWriteFault t.1 core.bytes files f → IsCoreCause c t files f
        write_cause (CannotWrite path p) h =
            (h.0, record { source = source; is_source = is; bytes = core.bytes; has_bytes = has_bytes; failed = h.1; others = h.2 })
        write_cause f h = absurd h

        pub unwritten : {T : Type 0} (r : Result T WhyFault) → IfErr r (IsWriteFault t.1 core.bytes files) → IfErr r (IsCoreCause c t files)
        unwritten (Ok x) h = tt
        unwritten (Err f) h = write_cause f h
