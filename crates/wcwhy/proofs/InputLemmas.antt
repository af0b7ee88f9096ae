-- Why files of a command could not be read.
use Rattle.std.proofs.Common.{◌≡◌, ◌<◌, ◌∙◌, ap, ℕ, List, [], ◌∷◌, ◌++◌, Contains, length, map, get_or, Option, Some, None, refl, sym, subst, inl, inr}
use Rattle.std.specs.Option.{option_to_list}
use Rattle.std.proofs.lemmas.List.Elements.{Contains-append_left, Contains-append_right}
use Rattle.std.specs.Borrow.{Bor}
use Rattle.wc_options.proofs.AdapterLemmas.{Pairs, path_at}
use Rattle.wc_program.specs.Files.{FileChange, Holds}
use Rattle.wc_maps.proofs.ListLemmas.{contains_head, contains_tail}
use Rattle.wc_maps.specs.Texts.{first_parts, second_parts, text_pair}
use Rattle.wcwhy.specs.AdapterNames.{AreAdaptersNamed, IsNamesCause}
use Rattle.wcwhy.specs.Arguments.{CommandView}
use Rattle.wcwhy.specs.Inputs.{AreNamed, HasNoText, HasSource, IsInputCause, IsMisfit, IsSourceCause, IsUnread, input_path, paths_of}
use Rattle.wc_program.specs.declared.files.FileProblem.{FileProblem}
use Rattle.wcwhy.specs.Private.Inputs.{AreUnread, IsAllowFault, IsReadFault, IsTextFault}
use Rattle.wcwhy.specs.declared.fault.WhyFault.{WhyFault}
use Rattle.wcwhy.specs.declared.fault.WhyFault.TheVariants.{Memory, CannotRead, RepeatedAdapter, NoAdapter, AllowNotText}

-- one of the adapters
pub path_cause : (c : CommandView) (fails : List ℕ → FileProblem → Type 0) (pairs : Pairs) (k : ℕ) (d : Bor (List ℕ) × Bor (List ℕ)) → k < length pairs
    → map text_pair pairs ≡ c.adapters → (f : WhyFault) → IsReadFault (get_or pairs k d).1.now fails f → AreUnread c fails f
path_cause c fails pairs k d lt is Memory h = tt
path_cause c fails pairs k d lt is (CannotRead path p) h = (
  subst (Contains (second_parts c.adapters)) (sym h.0) (subst (λ (l : List (List ℕ × List ℕ)). Contains (second_parts l) (get_or pairs k d).1.now) is
      (path_at pairs k d lt)),
  h.1,
  h.2,
)
path_cause c fails pairs k d lt is f h = absurd h

-- one of the files that are read
source_path : (c : CommandView) (path : List ℕ) → path ≡ c.source → Contains (paths_of c) path
source_path c path is = subst (Contains (paths_of c)) (sym is) (contains_head (second_parts c.adapters ++ option_to_list c.allow) c.source)

adapter_path : (c : CommandView) (path : List ℕ) → Contains (second_parts c.adapters) path → Contains (paths_of c) path
adapter_path c path has =
    contains_tail c.source (second_parts c.adapters ++ option_to_list c.allow) path
    (Contains-append_left (second_parts c.adapters) (option_to_list c.allow) path has)

allow_path : (c : CommandView) (path : List ℕ) → c.allow ≡ Some path → Contains (paths_of c) path
allow_path c path is =
    contains_tail c.source (second_parts c.adapters ++ option_to_list c.allow) path
    (Contains-append_right (second_parts c.adapters) (option_to_list c.allow) path
    (subst (λ (o : Option (List ℕ)). Contains (option_to_list o) path) (sym is) (contains_head [] path)))

module _ (c : CommandView) (files : FileChange) where
  -- the module, or the component

  pub source_unread : (f : WhyFault) → IsReadFault c.source files.IsFailedRead f → IsSourceCause c files f
  source_unread Memory h = h
  source_unread (CannotRead path p) h = (h.0, (subst (λ at. files.IsFailedRead (input_path at) p) h.0 h.1, h.2))
  source_unread f h = absurd h

  pub source_misfit : (source : List ℕ) → Holds files.before (input_path c.source) source → (f : WhyFault) → IsMisfit c source f → IsSourceCause c files f
  source_misfit source held Memory h = absurd h
  source_misfit source held (CannotRead path p) h = absurd h
  source_misfit source held f h = (source, held, h)

  pub source_cause : (f : WhyFault) → IsSourceCause c files f → IsInputCause c files f
  source_cause Memory h = inl h
  source_cause (CannotRead path p) h = (source_path c path.now h.0, subst (λ at. IsUnread files at p) (sym h.0) h.1)
  source_cause (RepeatedAdapter name) h = absurd h.2
  source_cause (NoAdapter name listing) h = absurd h.2
  source_cause (AllowNotText path) h = absurd h.2
  source_cause f h = h

  -- it was read

  pub adapters_unread : HasSource c files.before → (f : WhyFault) → AreUnread c files.IsFailedRead f → IsInputCause c files f
  adapters_unread has Memory h = inr has
  adapters_unread has (CannotRead path p) h = (adapter_path c path.now h.0, (h.1, h.2))
  adapters_unread has f h = absurd h

  text_unread : HasSource c files.before → (path : List ℕ) → c.allow ≡ Some path → (f : WhyFault) → IsTextFault path files.before files.IsFailedRead f
      → IsInputCause c files f
  text_unread has path is Memory h = inr has
  text_unread has path is (CannotRead at p) h = (allow_path c at.now (is ∙ ap (λ x. Some x) (sym h.0)), (h.1, h.2))
  text_unread has path is (AllowNotText at) h = (has, is ∙ ap (λ x. Some x) (sym h.0), subst (HasNoText files.before) (sym h.0) h.1)
  text_unread has path is f h = absurd h

  allow_by : HasSource c files.before → (allow : Option (List ℕ)) → c.allow ≡ allow → (f : WhyFault) → IsAllowFault allow files.before files.IsFailedRead f
      → IsInputCause c files f
  allow_by has None is f h = absurd h
  allow_by has (Some path) is f h = text_unread has path is f h

  pub allow_unread : HasSource c files.before → (f : WhyFault) → IsAllowFault c.allow files.before files.IsFailedRead f → IsInputCause c files f
  allow_unread has f h = allow_by has c.allow refl f h

  names_cause : HasSource c files.before → (f : WhyFault) → IsNamesCause (first_parts c.adapters) (first_parts c.adapter_exports) f
      → IsInputCause c files f
  names_cause has Memory h = inr has
  names_cause has (RepeatedAdapter name) h = (has, h)
  names_cause has (NoAdapter name listing) h = (has, h)
  names_cause has f h = absurd h

  pub names_wrong : (adapters exports : Pairs) → map text_pair adapters ≡ c.adapters → map text_pair exports ≡ c.adapter_exports → HasSource c files.before
      → (f : WhyFault) → IsNamesCause (first_parts (map text_pair adapters)) (first_parts (map text_pair exports)) f → IsInputCause c files f
  names_wrong adapters exports are asked has f h =
      names_cause has f (subst (λ xs. IsNamesCause (first_parts xs) (first_parts c.adapter_exports) f) are
      (subst (λ ys. IsNamesCause (first_parts (map text_pair adapters)) (first_parts ys) f) asked h))

pub names_right : (c : CommandView) (adapters exports : Pairs) → map text_pair adapters ≡ c.adapters → map text_pair exports ≡ c.adapter_exports
    → AreAdaptersNamed (first_parts (map text_pair adapters)) (first_parts (map text_pair exports)) → AreNamed c
names_right c adapters exports are asked h =
    subst (λ xs. AreAdaptersNamed (first_parts xs) (first_parts c.adapter_exports)) are
    (subst (λ ys. AreAdaptersNamed (first_parts (map text_pair adapters)) (first_parts ys)) asked h)
