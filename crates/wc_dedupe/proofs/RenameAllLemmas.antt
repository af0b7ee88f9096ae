-- What is after some of the imports, and that one more import keeps it.
use Rattle.std.proofs.Common.{◌≡◌, ℕ, ◌+◌, ◌<◌, ◌≤◌, false, List, [], ◌∷◌, ◌++◌, length, Option, Some, None, refl, sym, ap, subst, ◌∙◌, append-nil, arith, length-append, map, take, drop, get_or}
use Rattle.std.specs.Prelude.{slice_get}
use Rattle.std.specs.Option.{option_map}
use Rattle.std.specs.Str.{bytes_eq}
use Rattle.std.proofs.lemmas.List.{map-append, take_more, length-map, length-take-le, get_or_default}
use Rattle.std.proofs.lemmas.Option.{slice_get-map, slice_get-get_or, slice_get_read, get_or_from_slice_get}
use Rattle.std.proofs.Math.Seq.{take-append_seam}
use Rattle.std.proofs.lemmas.Slice.Eq.{bytes_eq-Decides}
use Rattle.wc_dedupe.specs.Private.Numbers.{AreNumbers, Gives, given_name, PushesRename}
use Rattle.wc_dedupe.specs.Private.RenameOrder.{LeadBack}
use Rattle.wc_dedupe.specs.Private.NamePositions.{Texts, named, names_of, Ascend, HavePositions}
use Rattle.wc_dedupe.specs.Renaming.{ImportName, RenameView, NamesOne, Renamed, renames_of, renamed_names, IsRenaming}
use Rattle.wc_dedupe.proofs.GivenLemmas.{Differs, given_next}
use Rattle.wc_dedupe.proofs.OrderLemmas.{lead_back}
use Rattle.wc_dedupe.proofs.OriginalNameLemmas.{names_give_originals}
use Rattle.wc_dedupe.proofs.NamePositionLemmas.{one_position}
use Rattle.wc_dedupe.proofs.RenamedLemmas.{Renamed-push, length-renamed, renames_of_push, Within, Within-more, Within-push_none, Within-push, renamed_names_more, renamed_names_push, slice_get_end}

-- after the original names ss with the names ns
pub record State (ss ns : List ImportName) (ps : List (Option ℕ)) (rs : List RenameView) : Type 0 where
  pub renamed : Renamed [] ss ns
  pub listed : rs ≡ renames_of ss ns
  pub as_long : length ps ≡ length ss
  pub named : ns ≡ renamed_names rs ss ps
  pub within : Within ps (length rs)

module _ (ss ns : List ImportName) (ps : List (Option ℕ)) (before after : List RenameView) (s : ImportName) (state : State ss ns ps before) where
  state_keeps : NamesOne ns s s → State (ss ++ s ∷ []) (ns ++ s ∷ []) (ps ++ None ∷ []) before
  state_keeps one = record {
    renamed = Renamed-push [] ss ns s s state.renamed one;
    listed = state.listed ∙ sym (renames_of_push ss ns s s (length-renamed [] ss ns state.renamed) ∙ rw ((bytes_eq-Decides s.name s.name).1 refl) (append-nil (renames_of ss ns)));
    as_long = omega (arith, state.as_long, length-append ps (None ∷ []), length-append ss (s ∷ []));
    named = ap (λ (xs : List ImportName). xs ++ s ∷ []) state.named ∙ sym (renamed_names_push before ss ps s None state.as_long);
    within = Within-push_none ps (length before) state.within;
  }

  state_gets : (name : List ℕ) → NamesOne ns s (record { module_name = s.module_name; name = name }) → bytes_eq s.name name ≡ false
      → State (ss ++ s ∷ []) (ns ++ (record { module_name = s.module_name; name = name }) ∷ []) (ps ++ Some (length before) ∷ []) (before ++ (record { module_name = s.module_name; original = s.name; name = name }) ∷ [])
  state_gets name one other = record {
    renamed = Renamed-push [] ss ns s x state.renamed one;
    listed = ap (λ (rs : List RenameView). rs ++ r ∷ []) state.listed ∙ sym (renames_of_push ss ns s x (length-renamed [] ss ns state.renamed) ∙ rw other refl);
    as_long = omega (arith, state.as_long, length-append ps (Some (length before) ∷ []), length-append ss (s ∷ []));
    named = rw (renamed_names_push (before ++ r ∷ []) ss ps s (Some (length before)) state.as_long, renamed_names_more before r ss ps state.within, ← state.named, slice_get_end before r) refl;
    within = Within-push ps (length before) (length (before ++ r ∷ [])) (omega (arith, length-append before (r ∷ []))) (Within-more ps (length before) (length (before ++ r ∷ [])) (omega (arith, length-append before (r ∷ []))) state.within);
  }
    where
      x : ImportName
      x = record { module_name = s.module_name; name = name }

      r : RenameView
      r = record { module_name = s.module_name; original = s.name; name = name }

  -- one more import
  state_next : (o : Option (List ℕ)) (index : Option ℕ) → NamesOne ns s (given_name s o) → Differs s o → PushesRename before after s o index → State (ss ++ s ∷ []) (ns ++ given_name s o ∷ []) (ps ++ index ∷ []) after
  state_next None index one differs pushes = rw (pushes.0, pushes.1) (state_keeps one)
  state_next (Some name) index one differs pushes = rw (pushes.0, pushes.1) (state_gets name one differs)

-- after the first imports: their names, and the numbers of all
pub record IsRenamedTo (texts : List Texts) (i : ℕ) (known : List Texts) (ns : List ImportName) (ps : List (Option ℕ)) (rs : List RenameView) (numbers : List ℕ) : Type 0 where
  pub state : State (names_of (take i texts)) ns ps rs
  pub are : AreNumbers (names_of known) ns numbers

pub length_given : (texts known : List Texts) (i : ℕ) (ns : List ImportName) (ps : List (Option ℕ)) (rs : List RenameView) (numbers : List ℕ) → i ≤ length texts → IsRenamedTo texts i known ns ps rs numbers → length ns ≡ i
length_given texts known i ns ps rs numbers h now = length-renamed [] (names_of (take i texts)) ns now.state.renamed ∙ length-map (take i texts) named ∙ length-take-le i texts h

-- the name of an import is where its position says
pub at_position : (texts known : List Texts) (positions : List ℕ) (i p : ℕ) (d : Texts) → HavePositions (names_of texts) (names_of known) positions → i < length texts → p ≡ get_or positions i p → slice_get (names_of known) p ≡ Some (named (get_or texts i d))
at_position texts known positions i p d have h is =
    let there = have.found i (named (get_or texts i d)) (slice_get-map named texts i ∙ ap (option_map named) (slice_get-get_or texts i d h)) in
    let same : there.0 ≡ p = sym (get_or_from_slice_get positions i there.0 p there.1) ∙ sym is in
    subst (λ (q : ℕ). slice_get (names_of known) q ≡ Some (named (get_or texts i d))) same there.2

pub position_at : (texts known : List Texts) (positions walked : List ℕ) (i : ℕ) (d : Texts) → HavePositions (names_of texts) (names_of known) positions → walked ≡ positions → i < length walked
    → (slice_get (names_of known) (get_or walked i 0) ≡ Some (named (get_or texts i d))) × (i < length texts)
position_at texts known positions walked i d have e h =
    let lt : i < length positions = subst (λ (ps : List ℕ). i < length ps) e h in
    let long : length positions ≡ length texts = have.as_long ∙ length-map texts named in
    let within : i < length texts = omega (arith, lt, long) in (
      subst (λ (ps : List ℕ). slice_get (names_of known) (get_or ps i 0) ≡ Some (named (get_or texts i d))) (sym e)
          (at_position texts known positions i (get_or positions i 0) d have within (get_or_default positions i 0 (get_or positions i 0) lt)),
      within,
    )

-- the name that was read at the position
pub name_read : (known : List Texts) (p : ℕ) (t : Texts) (x : ImportName) → p < length known → t ≡ get_or known p t → slice_get (names_of known) p ≡ Some x → named t ≡ x
name_read known p t x h is at =
    let both : Some (named t) ≡ Some x = sym (slice_get-map named known p ∙ ap (option_map named) (slice_get_read known (length known) p t refl h is)) ∙ at in
    cc

-- a slice of a whole vector that was written to
pub put_back : (old new : List ℕ) (n : ℕ) → n ≡ length new → take n (new ++ drop (length new) old) ≡ new
put_back old new n e = ap (λ (k : ℕ). take k (new ++ drop (length new) old)) e ∙ take-append_seam new (drop (length new) old)

pub renamed_more : (texts known : List Texts) (i : ℕ) (d : Texts) (ns : List ImportName) (ps : List (Option ℕ)) (before after : List RenameView) (old new : List ℕ) (position : ℕ) (o : Option (List ℕ)) (index : Option ℕ)
    → Ascend known → i < length texts → slice_get (names_of known) position ≡ Some (named (get_or texts i d)) → Gives (names_of known) old new position o → PushesRename before after (named (get_or texts i d)) o index → IsRenamedTo texts i known ns ps before old
    → (xs : List ImportName) × IsRenamedTo texts (i + 1) known xs (ps ++ index ∷ []) after new
renamed_more texts known i d ns ps before after old new position o index up h here gives pushes now =
    let s = named (get_or texts i d) in
    let next = given_next (names_of known) ns (one_position known up) old new position s now.are here o gives in
    let one_more : names_of (take (i + 1) texts) ≡ names_of (take i texts) ++ s ∷ [] = ap names_of (take_more texts i d h) ∙ map-append named (take i texts) (get_or texts i d ∷ []) in (
      ns ++ given_name s o ∷ [],
      record {
        state = subst (λ (ss : List ImportName). State ss (ns ++ given_name s o ∷ []) (ps ++ index ∷ []) after) (sym one_more) (state_next (names_of (take i texts)) ns ps before after s now.state o index next.named next.differs pushes);
        are = next.are;
      },
    )

-- after all imports is their renaming, and each new name leads back
pub renaming_from : (texts : List Texts) (ns : List ImportName) (ps : List (Option ℕ)) (rs : List RenameView) → State (names_of texts) ns ps rs → IsRenaming (names_of texts) ps rs × LeadBack rs
renaming_from texts ns ps rs state = (
  record {
    as_long = state.as_long;
    renamed = subst (λ (xs : List ImportName). Renamed [] (names_of texts) xs) state.named state.renamed;
    listed = subst (λ (xs : List ImportName). rs ≡ renames_of (names_of texts) xs) state.named state.listed;
  },
  subst LeadBack (sym state.listed) (lead_back (renames_of (names_of texts) ns) [] (names_of texts) ns state.renamed (names_give_originals (names_of texts) ns state.renamed)),
)
