-- The texts of renames that stand one after another, and their places.
use Rattle.std.proofs.Common.{◌≡◌, ℕ, suc, ◌+◌, ◌-◌, ◌<◌, ◌≤◌, List, [], ◌∷◌, ◌++◌, map, get_or, length, take, drop, String, string_bytes, string_len, Some, refl, sym, ap, subst, ◌∙◌, append_assoc, append-nil, arith, length-append}
use Rattle.std.specs.Prelude.{slice_get, slice_range, All}
use Rattle.std.proofs.lemmas.List.{map-append, length-map}
use Rattle.std.proofs.lemmas.List.Elements.{All-push}
use Rattle.std.proofs.lemmas.Option.{slice_get-map, slice_get_read, slice_get_within, get_or_from_slice_get}
use Rattle.std.specs.Option.{option_map}
use Rattle.std.specs.Str.{IsUtf8, IsCharBoundary}
use Rattle.std.proofs.Math.Seq.{drop-append_seam, take-append_seam}
use Rattle.std.proofs.lemmas.Str.{IsUtf8-append, IsUtf8-nil, IsCharBoundary-at_seam}
use Rattle.wc_dedupe.specs.Renaming.{RenameView}
use Rattle.wc_dedupe.specs.Private.RenameLists.{IsPlaced, HavePlaces, IsLonger, rename_in, renames_at}
use Rattle.wc_dedupe.specs.declared.rename_list.Place.{Place}

pub text_long : {Z : Type 0} (s : String Z) → string_len s ≡ length (string_bytes s)
text_long s = s.bytes.ok.0

-- a part between two others, and its ends
part_between : (xs ys zs all : List ℕ) (i j : ℕ) → all ≡ xs ++ (ys ++ zs) → i ≡ length xs → j ≡ length xs + length ys → slice_range all i j ≡ ys
part_between xs ys zs all i j cut at end =
    let wide : j - i ≡ length ys = omega (arith, at, end) in
    let from : drop i all ≡ ys ++ zs = ap (λ (n : ℕ). drop n all) at ∙ ap (drop (length xs)) cut ∙ drop-append_seam xs (ys ++ zs) in
    ap (λ (n : ℕ). take n (drop i all)) wide ∙ ap (take (length ys)) from ∙ take-append_seam ys zs

seam : (xs ys all : List ℕ) (i : ℕ) → all ≡ xs ++ ys → IsUtf8 ys → i ≡ length xs → IsCharBoundary all i
seam xs ys all i cut text at = subst (IsCharBoundary all) (sym at) (IsCharBoundary-at_seam all xs ys cut text)

module _ (texts : List ℕ) (p : Place) (r : RenameView) (w : IsPlaced texts p r) where
  to_original : texts ≡ (w.front ++ r.module_name) ++ (r.original ++ (r.name ++ w.back))
  to_original = w.cut ∙ sym (append_assoc w.front r.module_name (r.original ++ (r.name ++ w.back)))

  to_name : texts ≡ ((w.front ++ r.module_name) ++ r.original) ++ (r.name ++ w.back)
  to_name = to_original ∙ sym (append_assoc (w.front ++ r.module_name) r.original (r.name ++ w.back))

  to_end : texts ≡ (((w.front ++ r.module_name) ++ r.original) ++ r.name) ++ w.back
  to_end = to_name ∙ sym (append_assoc ((w.front ++ r.module_name) ++ r.original) r.name w.back)

  at_original : p.original ≡ length (w.front ++ r.module_name)
  at_original = omega (arith, w.original_is, length-append w.front r.module_name)

  at_name : p.name ≡ length ((w.front ++ r.module_name) ++ r.original)
  at_name = omega (arith, w.name_is, length-append (w.front ++ r.module_name) r.original, length-append w.front r.module_name)

  at_end : p.end ≡ length (((w.front ++ r.module_name) ++ r.original) ++ r.name)
  at_end = omega (arith, w.end_is, length-append ((w.front ++ r.module_name) ++ r.original) r.name, length-append (w.front ++ r.module_name) r.original, length-append w.front r.module_name)

  pub starts_at : IsCharBoundary texts p.start
  starts_at = seam w.front (r.module_name ++ (r.original ++ (r.name ++ w.back))) texts p.start w.cut (IsUtf8-append _ _ w.module_text (IsUtf8-append _ _ w.original_text (IsUtf8-append _ _ w.name_text w.back_text))) w.start_is

  pub original_starts_at : IsCharBoundary texts p.original
  original_starts_at = seam (w.front ++ r.module_name) (r.original ++ (r.name ++ w.back)) texts p.original to_original (IsUtf8-append _ _ w.original_text (IsUtf8-append _ _ w.name_text w.back_text)) at_original

  pub name_starts_at : IsCharBoundary texts p.name
  name_starts_at = seam ((w.front ++ r.module_name) ++ r.original) (r.name ++ w.back) texts p.name to_name (IsUtf8-append _ _ w.name_text w.back_text) at_name

  pub ends_at : IsCharBoundary texts p.end
  ends_at = seam (((w.front ++ r.module_name) ++ r.original) ++ r.name) w.back texts p.end to_end w.back_text at_end

  pub in_order : (p.start ≤ p.original) × (p.original ≤ p.name) × (p.name ≤ p.end)
  in_order = (omega (arith, w.start_is, w.original_is), omega (arith, w.original_is, w.name_is), omega (arith, w.name_is, w.end_is))

  -- the rename at its place
  pub rename_is : rename_in texts p ≡ r
  rename_is = joined (rename_in texts p) modules originals names
    where
      modules : slice_range texts p.start p.original ≡ r.module_name
      modules = part_between w.front r.module_name (r.original ++ (r.name ++ w.back)) texts p.start p.original w.cut w.start_is w.original_is

      originals : slice_range texts p.original p.name ≡ r.original
      originals = part_between (w.front ++ r.module_name) r.original (r.name ++ w.back) texts p.original p.name to_original at_original (omega (arith, at_name, length-append (w.front ++ r.module_name) r.original))

      names : slice_range texts p.name p.end ≡ r.name
      names = part_between ((w.front ++ r.module_name) ++ r.original) r.name w.back texts p.name p.end to_name at_name (omega (arith, at_end, length-append ((w.front ++ r.module_name) ++ r.original) r.name))

      joined : (q : RenameView) → q.module_name ≡ r.module_name → q.original ≡ r.original → q.name ≡ r.name → q ≡ r
      joined q a b c =
          ap (λ (x : List ℕ). record { module_name = x; original = q.original; name = q.name }) a
          ∙ ap (λ (x : List ℕ). record { module_name = r.module_name; original = x; name = q.name }) b
          ∙ ap (λ (x : List ℕ). record { module_name = r.module_name; original = r.original; name = x }) c

  -- more text after it changes nothing
  pub placed_more : (more : List ℕ) → IsUtf8 more → IsPlaced (texts ++ more) p r
  placed_more more text = record {
    front = w.front;
    back = w.back ++ more;
    cut =
        ap (λ (ts : List ℕ). ts ++ more) w.cut
        ∙ append_assoc w.front (r.module_name ++ (r.original ++ (r.name ++ w.back))) more
        ∙ ap (λ (ts : List ℕ). w.front ++ ts)
        (append_assoc r.module_name (r.original ++ (r.name ++ w.back)) more
        ∙ ap (λ (ts : List ℕ). r.module_name ++ ts) (append_assoc r.original (r.name ++ w.back) more ∙ ap (λ (ts : List ℕ). r.original ++ ts) (append_assoc r.name w.back more)));
    start_is = w.start_is;
    original_is = w.original_is;
    name_is = w.name_is;
    end_is = w.end_is;
    module_text = w.module_text;
    original_text = w.original_text;
    name_text = w.name_text;
    back_text = IsUtf8-append _ _ w.back_text text;
  }

-- texts that are appended
pub placed_last : (texts all m o n : List ℕ) (p : Place) → all ≡ ((texts ++ m) ++ o) ++ n → IsUtf8 m → IsUtf8 o → IsUtf8 n → p.start ≡ length texts → p.original ≡ length (texts ++ m) → p.name ≡ length ((texts ++ m) ++ o) → p.end ≡ length (((texts ++ m) ++ o) ++ n)
    → IsPlaced all p (record { module_name = m; original = o; name = n })
placed_last texts all m o n p cut mt ot nt a b c d = record {
  front = texts;
  back = [];
  cut = cut ∙ append_assoc (texts ++ m) o n ∙ append_assoc texts m (o ++ n) ∙ ap (λ (ts : List ℕ). texts ++ (m ++ (o ++ ts))) (sym (append-nil n));
  start_is = a;
  original_is = omega (arith, b, length-append texts m);
  name_is = omega (arith, c, length-append (texts ++ m) o, length-append texts m);
  end_is = omega (arith, d, length-append ((texts ++ m) ++ o) n, length-append (texts ++ m) o, length-append texts m);
  module_text = mt;
  original_text = ot;
  name_text = nt;
  back_text = IsUtf8-nil;
}

-- longer texts

pub longer_same : (old new : List ℕ) → new ≡ old → IsLonger old new
longer_same old new e = ([], IsUtf8-nil, e ∙ sym (append-nil old))

pub longer_by : (old new more : List ℕ) → new ≡ old ++ more → IsUtf8 more → IsLonger old new
longer_by old new more e text = (more, text, e)

pub longer_then : (first second third : List ℕ) → IsLonger first second → IsLonger second third → IsLonger first third
longer_then first second third one two =
    (one.0 ++ two.0, IsUtf8-append _ _ one.1 two.1, two.2 ∙ ap (λ (ts : List ℕ). ts ++ two.0) one.2 ∙ append_assoc first one.0 two.0)

-- all places, in longer texts

pub places_more : (old new : List ℕ) (places : List Place) → IsLonger old new → HavePlaces old places → HavePlaces new places
places_more old new places more have k d lt =
    let here = have k d lt in
    (here.0, subst (λ (ts : List ℕ). IsPlaced ts (get_or places k d) here.0) (sym more.2) (placed_more old (get_or places k d) here.0 here.1 more.0 more.1))

pub renames_stay : (old new : List ℕ) (places : List Place) → IsLonger old new → HavePlaces old places → renames_at new places ≡ renames_at old places
renames_stay old new [] more have = refl
renames_stay old new (p ∷ ps) more have =
    let here = have 0 p (omega arith) in
    let later : IsPlaced new p here.0 = subst (λ (ts : List ℕ). IsPlaced ts p here.0) (sym more.2) (placed_more old p here.0 here.1 more.0 more.1) in
    let same : rename_in new p ≡ rename_in old p = rename_is new p here.0 later ∙ sym (rename_is old p here.0 here.1) in
    ap (λ (r : RenameView). r ∷ renames_at new ps) same ∙ ap (λ (rs : List RenameView). rename_in old p ∷ rs) (renames_stay old new ps more (λ k d lt. have (suc k) d (omega (arith, lt))))

pub places_push : (texts : List ℕ) (places : List Place) (p : Place) (r : RenameView) → HavePlaces texts places → IsPlaced texts p r → HavePlaces texts (places ++ p ∷ [])
places_push texts places p r have here = All-push (λ (q : Place). (x : RenameView) × IsPlaced texts q x) places p have (r, here)

pub renames_push : (old new : List ℕ) (places : List Place) (p : Place) (r : RenameView) → IsLonger old new → HavePlaces old places → IsPlaced new p r → renames_at new (places ++ p ∷ []) ≡ renames_at old places ++ r ∷ []
renames_push old new places p r more have here =
    map-append (rename_in new) places (p ∷ []) ∙ ap (λ (rs : List RenameView). rs ++ rename_in new p ∷ []) (renames_stay old new places more have) ∙ ap (λ (x : RenameView). renames_at old places ++ x ∷ []) (rename_is new p r here)

-- the rename at the place of an index
pub placed_at : (texts : List ℕ) (places : List Place) (i : ℕ) (p : Place) → slice_get places i ≡ Some p → HavePlaces texts places → (r : RenameView) × IsPlaced texts p r
placed_at texts places i p at have = subst (λ (q : Place). (r : RenameView) × IsPlaced texts q r) (get_or_from_slice_get places i p p at) (have i p (slice_get_within places i p at))

-- the place of a rename, and what is there

pub place_at : (texts : List ℕ) (places : List Place) (rs : List RenameView) (i : ℕ) (p : Place) → renames_at texts places ≡ rs → i < length rs → p ≡ get_or places i p → slice_get places i ≡ Some p
place_at texts places rs i p is lt at = slice_get_read places (length places) i p refl (omega (arith, lt, ap length is, length-map places (rename_in texts))) at

pub read_at : (texts : List ℕ) (places : List Place) (rs : List RenameView) (i : ℕ) (p : Place) → renames_at texts places ≡ rs → slice_get places i ≡ Some p → slice_get rs i ≡ Some (rename_in texts p)
read_at texts places rs i p is at = ap (λ (qs : List RenameView). slice_get qs i) (sym is) ∙ slice_get-map (rename_in texts) places i ∙ ap (option_map (rename_in texts)) at
