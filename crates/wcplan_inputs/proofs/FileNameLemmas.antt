-- The first name that is no file's.
use Rattle.std.proofs.Common.{◌≡◌, ℕ, ◌<◌, suc, true, false, List, map, length, take, drop, get_or, All}
use Rattle.std.specs.Borrow.{Bor}
use Rattle.wc_maps.proofs.ListLemmas.{cut_at}
use Rattle.wc_maps.specs.Texts.{text_of}
use Rattle.wcplan_inputs.specs.FileNames.{IsFirstUnfit, is_file_name}

abbrev pub IsFit : List ℕ → Type 0
IsFit name = is_file_name name ≡ true

pub unfit_at : (names : List (Bor (List ℕ))) (k : ℕ) (d : Bor (List ℕ)) → k < length names → All IsFit (map text_of (take k names))
    → is_file_name (get_or names k d).now ≡ false → IsFirstUnfit (map text_of names) (get_or names k d).now
unfit_at names k d lt fit unfit = record {
  front = map text_of (take k names);
  back = map text_of (drop (suc k) names);
  cut = cut_at text_of names k d lt;
  fit = fit;
  unfit = unfit;
}
