-- The main module, as it is followed or not.
use Rattle.std.proofs.Common.{◌≡◌, ℕ, ◌<◌, ◌^◌, List, refl, subst, sym}
use Rattle.wc_paths.specs.Items.{counts_of}
use Rattle.wc_paths.specs.Numbers.{item_count}
use Rattle.wc_why.specs.Part.{PartView}
use Rattle.wc_import_paths.specs.Followed.{IsSource}
use Rattle.wc_import_paths.specs.MainModules.{AreMainReached, HasMain, IsMainOf, IsMainPart, MainView, main_graph, main_view, reached_in, unread, whole}
use Rattle.wc_import_paths.specs.declared.followed.Followed.{Followed}
use Rattle.wc_import_paths.specs.declared.main_module.MainModule.{MainModule}
use Rattle.wc_import_paths.specs.declared.main_module.MainModule.TheVariants.{Whole, Unread}

-- one that is followed
pub main_whole : (bytes : List ℕ) (exports : List (List ℕ)) (f : Followed) → IsSource bytes exports f → IsMainOf bytes exports (Whole f)
main_whole bytes exports f is = record { is_main = is.followed; spelled = is.spelled; has_main = is.has_paths }

-- its functions that are reached
pub main_reached : (p : MainModule) → HasMain p → AreMainReached (main_view p) (reached_in p)
main_reached (Whole f) h = h.reached
main_reached (Unread bytes code rows why) h = refl

-- how many items its part has
pub main_counted : (bytes : List ℕ) (v : MainView) (p : PartView) → IsMainPart bytes v p → p.counts ≡ counts_of (main_graph v)
main_counted bytes (whole f) p (calling, calls, is) = is.part.counts
main_counted bytes (unread m why) p is = is.part.counts

pub main_fits : (bytes : List ℕ) (v : MainView) (p : PartView) → IsMainPart bytes v p → item_count p.counts < 2 ^ 64
main_fits bytes (whole f) p (calling, calls, is) = subst (λ z. item_count z < 2 ^ 64) (sym is.part.counts) is.part.fits
main_fits bytes (unread m why) p is = subst (λ z. item_count z < 2 ^ 64) (sym is.part.counts) is.part.fits
