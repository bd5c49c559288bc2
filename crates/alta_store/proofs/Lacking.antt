-- Why a switch of the root lacks a place.
use Rattle.std.proofs.Common.{◌≡◌, ◌⊎◌, inl, inr, ⊎_elim, ℕ, zero, suc, ◌<◌, Bool, false, cond, List, [], ◌++◌, length, refl, sym, ◌∙◌, ap, subst, arith, Result, Ok, Err}
use Rattle.std.specs.Prelude.{◌==◌, Option, Some, None}
use Rattle.std.proofs.lemmas.List.{append-nil}
use Rattle.alta_codec.specs.declared.extent.Extent.{Extent}
use Rattle.alta_meaning.specs.Chain.{◌>>=◌}
use Rattle.alta_meaning.specs.Opened.{Opened, IsOpened}
use Rattle.alta_meaning.specs.Views.{View}
use Rattle.alta_meaning.specs.Working.{AreFirstGaps, Full, placed, placed_at}
use Rattle.alta_meaning.proofs.FullLaws.{first_append, full_is, gap_short, ok_err, placed_first}
use Rattle.alta_meaning.proofs.Tests.{by_test}
use Rattle.alta_rewrite.specs.Drafts.{list_of, segment_of}
use Rattle.alta_rewrite.specs.Places.{as_list, place_for, places_for}
use Rattle.alta_rewrite.specs.declared.levels.NextLevels.{NextLevels}
use Rattle.alta_root.specs.Gaps.{IsFirstGap, IsLongestGap, first_gap, greatest_gap, taken_by}
use Rattle.alta_root.specs.Root.{extents_of}
use Rattle.alta_root.specs.declared.root.Root.{Root}
use Rattle.alta_root.proofs.GapFunctions.{greatest_is}
use Rattle.alta_store.specs.Calls.{IsNarrow, IsRewrite, IsWork}

-- ---- what is placed before

-- what is placed takes the first gap
first_one : (taken : List Extent) (bytes limit : ℕ) (found : Option Extent) → place_for taken bytes limit ≡ Ok found → AreFirstGaps limit taken (as_list found)
first_one taken bytes limit None e = tt
first_one taken bytes limit (Some extent) e =
    by_test (bytes == 0) (λ none. absurd (not_some (ap (λ (b : Bool). cond b (Ok None) (placed taken bytes limit >>= λ extent. Ok (Some extent))) (sym none) ∙ e)))
    (λ some. (by_placed (placed taken bytes limit) refl (ap (λ (b : Bool). cond b (Ok None) (placed taken bytes limit >>= λ extent. Ok (Some extent))) (sym some) ∙ e), tt))
  where
    not_some : ◌≡◌ {A = Result (Option Extent) Full} (Ok None) (Ok (Some extent)) → ⊥
    not_some e = absurd cc

    one : (x : Extent) → ◌≡◌ {A = Result (Option Extent) Full} (Ok (Some x)) (Ok (Some extent)) → x ≡ extent
    one x e = cc

    by_placed : (r : Result Extent Full) → placed taken bytes limit ≡ r → (r >>= λ extent. Ok (Some extent)) ≡ Ok (Some extent) → IsFirstGap taken extent.bytes limit extent.place
    by_placed (Ok x) is e =
        let found = placed_first taken bytes limit extent (is ∙ ap (λ (y : Extent). Ok y) (one x e)) in
        subst (λ (n : ℕ). IsFirstGap taken n limit extent.place) (sym found.1) found.0
    by_placed (Err full) is e = absurd cc

-- ---- where no gap is long enough

-- no gap beside what is taken is as long as what is needed
abbrev IsShort : ℕ → List Extent → Full → Type 0
IsShort limit taken full = IsLongestGap taken limit full.gap × (full.gap < full.need)

place_short : (taken : List Extent) (bytes limit : ℕ) (full : Full) → place_for taken bytes limit ≡ Err full → IsShort limit taken full
place_short taken bytes limit full e =
    by_test (bytes == 0) (λ none. absurd (ok_err {A = Option Extent} None full (ap (λ (b : Bool). cond b (Ok None) (placed taken bytes limit >>= λ extent. Ok (Some extent))) (sym none) ∙ e)))
    (λ some. by_gap (first_gap taken bytes limit) refl (ap (λ (b : Bool). cond b (Ok None) (placed taken bytes limit >>= λ extent. Ok (Some extent))) (sym some) ∙ e) (positive bytes some))
  where
    positive : (n : ℕ) → (n == 0) ≡ false → 0 < n
    positive zero e = absurd cc
    positive (suc n) e = omega arith

    by_gap : (o : Option ℕ) → first_gap taken bytes limit ≡ o → (placed_at taken bytes limit o >>= λ extent. Ok (Some extent)) ≡ Err full → 0 < bytes → IsShort limit taken full
    by_gap None is e some =
        subst (IsShort limit taken) (full_is {A = Option Extent} (record { need = bytes; gap = greatest_gap taken limit }) full e) (greatest_is taken limit, gap_short taken bytes limit some is)
    by_gap (Some at) is e some = absurd (ok_err {A = Option Extent} (Some (record { place = at; bytes = bytes })) full e)

first_failed : {X Y : Type 0} (r : Result X Full) (f : X → Result Y Full) (full : Full) → (r >>= f) ≡ Err full → ((x : X) × (r ≡ Ok x) × (f x ≡ Err full)) ⊎ (r ≡ Err full)
first_failed (Ok x) f full e = inl (x, refl, e)
first_failed {X} {Y} (Err other) f full e = inr (ap (λ (g : Full). Err g) (full_is {A = Y} other full e))

-- where places are wanting, those before stand at first gaps
pub record IsWantingBeside (limit : ℕ) (root : Root) (full : Full) : Type 0 where
  pub extra : List Extent
  pub first : AreFirstGaps limit (extents_of root) extra
  pub short : IsShort limit (taken_by root extra) full

pub places_short : (limit : ℕ) (root : Root) (oldest newest list : ℕ) (full : Full) → places_for limit root oldest newest list ≡ Err full → IsWantingBeside limit root full
places_short limit root oldest newest list full e =
    ⊎_elim
    (λ first. ⊎_elim
    (λ last. ⊎_elim (λ found. absurd (ok_err _ full found.2))
    (λ is. record {
      extra = as_list first.0 ++ as_list last.0;
      first = first_append limit (extents_of root) (as_list first.0) (as_list last.0) (oldest_first first.0 first.1) (first_one (taken_by root (as_list first.0)) newest limit last.0 last.1);
      short = place_short (taken_by root (as_list first.0 ++ as_list last.0)) list limit full is;
    })
    (first_failed (place_for (taken_by root (as_list first.0 ++ as_list last.0)) list limit) _ full last.2))
    (λ is. record { extra = as_list first.0; first = oldest_first first.0 first.1; short = place_short (taken_by root (as_list first.0)) newest limit full is })
    (first_failed (place_for (taken_by root (as_list first.0)) newest limit) _ full first.2))
    (λ is. record { extra = []; first = tt; short = place_short (taken_by root []) oldest limit full is })
    (first_failed (place_for (taken_by root []) oldest limit) _ full e)
  where
    oldest_first : (found : Option Extent) → place_for (taken_by root []) oldest limit ≡ Ok found → AreFirstGaps limit (extents_of root) (as_list found)
    oldest_first found is = subst (λ (taken : List Extent). AreFirstGaps limit taken (as_list found)) (append-nil (extents_of root)) (first_one (taken_by root []) oldest limit found is)

-- ---- the same of what is opened

pub narrow_rewrite : (limit : ℕ) (kind : View → NextLevels → Type 0) → ((view : View) (levels : NextLevels) → kind view levels → IsWork view levels) → (o : Opened) (image : List ℕ) → IsOpened o image
    → (need gap : ℕ) → IsRewrite limit image kind o (Err (record { need = need; gap = gap })) → IsNarrow limit image need gap
narrow_rewrite limit kind works o image is need gap lacks =
    let wanting = places_short limit o.root (length (segment_of lacks.levels.oldest)) (length (segment_of lacks.levels.newest)) (length (list_of lacks.ends)) (record { need = need; gap = gap }) lacks.comes in
    record {
      opened = o;
      is = is;
      lacks = record {
        there = lacks.there;
        have = lacks.have;
        levels = lacks.levels;
        read = lacks.read;
        kind_is = works _ lacks.levels lacks.kind_is;
        ends = lacks.ends;
        next = lacks.next;
        location = lacks.location;
        given = lacks.given;
        comes = lacks.comes;
      };
      extra = wanting.extra;
      first = wanting.first;
      longest = wanting.short.0;
      short = wanting.short.1;
    }
