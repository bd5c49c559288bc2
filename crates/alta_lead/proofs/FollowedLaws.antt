-- Laws of the ends of the documents in which a word stands before another.
use Rattle.std.proofs.Common.{⊎_elim, ℕ, ◌+◌, ◌<◌, ◌≤◌, List, arith}
use Rattle.std.specs.Prelude.{◌↔◌, Contains, nat_lt, nat_le}
use Rattle.std.proofs.lemmas.Bool.{and_parts, and_from, ltb-true, lt-ltb, leb-true, le-leb}
use Rattle.alta_codec.specs.Rising.{IsRising, first_from, pred_of}
use Rattle.alta_codec.proofs.Places.{first_from-above, first_from-least, first_from-place, pred_of-below}
use Rattle.alta_docread.specs.KeptLaws.{filter-has, filter-keeps, filter-rises}
use Rattle.alta_lead.specs.Followed.{IsFollowed, first_in, is_followed, ends_followed}
use Rattle.alta_lead.specs.HavingLaws.{element_within, first_within}

pub followed-rises : (ends first second : List ℕ) → IsRising ends → IsRising (ends_followed ends first second)
unfolding ends_followed
followed-rises ends first second r = filter-rises (is_followed ends first second) ends r

-- what the list has is what the words say of each end
pub followed-answers : (ends first second : List ℕ) (e : ℕ) → IsRising ends → Contains (ends_followed ends first second) e ↔ IsFollowed ends first second e
unfolding ends_followed
followed-answers ends first second e r =
    let p = first_in ends first e in let q = first_from second (p + 1) in (
      λ m. let k = filter-has (is_followed ends first second) ends e m in
          let b = element_within ends e r k.0 in let low : pred_of ends e < e = pred_of-below ends e b.0 in
          let tests = and_parts (nat_lt p e) (nat_le q e) k.1 in
          let under : p < e = ltb-true p e tests.0 in
          let high : q ≤ e = leb-true q e tests.1 in
          let (x, n, above, up) = first_within p e second under b.1 high in
          record {
            is_end = k.0;
            place = p;
            there = ⊎_elim (λ n. n) (λ t. absurd (omega (arith, t, under, b.1))) (first_from-place first (pred_of ends e + 1));
            inside = omega (arith, first_from-above first (pred_of ends e + 1) (omega (arith, low, b.1)));
            next = x;
            behind = n;
            later = above;
            within = up;
          },
      λ a. let near : p ≤ a.place = first_from-least first (pred_of ends e + 1) a.place a.there (omega (arith, a.inside)) in
          let high : q ≤ a.next = first_from-least second (p + 1) a.next a.behind (omega (arith, near, a.later)) in
          filter-keeps (is_followed ends first second) ends e a.is_end
          (and_from (nat_lt p e) (nat_le q e) (lt-ltb p e (omega (arith, near, a.later, a.within))) (le-leb q e (omega (arith, high, a.within)))),
    )
