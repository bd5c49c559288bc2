-- The reader of a test that has one list in all.
use Rattle.std.proofs.Common.{◌≡◌, ℕ, ◌<◌, List, [], ◌∷◌, length, refl, sym, subst, ap, ◌∙◌, append-nil, arith}
use Rattle.std.specs.Prelude.{All, count_by, nat_lt}
use Rattle.std.specs.List.{concat}
use Rattle.std.proofs.lemmas.List.Elements.{All-head}
use Rattle.std.proofs.lemmas.List.Sums.{sum_by-cons}
use Rattle.alta_codec.specs.Rising.{IsRising, first_from, count_from}
use Rattle.alta_compound.specs.Union.{put, union, union_of}
use Rattle.alta_compound.specs.Unions.{RisesAbove, above_from_rising}
use Rattle.alta_search.specs.Lists.{test_list, IsCut}
use Rattle.alta_search.specs.Readers.{IsAtStart, IsFresh}
use Rattle.alta_search.specs.Words.{reader_list, reader_all, reader_place, reader_left}
use Rattle.alta_search.specs.declared.test_reader.TestReader.{TestReader}
use Rattle.alta_search.proofs.Counts.{below_or_from}

pub with_none : (low : ℕ) (xs : List ℕ) → RisesAbove low xs → union xs [] ≡ xs
unfolding union put
with_none low [] r = refl
with_none low (x ∷ []) r = refl
with_none low (x ∷ y ∷ ys) (a, b, r) = ap (λ l. put x l) (with_none x (y ∷ ys) r) ∙ grind (arith, r.0)

-- the lists of a test with one list in all are that list
pub lone_rises : (l : List ℕ) → IsCut ((l ∷ []) ∷ []) → IsRising l
lone_rises l cut =
    subst IsRising (append-nil l)
    (All-head (λ levels. All (λ (list : List ℕ). 0 < length list) levels × IsRising (concat levels)) (l ∷ []) [] cut).1

lone_list : (l : List ℕ) → IsRising l → test_list ((l ∷ []) ∷ []) ≡ l
unfolding union_of
lone_list l r = ap (λ xs. union xs []) (append-nil l) ∙ with_none 0 l (above_from_rising l r)

-- a reader at the start of that list is a reader of the test
pub lone_fresh : (l : List ℕ) (r : TestReader) → IsRising l → IsAtStart reader_list reader_all reader_place reader_left l r
    → IsFresh reader_list reader_all reader_place reader_left ((l ∷ []) ∷ []) r
lone_fresh l r rising start =
    let whole : test_list ((l ∷ []) ∷ []) ≡ l = lone_list l rising in
    let same : concat (l ∷ []) ≡ l = append-nil l in
    record {
      reads = start.reads ∙ sym whole;
      counts = λ place. omega (
        arith,
        ap (λ xs. count_from xs place) (start.holds ∙ sym same),
        below_or_from (concat (l ∷ [])) place,
        sum_by-cons (λ (levels : List (List ℕ)). count_by (λ x. nat_lt x place) (concat levels)) (l ∷ []) [],
        sum_by-cons (λ (levels : List (List ℕ)). length (concat levels)) (l ∷ []) [],
      );
      unmoved = start.unmoved ∙ ap (λ xs. first_from xs 0) (sym whole);
      rest = omega (
        arith,
        start.rest,
        ap length same,
        sum_by-cons (λ (levels : List (List ℕ)). length (concat levels)) (l ∷ []) [],
      );
    }
