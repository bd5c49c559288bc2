-- Runs of documents that stand side by side, one after the other.
use Rattle.std.proofs.Common.{◌≡◌, ⊎_elim, ℕ, zero, suc, ◌+◌, ◌-◌, ◌<◌, ◌≤◌, List, [], ◌∷◌, ◌++◌, length, get_or, refl, sym, subst, ap, ◌∙◌, arith, length-append}
use Rattle.std.proofs.lemmas.Bool.{cases_lt}
use Rattle.std.proofs.lemmas.List.{get_or_append_left, get_or_at, length-map}
use Rattle.alta_codec.specs.Rising.{IsRising}
use Rattle.alta_content.specs.declared.document.DocRow.{DocRow}
use Rattle.alta_content.specs.Lists.{IsInRange}
use Rattle.alta_content.specs.Rows.{end_of, ends_of, firsts_of}
use Rattle.alta_content.specs.Runs.{AreRunsOf, IsInRun, StandApart}

-- a document begins at most right behind its end
first_low : (documents : List DocRow) (i : ℕ) → i < length documents → get_or (firsts_of documents) i 0 ≤ get_or (ends_of documents) i 0 + 1
first_low [] i l = absurd (omega arith)
first_low (row ∷ rows) zero l = omega arith
first_low (row ∷ rows) (suc i) l = first_low rows i (omega arith)

-- the runs of the first so many documents, the last of which ends a run
pub record AreRunsTo (documents : List DocRow) (count : ℕ) (firsts ends : List ℕ) : Type 0 where
  pub within : count ≤ length documents
  pub paired : length firsts ≡ length ends
  pub few : length ends ≤ count
  pub some : 0 < count → 0 < length ends
  pub rising : IsRising ends
  pub last_is : 0 < count → get_or ends (length ends - 1) 0 ≡ get_or (ends_of documents) (count - 1) 0
  pub apart : StandApart (firsts_of documents) (ends_of documents) → StandApart firsts ends
  pub held : (x i : ℕ) → i < count → get_or (firsts_of documents) i 0 ≤ x → x ≤ get_or (ends_of documents) i 0 → IsInRun firsts ends x
  pub holds : (x : ℕ) → IsInRun firsts ends x → IsInRange documents x
  pub parted : (r : ℕ) → r + 1 < length ends → get_or ends r 0 + 1 ≡ get_or firsts (r + 1) 0 → ⊥
  pub ahead : 0 < count → count < length documents → get_or (ends_of documents) (count - 1) 0 + 1 ≡ get_or (firsts_of documents) count 0 → ⊥
  pub joined : length ends ≤ 1 → (i : ℕ) → i + 1 < count → get_or (firsts_of documents) (i + 1) 0 ≡ get_or (ends_of documents) i 0 + 1

pub runs_none : (documents : List DocRow) (firsts ends : List ℕ) → firsts ≡ [] → ends ≡ [] → AreRunsTo documents 0 firsts ends
runs_none documents firsts ends f e =
    let nf : length firsts ≡ 0 = ap length f in
    let ne : length ends ≡ 0 = ap length e in
    record {
      within = omega arith;
      paired = omega (arith, nf, ne);
      few = omega (arith, ne);
      some = λ l. absurd (omega (arith, l));
      rising = record {
        rising = λ i j l w. absurd (omega (arith, w, ne));
        positive = λ i w. absurd (omega (arith, w, ne));
        below = λ i w. absurd (omega (arith, w, ne));
      };
      last_is = λ l. absurd (omega (arith, l));
      apart = λ stand i j l w. absurd (omega (arith, w, ne));
      held = λ x i l from to. absurd (omega (arith, l));
      holds = λ x r. absurd (omega (arith, r.within, ne));
      parted = λ r w. absurd (omega (arith, w, ne));
      ahead = λ l. absurd (omega (arith, l));
      joined = λ one i w. absurd (omega (arith, w));
    }

-- one run more: of the documents from `start` to `last`
module _ (documents : List DocRow) (rises : IsRising (ends_of documents)) (start last : ℕ) (order : start ≤ last) (there : last < length documents)
    (joins : (k : ℕ) → start ≤ k → k < last → get_or (firsts_of documents) (k + 1) 0 ≡ get_or (ends_of documents) k 0 + 1) where
  abbrev first_at : ℕ → ℕ
  first_at i = get_or (firsts_of documents) i 0

  abbrev end_at : ℕ → ℕ
  end_at i = get_or (ends_of documents) i 0

  many : length (ends_of documents) ≡ length documents
  many = length-map documents end_of

  -- the ends rise
  end_up : (i j : ℕ) → i ≤ j → j < length documents → end_at i ≤ end_at j
  end_up i j le l =
      ⊎_elim
      (λ w. omega (arith, rises.rising i j w (omega (arith, l, many))))
      (λ g. let e : i ≡ j = omega (arith, le, g) in omega (arith, ap (λ k. get_or (ends_of documents) k 0) e))
      (cases_lt i j)

  -- the documents of the run stand in it
  from_start : (i : ℕ) → start ≤ i → i ≤ last → first_at start ≤ first_at i
  from_start i from to =
      ⊎_elim
      (λ w.
      let e : i - 1 + 1 ≡ i = omega (arith, w) in
      omega (
        arith,
        first_low documents start (omega (arith, order, there)),
        end_up start (i - 1) (omega (arith, w)) (omega (arith, to, there, w)),
        joins (i - 1) (omega (arith, w)) (omega (arith, to, w)),
        ap (λ k. get_or (firsts_of documents) k 0) e,
      ))
      (λ g. let e : i ≡ start = omega (arith, from, g) in omega (arith, ap (λ k. get_or (firsts_of documents) k 0) e))
      (cases_lt start i)

  -- each location from the first one's first to the end of a later one stands in the range of a document
  in_range : (n : ℕ) → start + n ≤ last → (x : ℕ) → first_at start ≤ x → x ≤ end_at (start + n) → IsInRange documents x
  in_range zero l x from to =
      let e : start + 0 ≡ start = omega arith in
      record { row = start; within = omega (arith, order, there); from = from; to = omega (arith, to, ap (λ k. get_or (ends_of documents) k 0) e) }
  in_range (suc n) l x from to =
      let e : start + suc n ≡ start + n + 1 = omega arith in
      ⊎_elim
      (λ w. in_range n (omega (arith, l)) x from (omega (arith, w)))
      (λ g. record {
        row = start + n + 1;
        within = omega (arith, l, there);
        from = omega (arith, g, joins (start + n) (omega arith) (omega (arith, l)));
        to = omega (arith, to, ap (λ k. get_or (ends_of documents) k 0) e);
      })
      (cases_lt x (end_at (start + n) + 1))

  module _ (firsts ends : List ℕ) (h : AreRunsTo documents start firsts ends) where
    abbrev more_firsts : List ℕ
    more_firsts = firsts ++ first_at start ∷ []

    abbrev more_ends : List ℕ
    more_ends = ends ++ end_at last ∷ []

    size_firsts : length more_firsts ≡ length ends + 1
    size_firsts = length-append firsts (first_at start ∷ []) ∙ ap (λ n. n + 1) h.paired

    size_ends : length more_ends ≡ length ends + 1
    size_ends = length-append ends (end_at last ∷ [])

    old_first : (i : ℕ) → i < length ends → get_or more_firsts i 0 ≡ get_or firsts i 0
    old_first i l = get_or_append_left firsts (first_at start ∷ []) 0 i (omega (arith, l, h.paired))

    old_end : (i : ℕ) → i < length ends → get_or more_ends i 0 ≡ get_or ends i 0
    old_end i l = get_or_append_left ends (end_at last ∷ []) 0 i l

    new_first : (i : ℕ) → i ≡ length ends → get_or more_firsts i 0 ≡ first_at start
    new_first i e = get_or_at firsts (first_at start) [] 0 i (h.paired ∙ sym e)

    new_end : (i : ℕ) → i ≡ length ends → get_or more_ends i 0 ≡ end_at last
    new_end i e = get_or_at ends (end_at last) [] 0 i (sym e)

    -- the runs before end at the document before, or further in front
    end_before : (i : ℕ) → i < length ends → get_or ends i 0 ≤ end_at (start - 1)
    end_before i l =
        let is = h.last_is (omega (arith, l, h.few)) in
        ⊎_elim
        (λ w. omega (arith, is, h.rising.rising i (length ends - 1) w (omega (arith, l))))
        (λ g. let e : i ≡ length ends - 1 = omega (arith, l, g) in omega (arith, is, ap (λ k. get_or ends k 0) e))
        (cases_lt i (length ends - 1))

    end_below : (i : ℕ) → i < length ends → get_or ends i 0 < end_at last
    end_below i l = omega (arith, end_before i l, rises.rising (start - 1) last (omega (arith, l, h.few, order)) (omega (arith, there, many)))

    ends_more : IsRising more_ends
    ends_more = record {
      rising = λ i j lt l.
          ⊎_elim
          (λ w. omega (arith, old_end i (omega (arith, lt, w)), old_end j w, h.rising.rising i j lt w))
          (λ g. let e : j ≡ length ends = omega (arith, l, g, size_ends) in omega (arith, old_end i (omega (arith, lt, e)), new_end j e, end_below i (omega (arith, lt, e))))
          (cases_lt j (length ends));
      positive = λ i l.
          ⊎_elim
          (λ w. omega (arith, old_end i w, h.rising.positive i w))
          (λ g. omega (arith, new_end i (omega (arith, l, g, size_ends)), rises.positive last (omega (arith, there, many))))
          (cases_lt i (length ends));
      below = λ i l.
          ⊎_elim
          (λ w. omega (arith, old_end i w, h.rising.below i w))
          (λ g. omega (arith, new_end i (omega (arith, l, g, size_ends)), rises.below last (omega (arith, there, many))))
          (cases_lt i (length ends));
    }

    apart_more : StandApart (firsts_of documents) (ends_of documents) → StandApart more_firsts more_ends
    apart_more stand i j lt l =
        ⊎_elim
        (λ w. omega (arith, old_end i (omega (arith, lt, w)), old_first j w, h.apart stand i j lt w))
        (λ g.
        let e : j ≡ length ends = omega (arith, l, g, size_ends) in
        let before : i < length ends = omega (arith, lt, e) in
        omega (arith, old_end i before, new_first j e, end_before i before, stand (start - 1) start (omega (arith, before, h.few)) (omega (arith, order, there, many))))
        (cases_lt j (length ends))

    in_more : (x : ℕ) → IsInRun firsts ends x → IsInRun more_firsts more_ends x
    in_more x r = record {
      run = r.run;
      within = omega (arith, r.within, size_ends);
      from = omega (arith, r.from, old_first r.run r.within);
      to = omega (arith, r.to, old_end r.run r.within);
    }

    held_more : (x i : ℕ) → i < last + 1 → first_at i ≤ x → x ≤ end_at i → IsInRun more_firsts more_ends x
    held_more x i l from to =
        ⊎_elim
        (λ w. in_more x (h.held x i w from to))
        (λ g. record {
          run = length ends;
          within = omega (arith, size_ends);
          from = omega (arith, from, new_first (length ends) refl, from_start i (omega (arith, g)) (omega (arith, l)));
          to = omega (arith, to, new_end (length ends) refl, end_up i last (omega (arith, l)) there);
        })
        (cases_lt i start)

    holds_more : (x : ℕ) → IsInRun more_firsts more_ends x → IsInRange documents x
    holds_more x r =
        ⊎_elim
        (λ w. h.holds x (record { run = r.run; within = w; from = omega (arith, r.from, old_first r.run w); to = omega (arith, r.to, old_end r.run w) }))
        (λ g.
        let e : r.run ≡ length ends = omega (arith, g, r.within, size_ends) in
        let all : start + (last - start) ≡ last = omega (arith, order) in
        in_range (last - start) (omega (arith, all)) x (omega (arith, r.from, new_first r.run e)) (omega (arith, r.to, new_end r.run e, ap (λ k. get_or (ends_of documents) k 0) all)))
        (cases_lt r.run (length ends))

    parted_more : (r : ℕ) → r + 1 < length more_ends → get_or more_ends r 0 + 1 ≡ get_or more_firsts (r + 1) 0 → ⊥
    parted_more r l meets =
        ⊎_elim
        (λ w. h.parted r w (omega (arith, meets, old_end r (omega (arith, w)), old_first (r + 1) w)))
        (λ g.
        let e : r + 1 ≡ length ends = omega (arith, l, g, size_ends) in
        let at : r ≡ length ends - 1 = omega (arith, e) in
        let some : 0 < start = omega (arith, e, h.few) in
        h.ahead some (omega (arith, order, there))
        (omega (
          arith,
          meets,
          old_end r (omega (arith, e)),
          ap (λ k. get_or ends k 0) at,
          h.last_is some,
          new_first (r + 1) e,
        )))
        (cases_lt (r + 1) (length ends))

    joined_more : length more_ends ≤ 1 → (i : ℕ) → i + 1 < last + 1 → first_at (i + 1) ≡ end_at i + 1
    joined_more one i l =
        let none : start ≡ 0 = ⊎_elim (λ z. omega (arith, z)) (λ some. absurd (omega (arith, one, size_ends, h.some (omega (arith, some))))) (cases_lt start 1) in
        joins i (omega (arith, none)) (omega (arith, l))

    all_more : (last + 1 < length documents → end_at last + 1 ≡ first_at (last + 1) → ⊥) → AreRunsTo documents (last + 1) more_firsts more_ends
    all_more ends_here =
        let back : last + 1 - 1 ≡ last = omega arith in
        record {
          within = omega (arith, there);
          paired = omega (arith, size_firsts, size_ends);
          few = omega (arith, size_ends, h.few, order);
          some = λ _. omega (arith, size_ends);
          rising = ends_more;
          last_is = λ _. omega (arith, new_end (length more_ends - 1) (omega (arith, size_ends)), ap (λ k. get_or (ends_of documents) k 0) back);
          apart = apart_more;
          held = held_more;
          holds = holds_more;
          parted = parted_more;
          ahead = λ _ l meets. ends_here l (omega (arith, meets, ap (λ k. get_or (ends_of documents) k 0) back));
          joined = joined_more;
        }

    pub runs_more : (last + 1 < length documents → get_or (ends_of documents) last 0 + 1 ≡ get_or (firsts_of documents) (last + 1) 0 → ⊥)
        → (new_firsts new_ends : List ℕ) → new_firsts ≡ firsts ++ get_or (firsts_of documents) start 0 ∷ [] → new_ends ≡ ends ++ get_or (ends_of documents) last 0 ∷ []
        → AreRunsTo documents (last + 1) new_firsts new_ends
    runs_more ends_here new_firsts new_ends f e =
        subst (λ (xs : List ℕ). AreRunsTo documents (last + 1) xs new_ends) (sym f)
        (subst (λ (xs : List ℕ). AreRunsTo documents (last + 1) more_firsts xs) (sym e) (all_more ends_here))

-- all documents
pub runs_whole : (documents : List DocRow) (count : ℕ) (firsts ends : List ℕ) → AreRunsTo documents count firsts ends → length documents ≤ count → AreRunsOf documents firsts ends
runs_whole documents count firsts ends h all = record {
  paired = h.paired;
  rising = h.rising;
  apart = h.apart;
  same = λ x. (λ r. h.held x r.row (omega (arith, r.within, all)) r.from r.to, h.holds x);
  parted = h.parted;
  joined = λ one i l. h.joined one i (omega (arith, l, all));
}
