-- A pass over a stream beside the rows of its summary.
use Rattle.std.proofs.Common.{◌≡◌, ⊎_elim, inl, inr, ℕ, suc, ◌+◌, ◌-◌, ◌*◌, ◌<◌, ◌≤◌, min, List, [], ◌∷◌, length, take, drop, get_or, refl, sym, subst, ap, ◌∙◌, arith, length-drop}
use Rattle.std.specs.Prelude.{None}
use Rattle.std.proofs.lemmas.Bool.{cases_lt}
use Rattle.std.proofs.lemmas.List.{get_or-drop, drop-drop}
use Rattle.alta_codec.proofs.Numerals.{AreBytes}
use Rattle.alta_postings.specs.Deltas.{stream_bytes, fault_at, list_from, first_fault, decoded_list, IsBlockRead}
use Rattle.alta_postings.proofs.Reading.{fault_end, list_end, reading_spells, no_list, place_is}
use Rattle.alta_postings.specs.Table.{HasRows, IsSummary, IsFault}
use Rattle.alta_words.specs.declared.checking.PostingFault.{PostingFault}
use Rattle.alta_words.specs.declared.checking.PostingFault.TheVariants as wrong
use Rattle.alta_words.specs.Compared.{IsSameTo, IsWalked}
use Rattle.alta_words.specs.Fault.{Agrees, IsFirstDifferent, IsPostingFault, HasRow, IsSameAfter, AreAllSame}
use Rattle.alta_words.specs.Word.{IsRowOf, IsPosting, HasBounds}

pub walk_start : (bytes summary : List ℕ) (b : ℕ) → IsWalked bytes summary b 0 0 0 0 0 0
unfolding first_fault decoded_list
walk_start bytes summary b = record {
  fault = refl;
  list = refl;
  counted = omega arith;
  blocks_are = omega arith;
  full = λ _. omega arith;
  low = omega arith;
  within = omega arith;
  short = omega arith;
  first_is = λ h. absurd (omega arith);
  first_none = λ _. refl;
  last_is = refl;
  compared = omega arith;
  rows = λ _. record { within = omega arith; rows = λ i l. absurd (omega arith); broken = λ l. absurd (omega arith) };
}

module _ (bytes summary : List ℕ) (b at last first count blocks same here end more next new fresh : ℕ) (w : IsWalked bytes summary b at last first count blocks same) (lt : at < length bytes) (r : IsBlockRead bytes at last here end more next) where
  behind : list_from next 0 end (drop next bytes) ≡ drop (count + more) (decoded_list bytes)
  behind = r.list ∙ ap (λ l. drop more l) w.list ∙ drop-drop more count (decoded_list bytes)

  room : count + more ≤ length (decoded_list bytes)
  room = omega (arith, r.counted, r.some, ap length w.list, length-drop count (decoded_list bytes))

  here_is : here ≡ get_or (decoded_list bytes) count 0
  here_is =
      let e : count + 0 ≡ count = omega arith in
      r.first_is ∙ ap (λ l. get_or l 0 0) w.list ∙ get_or-drop count (decoded_list bytes) 0 0 ∙ ap (λ i. get_or (decoded_list bytes) i 0) e

  end_is : end ≡ get_or (decoded_list bytes) (count + (more - 1)) 0
  end_is = r.last_is ∙ ap (λ l. get_or l (more - 1) 0) w.list ∙ get_or-drop count (decoded_list bytes) (more - 1) 0

  -- the block is the last where it is not full
  ends : more < 64 → length (decoded_list bytes) ≤ count + more
  ends few =
      let none = list_end bytes next end (omega (arith, r.ended few)) in
      omega (arith, ap length (sym behind ∙ none), length-drop (count + more) (decoded_list bytes))

  last_place : min (64 * blocks + 63) (length (decoded_list bytes) - 1) ≡ count + (more - 1)
  last_place = ⊎_elim (λ few. omega (arith, w.full lt, ends few, room, r.some)) (λ all. omega (arith, w.full lt, room, r.few, r.some)) (cases_lt more 64)

  module _ (bytes_are : AreBytes bytes) (none : first_fault bytes ≡ None) where
    place_here : at ≡ length (stream_bytes 0 (take (64 * blocks) (decoded_list bytes)))
    place_here =
        place_is bytes (decoded_list bytes) count at last bytes_are (reading_spells bytes bytes_are none) w.within w.counted w.last_is (sym w.fault ∙ none) w.list
        ∙ ap (λ i. length (stream_bytes 0 (take i (decoded_list bytes)))) (w.full lt)

    row_is : HasRow summary blocks here end at → IsRowOf (decoded_list bytes) summary blocks
    row_is h = record {
      first = h.first_is ∙ here_is ∙ ap (λ i. get_or (decoded_list bytes) i 0) (w.full lt);
      last = h.last_is ∙ end_is ∙ ap (λ i. get_or (decoded_list bytes) i 0) (sym last_place);
      place = h.place_is ∙ place_here;
    }

    row_has : IsRowOf (decoded_list bytes) summary blocks → HasRow summary blocks here end at
    row_has h = record {
      first_is = h.first ∙ ap (λ i. get_or (decoded_list bytes) i 0) (sym (w.full lt)) ∙ sym here_is;
      last_is = h.last ∙ ap (λ i. get_or (decoded_list bytes) i 0) last_place ∙ sym end_is;
      place_is = h.place ∙ sym place_here;
    }

    same_more : IsSameAfter summary b same blocks at here end new → IsSameTo (decoded_list bytes) summary b (blocks + 1) new
    same_more (inl (e, s, l, h)) =
        let old = w.rows none in
        record {
          within = omega arith;
          rows = λ i k. ⊎_elim (λ before. old.rows i before)
              (λ ge. let is : blocks ≡ i = omega arith in subst (λ j. (j < b) × IsRowOf (decoded_list bytes) summary j) is (l, row_is h))
              (cases_lt i same);
          broken = λ k. absurd (omega arith);
        }
    same_more (inr (e, differs)) =
        let old = w.rows none in
        record {
          within = omega (arith, old.within);
          rows = λ i k. old.rows i (omega arith);
          broken = λ k inside h. let row : IsRowOf (decoded_list bytes) summary same = subst (λ j. IsRowOf (decoded_list bytes) summary j) e h in
              ⊎_elim (λ before. old.broken before (omega arith) row)
              (λ ge. let is : same ≡ blocks = omega (arith, old.within) in differs is (omega arith) (row_has (subst (λ j. IsRowOf (decoded_list bytes) summary j) is row)))
              (cases_lt same blocks);
        }

  compared_more : IsSameAfter summary b same blocks at here end new → new ≤ blocks + 1
  compared_more (inl (e, s, l, h)) = omega (arith, w.compared)
  compared_more (inr (e, x)) = omega (arith, w.compared)

  pub walk_more : AreBytes bytes → (blocks ≡ 0 → fresh ≡ here) → (0 < blocks → fresh ≡ first) → IsSameAfter summary b same blocks at here end new
      → IsWalked bytes summary b next end fresh (count + more) (blocks + 1) new
  walk_more bytes_are start later after = record {
    fault = w.fault ∙ r.fault;
    list = behind;
    counted = room;
    blocks_are = omega (arith, w.full lt, r.some, r.few);
    full = λ l. ⊎_elim (λ few. absurd (omega (arith, r.ended few))) (λ all. omega (arith, w.full lt, r.few)) (cases_lt more 64);
    low = r.low;
    within = r.within;
    short = omega (arith, r.long, w.short);
    first_is = λ _. ⊎_elim
        (λ z. let e : count ≡ 0 = omega (arith, w.full lt) in start (omega arith) ∙ here_is ∙ ap (λ i. get_or (decoded_list bytes) i 0) e)
        (λ some. later (omega arith) ∙ w.first_is (omega (arith, w.full lt)))
        (cases_lt blocks 1);
    first_none = λ z. absurd (omega (arith, r.some));
    last_is = let e : suc (count + (more - 1)) ≡ count + more = omega (arith, r.some) in end_is ∙ ap (λ i. get_or (0 ∷ decoded_list bytes) i 0) e;
    compared = compared_more after;
    rows = λ none. same_more bytes_are none after;
  }

none_first : (xs : List ℕ) → length xs ≡ 0 → get_or xs 0 0 ≡ 0
none_first [] z = refl
none_first (x ∷ xs) z = absurd (omega arith)

module _ (bytes summary : List ℕ) (b at last first count blocks same : ℕ) (w : IsWalked bytes summary b at last first count blocks same) (end : length bytes ≤ at) where
  pub no_fault : first_fault bytes ≡ None
  no_fault = w.fault ∙ fault_end bytes at last end

  pub all_read : count ≡ length (decoded_list bytes)
  all_read = omega (arith, w.counted, ap length (sym w.list ∙ list_end bytes at last end), length-drop count (decoded_list bytes))

  pub bounds_are : HasBounds (decoded_list bytes) count first last
  bounds_are = record {
    counted = all_read;
    first_is = ⊎_elim (λ z. w.first_none (omega arith) ∙ sym (none_first (decoded_list bytes) (omega (arith, all_read)))) (λ some. w.first_is (omega arith)) (cases_lt count 1);
    last_is = w.last_is ∙ ap (λ i. get_or (0 ∷ decoded_list bytes) i 0) all_read;
  }

  pub posting_is : AreBytes bytes → IsSummary summary b → AreAllSame b blocks same → IsPosting bytes summary b
  posting_is bytes_are table (inl (none, few)) = record {
    spelled = reading_spells bytes bytes_are no_fault;
    table = table;
    short = λ _. none;
    long = λ l. absurd (omega (arith, all_read, w.blocks_are));
    rows = λ i l. absurd (omega arith);
  }
  posting_is bytes_are table (inr (all, each)) = record {
    spelled = reading_spells bytes bytes_are no_fault;
    table = table;
    short = λ l. ⊎_elim (λ z. omega arith) (λ some. absurd (table.rows.many (omega (arith, all_read, w.blocks_are)))) (cases_lt b 1);
    long = λ l. omega (arith, all_read, w.blocks_are);
    rows = λ i l. ((w.rows no_fault).rows i (omega arith)).1;
  }

  pub differ_is : AreBytes bytes → IsSummary summary b → (AreAllSame b blocks same → ⊥) → IsFirstDifferent bytes summary b same
  differ_is bytes_are table not_all =
      let s = w.rows no_fault in
      record {
        spelled = reading_spells bytes bytes_are no_fault;
        table = table;
        many = λ z. ⊎_elim (λ few. absurd (not_all (inl (z, few)))) (λ g. omega (arith, all_read, w.blocks_are)) (cases_lt blocks 2);
        before = λ j l. record {
          block = λ _. omega (arith, all_read, w.blocks_are, s.within);
          row = λ _. (s.rows j l).0;
          same = λ _. (s.rows j l).1;
        };
        differs = λ a. ⊎_elim
            (λ l. let inside = a.row (omega (arith, all_read, w.blocks_are)) in s.broken l inside (a.same inside))
            (λ ge. let is : same ≡ blocks = omega (arith, s.within) in
            ⊎_elim (λ less. absurd (omega (arith, a.block less, all_read, w.blocks_are)))
            (λ le. ⊎_elim (λ past. absurd (omega (arith, (s.rows b past).0))) (λ no. not_all (inr (omega arith, is))) (cases_lt b same))
            (cases_lt same b))
            (cases_lt same blocks);
      }

-- a table has one number of rows
pub rows_one : (bytes : List ℕ) (b c : ℕ) → HasRows bytes b → HasRows bytes c → b ≡ c
rows_one bytes b c h k = omega (arith, h.sized, k.sized)

no_table : (summary : List ℕ) (place b : ℕ) → IsFault summary place → IsSummary summary b → ⊥
no_table summary place b (inl x) s = x.none b s.rows
no_table summary place b (inr (c, (k, x))) s =
    let t = subst (λ n. IsSummary summary n) (rows_one summary b c s.rows x.rows) s in x.broken (t.keeps k x.within)

all_agree : (stream summary : List ℕ) (b i : ℕ) → IsPosting stream summary b → (b ≡ 0 → 64 < length (decoded_list stream)) → Agrees (decoded_list stream) summary b i
all_agree stream summary b i p many =
    let long : 64 < length (decoded_list stream) = ⊎_elim (λ few. many (p.short (omega arith))) (λ g. omega arith) (cases_lt (length (decoded_list stream)) 65) in
    record {
      block = λ l. omega (arith, p.long long);
      row = λ l. omega (arith, p.long long);
      same = λ l. p.rows i l;
    }

-- where there is a fault, the two do not belong together
pub fault_refuses : (stream summary : List ℕ) (fault : PostingFault) (b : ℕ) → IsPostingFault stream summary fault → IsPosting stream summary b → ⊥
fault_refuses stream summary (wrong.Stream place) b (why, e) p = no_list stream (decoded_list stream) (fault_at place why) e p.spelled
fault_refuses stream summary (wrong.Summary place) b (s, f) p = no_table summary place b f p.table
fault_refuses stream summary (wrong.Differ row) b (c, d) p =
    let q = subst (λ n. IsPosting stream summary n) (rows_one summary b c p.table.rows d.table.rows) p in
    d.differs (all_agree stream summary c row q d.many)
