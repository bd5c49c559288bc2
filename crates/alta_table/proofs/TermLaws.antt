-- What the fields of a term row say is its one spelling, and what the term part has of it.
use Rattle.std.proofs.Common.{◌≡◌, ◌⊎◌, ⊎_elim, ℕ, zero, suc, ◌+◌, ◌-◌, ◌≤◌, ◌<◌, ◌^◌, true, cond, ltb, leb, List, [], ◌∷◌, ◌++◌, length, get_or, take, drop, drop-cons, refl, sym, ap, subst, ◌∙◌, arith, append_assoc}
use Rattle.std.specs.Prelude.{IsTrue}
use Rattle.std.proofs.lemmas.Bool.{cases_lt, ltb-true, lt-ltb, le-ltb, leb-true, le-leb, and_parts, and_from}
use Rattle.std.proofs.lemmas.List.Sums.{sum_by-cons}
use Rattle.std.proofs.lemmas.List.{drop_at, length-append, length-take, length-drop}
use Rattle.alta_codec.specs.Numbers.{number_bytes}
use Rattle.alta_codec.specs.Order.{Precedes}
use Rattle.alta_format.specs.Format.{Spells, entries_bytes, AreEntries, state_behind}
use Rattle.alta_table.specs.declared.term.TermRow.{TermRow}
use Rattle.alta_table.specs.Terms.{Behind, first_byte, continues, term_format, terms_table, shared_len, entry_bytes, terms_bytes_behind, MayFollowTerm, AreTermsBehind, data_of, data_bytes}
use Rattle.alta_content.specs.Lists.{is_kind}
use Rattle.alta_table.proofs.Order.{shared_is, precedes_is, Goes, precedes_goes}

record Continues (a : List ℕ) (k : ℕ) (text : List ℕ) : Type 0 where
  first : ℕ
  others : List ℕ
  parts : text ≡ first ∷ others
  kind : IsTrue (is_kind (first_byte a k first))
  lower : k < length a → get_or a k 0 < first

continues_parts : (a : List ℕ) (k : ℕ) (text : List ℕ) → IsTrue (continues a k text) → Continues a k text
continues_parts a k [] h = absurd cc
continues_parts a k (b ∷ r) h =
    let (kind, lower) = and_parts _ _ h in
    record {
      first = b;
      others = r;
      parts = refl;
      kind = kind;
      lower = λ lt. let f = rw (lt-ltb k (length a) lt) at lower in ltb-true (get_or a k 0) b f;
    }

parts_continue : (a : List ℕ) (k b : ℕ) (r : List ℕ) → IsTrue (is_kind (first_byte a k b)) → (k < length a → get_or a k 0 < b) → IsTrue (continues a k (b ∷ r))
parts_continue a k b r kind lower = and_from _ _ kind (lower_of (cases_lt k (length a)))
  where
    lower_of : (k < length a) ⊎ (length a ≤ k) → cond (ltb k (length a)) (ltb (get_or a k 0) b) true ≡ true
    lower_of c = ⊎_elim (λ lt. rw (lt-ltb k (length a) lt) (lt-ltb (get_or a k 0) b (lower lt))) (λ le. rw (le-ltb k (length a) le) refl) c

-- the first byte of a front and what follows
first_is : (a : List ℕ) (k b : ℕ) (r : List ℕ) → k ≤ length a → get_or (take k a ++ b ∷ r) 0 0 ≡ first_byte a k b
first_is a zero b r le = refl
first_is [] (suc k) b r le = absurd (omega (arith, le))
first_is (x ∷ a) (suc k) b r le = rw (lt-ltb 0 (suc k) (omega arith)) refl

-- the row may stand behind that of a term, with so much room for its stream and its summary
pub record MayStand (before : Behind) (t : TermRow) : Type 0 where
  pub follows : MayFollowTerm before.term t
  pub stream_fits : t.stream ≤ before.room
  pub summary_fits : t.summary ≤ before.room - t.stream
  pub stream_below : t.stream < 2 ^ 64
  pub summary_below : t.summary < 2 ^ 64

abbrev pub entry_of : Behind → TermRow → List ℕ
entry_of before t = entry_bytes before.term t

term_parts : (before : Behind) (t : TermRow) (rest : List ℕ) → entry_of before t ++ rest ≡ number_bytes (shared_len before.term t.term) ++ (number_bytes (length t.term - shared_len before.term t.term)
    ++ (drop (shared_len before.term t.term) t.term ++ (number_bytes t.count ++ (number_bytes t.stream ++ (number_bytes t.summary ++ rest)))))
term_parts before t rest = simp append_assoc

pub term_spelled : (before : Behind) (bytes : List ℕ) (t : TermRow) (rest : List ℕ) → Spells (term_format before) bytes t rest → MayStand before t × (bytes ≡ entry_of before t ++ rest)
unfolding Spells term_format
term_spelled before bytes t rest (k, b1, has1, kept1, (len, b2, has2, kept2, (text, b3, has3, kept3, (count, b4, has4, kept4, (stream, b5, has5, kept5, (summary, b6, has6, kept6, (same, behind))))))) =
    let a : List ℕ = before.term in
    let within : k ≤ length a = leb-true k (length a) kept1 in
    let (some, short) = and_parts (ltb 0 len) (leb (k + len) 129) kept2 in
    let goes = continues_parts a k text kept3 in
    let front : length (take k a) ≡ k = omega (arith, length-take k a, within) in
    let term : List ℕ = take k a ++ text in
    let made : TermRow = record { term = term; count = count; stream = stream; summary = summary } in
    let spelled : term ≡ take k a ++ goes.first ∷ goes.others = ap (λ (x : List ℕ). take k a ++ x) goes.parts in
    let shared : shared_len a term ≡ k = ap (shared_len a) spelled ∙ shared_is k a goes.first goes.others within goes.lower in
    let total : length term ≡ k + len = omega (arith, length-append (take k a) text, front, has3.len_is) in
    let remains : length term - shared_len a term ≡ len = omega (arith, shared, total) in
    let tail : drop (shared_len a term) term ≡ text = ap (λ (j : ℕ). drop j term) shared ∙ drop_at (take k a) text k front in
    let keeps : MayStand before made = record {
      follows = record {
        rises = subst (λ (l : List ℕ). Precedes a l) (sym spelled) (precedes_is k a goes.first goes.others within goes.lower);
        kind = subst (λ (b : ℕ). IsTrue (is_kind b)) (sym (ap (λ (l : List ℕ). get_or l 0 0) spelled ∙ first_is a k goes.first goes.others within)) goes.kind;
        short = omega (arith, total, leb-true (k + len) 129 short);
        some = ltb-true 0 count kept4;
        few = has4.below;
      };
      stream_fits = leb-true stream before.room kept5;
      summary_fits = leb-true summary (before.room - stream) kept6;
      stream_below = has5.below;
      summary_below = has6.below;
    } in
    let fields : bytes ≡ number_bytes k ++ (number_bytes len ++ (text ++ (number_bytes count ++ (number_bytes stream ++ (number_bytes summary ++ rest))))) =
    has1.parts ∙ ap (λ (x : List ℕ). number_bytes k ++ x) (has2.parts ∙ ap (λ (x : List ℕ). number_bytes len ++ x) (has3.parts ∙ ap (λ (x : List ℕ). text ++ x)
    (has4.parts ∙ ap (λ (x : List ℕ). number_bytes count ++ x) (has5.parts ∙ ap (λ (x : List ℕ). number_bytes stream ++ x) (has6.parts ∙ ap (λ (x : List ℕ). number_bytes summary ++ x) behind))))) in
    let ends : List ℕ = number_bytes count ++ (number_bytes stream ++ (number_bytes summary ++ rest)) in
    let renamed : number_bytes k ++ (number_bytes len ++ (text ++ ends)) ≡ number_bytes (shared_len a term) ++ (number_bytes (length term - shared_len a term) ++ (drop (shared_len a term) term ++ ends)) =
    sym (ap (λ (j : ℕ). number_bytes j ++ (number_bytes (length term - shared_len a term) ++ (drop (shared_len a term) term ++ ends))) shared
    ∙ ap (λ (j : ℕ). number_bytes k ++ (number_bytes j ++ (drop (shared_len a term) term ++ ends))) remains
    ∙ ap (λ (l : List ℕ). number_bytes k ++ (number_bytes len ++ (l ++ ends))) tail) in
    subst (λ (x : TermRow). MayStand before x × (bytes ≡ entry_of before x ++ rest)) same (keeps, fields ∙ renamed ∙ sym (term_parts before made rest))

pub term_spells : (before : Behind) (bytes : List ℕ) (t : TermRow) (rest : List ℕ) → MayStand before t → bytes ≡ entry_of before t ++ rest → Spells (term_format before) bytes t rest
unfolding Spells term_format
term_spells before bytes t rest m parts =
    let a : List ℕ = before.term in
    let k : ℕ = shared_len a t.term in
    let goes : Goes a t.term k = precedes_goes a t.term m.follows.rises in
    let text : List ℕ = drop k t.term in
    let len : ℕ = length t.term - k in
    let b6 : List ℕ = rest in
    let b5 : List ℕ = number_bytes t.summary ++ b6 in
    let b4 : List ℕ = number_bytes t.stream ++ b5 in
    let b3 : List ℕ = number_bytes t.count ++ b4 in
    let b2 : List ℕ = text ++ b3 in
    let b1 : List ℕ = number_bytes len ++ b2 in
    let whole : bytes ≡ number_bytes k ++ b1 = parts ∙ term_parts before t rest in
    let cells : drop k t.term ≡ get_or t.term k 0 ∷ drop (suc k) t.term = drop-cons t.term k 0 goes.more in
    let whole_term : take k a ++ get_or t.term k 0 ∷ drop (suc k) t.term ≡ t.term = ap (λ (l : List ℕ). take k a ++ l) (sym cells) ∙ goes.joined in
    let first : first_byte a k (get_or t.term k 0) ≡ get_or t.term 0 0 = sym (first_is a k (get_or t.term k 0) (drop (suc k) t.term) goes.within) ∙ ap (λ (l : List ℕ). get_or l 0 0) whole_term in
    let kind : IsTrue (is_kind (first_byte a k (get_or t.term k 0))) = subst (λ (b : ℕ). IsTrue (is_kind b)) (sym first) m.follows.kind in
    let continued : IsTrue (continues a k text) = subst (λ (l : List ℕ). IsTrue (continues a k l)) (sym cells) (parts_continue a k (get_or t.term k 0) (drop (suc k) t.term) kind goes.lower) in (
      k,
      b1,
      record { below = omega (arith, goes.more, m.follows.short); parts = whole },
      le-leb k (length a) goes.within,
      (
        len,
        b2,
        record { below = omega (arith, m.follows.short); parts = refl },
        and_from _ _ (lt-ltb 0 len (omega (arith, goes.more))) (le-leb (k + len) 129 (omega (arith, m.follows.short, goes.more))),
        (
          text,
          b3,
          record { len_is = length-drop k t.term; parts = refl },
          continued,
          (
            t.count,
            b4,
            record { below = m.follows.few; parts = refl },
            lt-ltb 0 t.count m.follows.some,
            (
              t.stream,
              b5,
              record { below = m.stream_below; parts = refl },
              le-leb t.stream before.room m.stream_fits,
              (
                t.summary,
                b6,
                record { below = m.summary_below; parts = refl },
                le-leb t.summary (before.room - t.stream) m.summary_fits,
                (ap (λ (l : List ℕ). with_term l) goes.joined, refl),
              ),
            ),
          ),
        ),
      ),
    )
  where
    with_term : List ℕ → TermRow
    with_term l = record { term = l; count = t.count; stream = t.stream; summary = t.summary }

-- ---- all rows

entries_are : (before : Behind) (ts : List TermRow) → entries_bytes terms_table entry_of before ts ≡ terms_bytes_behind before.term ts
unfolding entries_bytes terms_bytes_behind
entries_are before [] = refl
entries_are before (t ∷ ts) = ap (λ (r : List ℕ). entry_bytes before.term t ++ r) (entries_are (record { term = t.term; room = before.room - t.stream - t.summary }) ts)

pub terms_behind-are : (before : Behind) (ts : List TermRow) → terms_bytes_behind before.term ts ≡ entries_bytes terms_table entry_of before ts
terms_behind-are before ts = sym (entries_are before ts)

pub stand_split : (before : Behind) (ts : List TermRow) → AreEntries terms_table MayStand before ts → AreTermsBehind before.term ts × (data_bytes ts + (state_behind terms_table before ts).room ≡ before.room)
unfolding AreEntries AreTermsBehind state_behind
stand_split before [] m = (tt, omega arith)
stand_split before (t ∷ ts) (m, more) =
    let next : Behind = record { term = t.term; room = before.room - t.stream - t.summary } in
    let (stand, sum) = stand_split next ts more in
    ((m.follows, stand), omega (arith, sum, sum_by-cons data_of t ts, m.stream_fits, m.summary_fits))

pub stand_join : (before : Behind) (ts : List TermRow) → AreTermsBehind before.term ts → data_bytes ts ≤ before.room → before.room < 2 ^ 64 → AreEntries terms_table MayStand before ts
unfolding AreEntries AreTermsBehind
stand_join before [] m fits below = tt
stand_join before (t ∷ ts) (m, more) fits below =
    let sum = sum_by-cons data_of t ts in
    let next : Behind = record { term = t.term; room = before.room - t.stream - t.summary } in (
      record { follows = m; stream_fits = omega (arith, sum, fits); summary_fits = omega (arith, sum, fits); stream_below = omega (arith, sum, fits, below); summary_below = omega (arith, sum, fits, below) },
      stand_join next ts more (omega (arith, sum, fits)) (omega (arith, below)),
    )

-- ---- there are no more rows than bytes

pub entry-some : (before : List ℕ) (t : TermRow) → Precedes before t.term → 0 < length (entry_bytes before t)
entry-some before t rises =
    let k = shared_len before t.term in
    let goes = precedes_goes before t.term rises in
    let front : List ℕ = number_bytes k ++ number_bytes (length t.term - k) in
    let upto : List ℕ = front ++ drop k t.term in
    let one : List ℕ = upto ++ number_bytes t.count in
    let two : List ℕ = one ++ number_bytes t.stream in
    omega (arith, goes.more, length-drop k t.term, length-append front (drop k t.term), length-append upto (number_bytes t.count), length-append one (number_bytes t.stream), length-append two (number_bytes t.summary))

pub terms-le : (before : List ℕ) (ts : List TermRow) → AreTermsBehind before ts → length ts ≤ length (terms_bytes_behind before ts)
unfolding AreTermsBehind terms_bytes_behind
terms-le before [] m = omega arith
terms-le before (t ∷ ts) (m, more) =
    omega (arith, terms-le t.term ts more, entry-some before t m.rises, length-append (entry_bytes before t) (terms_bytes_behind t.term ts))

-- what the rows leave of the room
pub room_behind : (before : Behind) (ts : List TermRow) → AreEntries terms_table MayStand before ts → data_bytes ts + (state_behind terms_table before ts).room ≡ before.room
room_behind before ts keeps = (stand_split before ts keeps).1
