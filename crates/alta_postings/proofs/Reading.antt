-- What bytes are read as, number by number, and that this is the list that they spell.
use Rattle.std.proofs.Common.{◌≡◌, ⊎_elim, inl, ℕ, zero, suc, ◌+◌, ◌-◌, ◌*◌, ◌<◌, ◌≤◌, List, [], ◌∷◌, ◌++◌, length, take, drop, get_or, refl, sym, subst, ap, ◌∙◌, arith, length-append, length-drop, append-nil}
use Rattle.std.specs.Prelude.{Result, Ok, Err, Option, Some, None, IfSome, cond, nat_lt, nat_eq}
use Rattle.std.proofs.Math.Seq.{drop-append_seam, drop-append-add}
use Rattle.std.proofs.Math.ListN.{drop_of_length-le}
use Rattle.std.proofs.lemmas.List.{drop-drop, get_or-drop}
use Rattle.std.proofs.lemmas.Bool.{cases_lt}
use Rattle.std.proofs.lemmas.Bool.Decides.{nat_tests}
use Rattle.alta_codec.specs.declared.location.TheConstants.{TOP}
use Rattle.alta_codec.specs.declared.number.CodeFault.{CodeFault}
use Rattle.alta_codec.specs.Numbers.{number_bytes, with_low, number_from}
use Rattle.alta_codec.proofs.ByteLaws.{AreBytes-nil, AreBytes-append, number_bytes-AreBytes}
use Rattle.alta_codec.proofs.Numerals.{read_ok, AreBytes, number_read, reads_number, number_size, number_nil, number_last, number_more}
use Rattle.alta_postings.proofs.Above.{RisesAbove, rising_from_above, above_from_rising}
use Rattle.alta_postings.specs.declared.fault.StreamCause.TheVariants.{Zero, Top}
use Rattle.alta_postings.specs.declared.fault.StreamFault.{StreamFault}
use Rattle.alta_postings.specs.Short.{IsReadTo}
use Rattle.alta_postings.specs.Deltas.{Spells, stream_bytes, cause_of, fault_at, number_fault, number_list, fault_from, list_from, first_fault, decoded_list, IsBehind, IsNextOf, IsStep, IsBlockRead}

fault_skip : (k at before : ℕ) (bs : List ℕ) → fault_from at k before bs ≡ fault_from (at + k) 0 before (drop k bs)
unfolding fault_from
fault_skip zero at before bs = let e : at ≡ at + 0 = omega arith in ap (λ i. fault_from i 0 before bs) e
fault_skip (suc k) at before [] = refl
fault_skip (suc k) at before (b ∷ bs) =
    let e : at + 1 + k ≡ at + suc k = omega arith in
    fault_skip k (at + 1) before bs ∙ ap (λ i. fault_from i 0 before (drop k bs)) e

list_skip : (k at before : ℕ) (bs : List ℕ) → list_from at k before bs ≡ list_from (at + k) 0 before (drop k bs)
unfolding list_from
list_skip zero at before bs = let e : at ≡ at + 0 = omega arith in ap (λ i. list_from i 0 before bs) e
list_skip (suc k) at before [] = refl
list_skip (suc k) at before (b ∷ bs) =
    let e : at + 1 + k ≡ at + suc k = omega arith in
    list_skip k (at + 1) before bs ∙ ap (λ i. list_from i 0 before (drop k bs)) e

-- at the end
pub fault_end : (s : List ℕ) (at before : ℕ) → length s ≤ at → fault_from at 0 before (drop at s) ≡ None
unfolding fault_from
fault_end s at before l = let e : drop at s ≡ [] = drop_of_length-le s l in rw e refl

pub list_end : (s : List ℕ) (at before : ℕ) → length s ≤ at → list_from at 0 before (drop at s) ≡ []
unfolding list_from
list_end s at before l = let e : drop at s ≡ [] = drop_of_length-le s l in rw e refl

-- one number
fault_one : (at before : ℕ) (bs : List ℕ) (n e : ℕ) → number_from 9 at bs ≡ read_ok n e → at < e
    → fault_from at 0 before bs ≡ cond (nat_eq n 0) (Some (fault_at at Zero)) (cond (nat_lt (before + n) TOP) (fault_from e 0 (before + n) (drop (e - at) bs)) (Some (fault_at at Top)))
unfolding fault_from
fault_one at before [] n e h lt = let w = sym (number_nil 9 at) ∙ h in cc
fault_one at before (b ∷ bs) n e h lt =
    let d : suc (e - (at + 1)) ≡ e - at = omega arith in
    let g : at + 1 + (e - (at + 1)) ≡ e = omega arith in
    let s : fault_from (at + 1) (e - (at + 1)) (before + n) bs ≡ fault_from e 0 (before + n) (drop (e - at) (b ∷ bs)) =
    fault_skip (e - (at + 1)) (at + 1) (before + n) bs ∙ ap (λ i. fault_from i 0 (before + n) (drop (e - (at + 1)) bs)) g ∙ ap (λ i. fault_from e 0 (before + n) (drop i (b ∷ bs))) d in
    ap (λ r. number_fault at before r (λ i y. fault_from (at + 1) (i - (at + 1)) y bs)) h
    ∙ ap (λ t. cond (nat_eq n 0) (Some (fault_at at Zero)) (cond (nat_lt (before + n) TOP) t (Some (fault_at at Top)))) s

pub list_one : (at before : ℕ) (bs : List ℕ) (n e : ℕ) → number_from 9 at bs ≡ read_ok n e → at < e
    → list_from at 0 before bs ≡ (before + n) ∷ list_from e 0 (before + n) (drop (e - at) bs)
unfolding list_from
list_one at before [] n e h lt = let w = sym (number_nil 9 at) ∙ h in cc
list_one at before (b ∷ bs) n e h lt =
    let d : suc (e - (at + 1)) ≡ e - at = omega arith in
    let g : at + 1 + (e - (at + 1)) ≡ e = omega arith in
    let s : list_from (at + 1) (e - (at + 1)) (before + n) bs ≡ list_from e 0 (before + n) (drop (e - at) (b ∷ bs)) =
    list_skip (e - (at + 1)) (at + 1) (before + n) bs ∙ ap (λ i. list_from i 0 (before + n) (drop (e - (at + 1)) bs)) g ∙ ap (λ i. list_from e 0 (before + n) (drop i (b ∷ bs))) d in
    ap (λ r. number_list before r (λ i y. list_from (at + 1) (i - (at + 1)) y bs)) h
    ∙ ap (λ t. (before + n) ∷ t) s

pub fault_zero : (at before : ℕ) (bs : List ℕ) (n e : ℕ) → number_from 9 at bs ≡ read_ok n e → at < e → n ≡ 0 → fault_from at 0 before bs ≡ Some (fault_at at Zero)
fault_zero at before bs n e h lt z = fault_one at before bs n e h lt ∙ grind (arith, nat_tests)

pub fault_top : (at before : ℕ) (bs : List ℕ) (n e : ℕ) → number_from 9 at bs ≡ read_ok n e → at < e → 0 < n → TOP ≤ before + n → fault_from at 0 before bs ≡ Some (fault_at at Top)
fault_top at before bs n e h lt p t = fault_one at before bs n e h lt ∙ grind (arith, nat_tests)

pub fault_more : (at before : ℕ) (bs : List ℕ) (n e : ℕ) → number_from 9 at bs ≡ read_ok n e → at < e → 0 < n → before + n < TOP
    → fault_from at 0 before bs ≡ fault_from e 0 (before + n) (drop (e - at) bs)
fault_more at before bs n e h lt p t = fault_one at before bs n e h lt ∙ grind (arith, nat_tests)

pub fault_code : (at before : ℕ) (bs : List ℕ) (f : CodeFault) → 0 < length bs → number_from 9 at bs ≡ Err f → fault_from at 0 before bs ≡ Some (fault_at at (cause_of f))
unfolding fault_from
fault_code at before [] f l h = absurd (omega arith)
fault_code at before (b ∷ bs) f l h = ap (λ r. number_fault at before r (λ i y. fault_from (at + 1) (i - (at + 1)) y bs)) h

-- what one number shows where there is no fault
pub record IsNext (at before : ℕ) (bs : List ℕ) (n e : ℕ) : Type 0 where
  pub number : number_from 9 at bs ≡ read_ok n e
  pub spelled : bs ≡ number_bytes n ++ drop (e - at) bs
  pub after : at < e
  pub within : e ≤ at + length bs
  pub positive : 0 < n
  pub low : before + n < TOP
  pub none : fault_from e 0 (before + n) (drop (e - at) bs) ≡ None
  pub list : list_from at 0 before bs ≡ (before + n) ∷ list_from e 0 (before + n) (drop (e - at) bs)

pub next_number : (at before : ℕ) (bs : List ℕ) (n e : ℕ) → AreBytes bs → number_from 9 at bs ≡ read_ok n e → fault_from at 0 before bs ≡ None → IsNext at before bs n e
next_number at before bs n e bytes h f =
    let r = number_read at bs n e bytes h in
    let lt : at < e = omega (arith, r.after, (number_size n).0) in
    let p : 0 < n = ⊎_elim (λ z. absurd (let w : Some (fault_at at Zero) ≡ None = sym (fault_zero at before bs n e h lt (omega arith)) ∙ f in cc)) (λ g. g) (cases_lt n 1) in
    let t : before + n < TOP = ⊎_elim (λ l. l) (λ g. absurd (let w : Some (fault_at at Top) ≡ None = sym (fault_top at before bs n e h lt p g) ∙ f in cc)) (cases_lt (before + n) TOP) in
    record {
      number = h;
      spelled = r.spelled;
      after = lt;
      within = r.within;
      positive = p;
      low = t;
      none = sym (fault_more at before bs n e h lt p t) ∙ f;
      list = list_one at before bs n e h lt;
    }

next_by : (at before : ℕ) (bs : List ℕ) (r : Result (ℕ × ℕ) CodeFault) → 0 < length bs → AreBytes bs → number_from 9 at bs ≡ r → fault_from at 0 before bs ≡ None → (n : ℕ) × ((e : ℕ) × IsNext at before bs n e)
next_by at before bs (Ok (n, e)) l bytes h f = (n, (e, next_number at before bs n e bytes h f))
next_by at before bs (Err x) l bytes h f = absurd (let w : Some (fault_at at (cause_of x)) ≡ None = sym (fault_code at before bs x l h) ∙ f in cc)

pub next_of : (at before : ℕ) (bs : List ℕ) → 0 < length bs → AreBytes bs → fault_from at 0 before bs ≡ None → (n : ℕ) × ((e : ℕ) × IsNext at before bs n e)
next_of at before bs l bytes f = next_by at before bs (number_from 9 at bs) l bytes refl f

-- the list that is read is the one that is spelled
pub record IsSpelled (before : ℕ) (bs xs : List ℕ) : Type 0 where
  pub above : RisesAbove before xs
  pub spelled : bs ≡ stream_bytes before xs

bytes_behind : (bs : List ℕ) (k : ℕ) → AreBytes bs → AreBytes (drop k bs)
bytes_behind bs k bytes i l = let e = get_or-drop k bs i 0 in omega (arith, e, bytes (k + i) (omega (arith, length-drop k bs)))

spelled_more : (before n : ℕ) (bs rest ys xs : List ℕ) → bs ≡ number_bytes n ++ rest → 0 < n → before + n < TOP → IsSpelled (before + n) rest ys → xs ≡ (before + n) ∷ ys → IsSpelled before bs xs
unfolding stream_bytes
spelled_more before n bs rest ys xs s p t r e =
    let d : n ≡ before + n - before = omega arith in
    let here : IsSpelled before bs ((before + n) ∷ ys) = record {
      above = (omega arith, t, r.above);
      spelled = s ∙ ap (λ i. number_bytes i ++ rest) d ∙ ap (λ t. number_bytes (before + n - before) ++ t) r.spelled;
    } in
    subst (λ l. IsSpelled before bs l) (sym e) here

sound : (k at before : ℕ) (bs : List ℕ) → length bs ≤ k → AreBytes bs → fault_from at 0 before bs ≡ None → IsSpelled before bs (list_from at 0 before bs)
unfolding list_from stream_bytes
sound k at before [] l bytes f = record { above = tt; spelled = refl }
sound zero at before (b ∷ bs) l bytes f = absurd (omega arith)
sound (suc k) at before (b ∷ bs) l bytes f =
    let (n, (e, x)) = next_of at before (b ∷ bs) (omega arith) bytes f in
    let rest = drop (e - at) (b ∷ bs) in
    let ih = sound k e (before + n) rest (omega (arith, length-drop (e - at) (b ∷ bs), x.after)) (bytes_behind (b ∷ bs) (e - at) bytes) x.none in
    spelled_more before n (b ∷ bs) rest (list_from e 0 (before + n) rest) (list_from at 0 before (b ∷ bs)) x.spelled x.positive x.low ih x.list

pub reading_spells : (bs : List ℕ) → AreBytes bs → first_fault bs ≡ None → Spells bs (decoded_list bs)
unfolding first_fault decoded_list
reading_spells bs bytes f =
    let s = sound (length bs) 0 0 bs (omega arith) bytes f in record { rising = rising_from_above _ s.above; spelled = s.spelled }

-- and a list that is spelled is read
pub record IsRead (at before : ℕ) (bs xs : List ℕ) : Type 0 where
  pub none : fault_from at 0 before bs ≡ None
  pub list : list_from at 0 before bs ≡ xs

pub complete : (at before : ℕ) (xs : List ℕ) → RisesAbove before xs → IsRead at before (stream_bytes before xs) xs
unfolding fault_from list_from stream_bytes
complete at before [] r = record { none = refl; list = refl }
complete at before (x ∷ xs) (low, top, r) =
    let n = x - before in
    let bs = number_bytes n ++ stream_bytes x xs in
    let e = at + length (number_bytes n) in
    let h = reads_number at n (stream_bytes x xs) (omega arith) in
    let lt : at < e = omega (arith, (number_size n).0) in
    let d : e - at ≡ length (number_bytes n) = omega arith in
    let y : before + n ≡ x = omega arith in
    let s : drop (e - at) bs ≡ stream_bytes x xs = ap (λ i. drop i bs) d ∙ drop-append_seam (number_bytes n) (stream_bytes x xs) in
    let ih = complete e x xs r in
    record {
      none = fault_more at before bs n e h lt (omega arith) (omega arith) ∙ ap (λ i. fault_from e 0 i (drop (e - at) bs)) y ∙ ap (λ t. fault_from e 0 x t) s ∙ ih.none;
      list = list_one at before bs n e h lt ∙ ap (λ i. i ∷ list_from e 0 i (drop (e - at) bs)) y ∙ ap (λ t. x ∷ list_from e 0 x t) s ∙ ap (λ t. x ∷ t) ih.list;
    }

pub spelling_reads : (bs xs : List ℕ) → Spells bs xs → (first_fault bs ≡ None) × (decoded_list bs ≡ xs)
unfolding first_fault decoded_list
spelling_reads bs xs s =
    let c = complete 0 0 xs (above_from_rising xs s.rising) in
    (ap (λ b. fault_from 0 0 0 b) s.spelled ∙ c.none, ap (λ b. list_from 0 0 0 b) s.spelled ∙ c.list)

-- the bytes from a location of the list on
pub behind_some : (before k : ℕ) (xs : List ℕ) → k ≤ length xs
    → drop (length (stream_bytes before (take k xs))) (stream_bytes before xs) ≡ stream_bytes (get_or (before ∷ xs) k 0) (drop k xs)
unfolding stream_bytes
behind_some before zero xs l = refl
behind_some before (suc k) [] l = absurd (omega arith)
behind_some before (suc k) (x ∷ xs) l =
    let a = number_bytes (x - before) in
    ap (λ i. drop i (a ++ stream_bytes x xs)) (length-append a (stream_bytes x (take k xs)))
    ∙ drop-append-add a (stream_bytes x xs) (length (stream_bytes x (take k xs))) ∙ behind_some x k xs (omega arith)

pub above_behind : (before k : ℕ) (xs : List ℕ) → RisesAbove before xs → k ≤ length xs → RisesAbove (get_or (before ∷ xs) k 0) (drop k xs)
above_behind before zero xs r l = r
above_behind before (suc k) [] r l = absurd (omega arith)
above_behind before (suc k) (x ∷ xs) (a, b, r) l = above_behind x k xs r (omega arith)

behind : (s : List ℕ) (at e : ℕ) → at < e → drop (e - at) (drop at s) ≡ drop e s
behind s at e lt = let d : at + (e - at) ≡ e = omega arith in drop-drop (e - at) at s ∙ ap (λ i. drop i s) d

pub step_at : (s : List ℕ) (at before n e : ℕ) → AreBytes s → at < length s → number_from 9 at (drop at s) ≡ read_ok n e → 0 < n → before + n < TOP
    → IsStep s at before (before + n) e
step_at s at before n e bytes l h p t =
    let r = number_read at (drop at s) n e (bytes_behind s at bytes) h in
    let lt : at < e = omega (arith, r.after, (number_size n).0) in
    let d = behind s at e lt in
    record {
      fault = fault_more at before (drop at s) n e h lt p t ∙ ap (λ x. fault_from e 0 (before + n) x) d;
      list = list_one at before (drop at s) n e h lt ∙ ap (λ x. (before + n) ∷ list_from e 0 (before + n) x) d;
      low = t;
      above = omega (arith, p);
      after = lt;
      within = omega (arith, r.within, length-drop at s);
    }

pub shows_zero : (s : List ℕ) (at before n e : ℕ) → AreBytes s → at < length s → number_from 9 at (drop at s) ≡ read_ok n e → n ≡ 0 → fault_from at 0 before (drop at s) ≡ Some (fault_at at Zero)
shows_zero s at before n e bytes l h z =
    let r = number_read at (drop at s) n e (bytes_behind s at bytes) h in
    fault_zero at before (drop at s) n e h (omega (arith, r.after, (number_size n).0)) z

pub shows_top : (s : List ℕ) (at before n e : ℕ) → AreBytes s → at < length s → number_from 9 at (drop at s) ≡ read_ok n e → 0 < n → TOP ≤ before + n → fault_from at 0 before (drop at s) ≡ Some (fault_at at Top)
shows_top s at before n e bytes l h p t =
    let r = number_read at (drop at s) n e (bytes_behind s at bytes) h in
    fault_top at before (drop at s) n e h (omega (arith, r.after, (number_size n).0)) p t

pub shows_code : (s : List ℕ) (at before : ℕ) (f : CodeFault) → at < length s → number_from 9 at (drop at s) ≡ Err f → fault_from at 0 before (drop at s) ≡ Some (fault_at at (cause_of f))
shows_code s at before f l h = fault_code at before (drop at s) f (omega (arith, length-drop at s)) h

-- what a number of bytes that spell a list is: not 0, and no way to TOP
pub record IsSoundGap (before n : ℕ) : Type 0 where
  pub positive : 0 < n
  pub low : before + n < TOP

pub sound_at : (s : List ℕ) (at before n e : ℕ) → AreBytes s → at < length s → number_from 9 at (drop at s) ≡ read_ok n e → fault_from at 0 before (drop at s) ≡ None
    → IsSoundGap before n
sound_at s at before n e bytes l h none =
    let r = next_number at before (drop at s) n e (bytes_behind s at bytes) h none in
    record { positive = r.positive; low = r.low }

-- bytes with a fault spell no list
pub no_list : (bs xs : List ℕ) (f : StreamFault) → first_fault bs ≡ Some f → Spells bs xs → ⊥
no_list bs xs f h s = let w : Some f ≡ None = sym h ∙ (spelling_reads bs xs s).0 in cc

stream_front : (before k : ℕ) (xs : List ℕ) → length (stream_bytes before (take k xs)) ≤ length (stream_bytes before xs)
unfolding stream_bytes
stream_front before zero xs = omega arith
stream_front before (suc k) [] = omega arith
stream_front before (suc k) (x ∷ xs) =
    let a = number_bytes (x - before) in
    omega (arith, length-append a (stream_bytes x xs), length-append a (stream_bytes x (take k xs)), stream_front x k xs)

before_low : (before k : ℕ) (xs : List ℕ) → RisesAbove before xs → k ≤ length xs → before < TOP → get_or (before ∷ xs) k 0 < TOP
before_low before zero xs r l h = h
before_low before (suc k) [] r l h = absurd (omega arith)
before_low before (suc k) (x ∷ xs) (a, b, r) l h = before_low x k xs r (omega arith) b

pub list_ends : (out l whole : List ℕ) → l ≡ [] → out ++ l ≡ whole → out ≡ whole
list_ends out l whole e h = sym (append-nil out) ∙ ap (λ x. out ++ x) (sym e) ∙ h

-- what is read behind the first i locations
pub record IsRestAt (bs xs : List ℕ) (i place last : ℕ) : Type 0 where
  pub within : place ≤ length bs
  pub low : last < TOP
  pub none : fault_from place 0 last (drop place bs) ≡ None
  pub list : list_from place 0 last (drop place bs) ≡ drop i xs

pub rest_at : (bs xs : List ℕ) (i place last : ℕ) → Spells bs xs → IsBehind xs i place last → IsRestAt bs xs i place last
rest_at bs xs i place last s b =
    let r = above_from_rising xs s.rising in
    let d : drop place bs ≡ stream_bytes last (drop i xs) =
    ap (λ n. drop n bs) b.place_is ∙ ap (λ x. drop (length (stream_bytes 0 (take i xs))) x) s.spelled ∙ behind_some 0 i xs b.within ∙ ap (λ y. stream_bytes y (drop i xs)) (sym b.last_is) in
    let c = complete place last (drop i xs) (subst (λ y. RisesAbove y (drop i xs)) (sym b.last_is) (above_behind 0 i xs r b.within)) in
    record {
      within = omega (arith, b.place_is, ap length s.spelled, stream_front 0 i xs);
      low = omega (arith, b.last_is, before_low 0 i xs r b.within (omega arith));
      none = ap (λ x. fault_from place 0 last x) d ∙ c.none;
      list = ap (λ x. list_from place 0 last x) d ∙ c.list;
    }

pub read_none : (s : List ℕ) (at before : ℕ) → before < TOP → at ≤ length s → IsReadTo s at before before 0 at
read_none s at before low within = record {
  fault = refl;
  list = refl;
  counted = omega arith;
  last_is = refl;
  low = low;
  long = omega arith;
  within = within;
}

pub read_more : (s : List ℕ) (at before last count next y e : ℕ) → IsReadTo s at before last count next → IsStep s next last y e → IsReadTo s at before y (count + 1) e
read_more s at before last count next y e r x =
    let whole = list_from at 0 before (drop at s) in
    let rest = list_from e 0 y (drop e s) in
    let here : drop count whole ≡ y ∷ rest = sym r.list ∙ x.list in
    let k : suc (count + 0) ≡ count + 1 = omega arith in
    record {
      fault = r.fault ∙ x.fault;
      list = sym (ap (λ l. drop 1 l) here) ∙ drop-drop 1 count whole;
      counted = omega (arith, ap length here, length-drop count whole);
      last_is = sym (ap (λ l. get_or l 0 0) here) ∙ get_or-drop count whole 0 0 ∙ ap (λ i. get_or (before ∷ whole) i 0) k;
      low = x.low;
      long = omega (arith, r.long, x.after);
      within = x.within;
    }

pub read_one : (s : List ℕ) (at before y e : ℕ) → IsStep s at before y e → IsReadTo s at before y 1 e
read_one s at before y e x = read_more s at before before 0 at y e (read_none s at before (omega (arith, x.above, x.low)) (omega (arith, x.after, x.within))) x

-- where a location stands, one is read up to the end
pub read_some : (s : List ℕ) (at before last count next y e : ℕ) → IsReadTo s at before last count next → IsStep s at before y e → (count < 64 → next ≡ length s) → 0 < count
read_some s at before last count next y e r x ended =
    let whole = list_from at 0 before (drop at s) in
    ⊎_elim
    (λ z. let none = list_end s next last (omega (arith, ended (omega arith))) in
    absurd (omega (arith, ap length none, ap length r.list, length-drop count whole, ap length x.list)))
    (λ p. p)
    (cases_lt count 1)

pub read_done : (s : List ℕ) (at before first last count next : ℕ) → IsReadTo s at before last count next → 0 < count → count ≤ 64 → (count < 64 → next ≡ length s)
    → first ≡ get_or (list_from at 0 before (drop at s)) 0 0 → IsBlockRead s at before first last count next
read_done s at before first last count next r some few ended first_is =
    let k : count ≡ suc (count - 1) = omega arith in
    record {
      fault = r.fault;
      list = r.list;
      counted = r.counted;
      some = some;
      few = few;
      ended = ended;
      first_is = first_is;
      last_is = r.last_is ∙ ap (λ i. get_or (before ∷ list_from at 0 before (drop at s)) i 0) k;
      low = r.low;
      long = r.long;
      within = r.within;
    }

-- a number of two bytes
pub number_two : (s : List ℕ) (at low high : ℕ) → at + 1 < length s → low ≡ get_or s at 0 - 128 → high ≡ get_or s (at + 1) 0 → 128 ≤ get_or s at 0 → 0 < get_or s (at + 1) 0 → get_or s (at + 1) 0 < 128
    → read_ok (low + 128 * high) (at + 2) ≡ number_from 9 at (drop at s)
number_two s at low high l lo hi more some last =
    let e : at + 2 ≡ at + 1 + 1 = omega arith in
    ap (λ i. read_ok (low + 128 * high) i) e
    ∙ ap (λ (x : ℕ). read_ok (x + 128 * high) (at + 1 + 1)) lo
    ∙ ap (λ (x : ℕ). read_ok (get_or s at 0 - 128 + 128 * x) (at + 1 + 1)) hi
    ∙ ap (with_low (get_or s at 0 - 128)) (number_last s (at + 1) 8 l (omega arith) last (inl some))
    ∙ sym (number_more s at 9 (omega arith) (omega arith) more)

-- where the rest of a list is read, the bytes before it spell what is before
pub place_is : (s xs : List ℕ) (k at before : ℕ) → AreBytes s → Spells s xs → at ≤ length s → k ≤ length xs → before ≡ get_or (0 ∷ xs) k 0
    → fault_from at 0 before (drop at s) ≡ None → list_from at 0 before (drop at s) ≡ drop k xs → at ≡ length (stream_bytes 0 (take k xs))
place_is s xs k at before bytes h within le b f l =
    let rest = drop at s in
    let r = sound (length rest) at before rest (omega arith) (bytes_behind s at bytes) f in
    let here : rest ≡ stream_bytes before (drop k xs) = r.spelled ∙ ap (λ t. stream_bytes before t) l in
    let there : drop (length (stream_bytes 0 (take k xs))) s ≡ stream_bytes before (drop k xs) =
    ap (λ t. drop (length (stream_bytes 0 (take k xs))) t) h.spelled ∙ behind_some 0 k xs le ∙ ap (λ y. stream_bytes y (drop k xs)) (sym b) in
    omega (
      arith,
      ap length here,
      ap length there,
      length-drop at s,
      length-drop (length (stream_bytes 0 (take k xs))) s,
      ap length h.spelled,
      stream_front 0 k xs,
    )

-- bytes that spell a list are bytes
stream_are_bytes : (before : ℕ) (xs : List ℕ) (i : ℕ) → get_or (stream_bytes before xs) i 0 < 256
unfolding stream_bytes
stream_are_bytes before [] = AreBytes-nil
stream_are_bytes before (x ∷ xs) = AreBytes-append (number_bytes (x - before)) (stream_bytes x xs) (number_bytes-AreBytes (x - before)) (stream_are_bytes x xs)

pub spelled_are_bytes : (bs xs : List ℕ) → Spells bs xs → AreBytes bs
spelled_are_bytes bs xs s i l = subst (λ (b : List ℕ). get_or b i 0 < 256) (sym s.spelled) (stream_are_bytes 0 xs i)

-- the location that is read behind the first i
pub next_is : (s xs : List ℕ) (i at last y e : ℕ) → Spells s xs → IsBehind xs i at last → IsStep s at last y e → IsNextOf xs i last y e
next_is s xs i at last y e h b x =
    let r = rest_at s xs i at last h b in
    let here : drop i xs ≡ y ∷ list_from e 0 y (drop e s) = sym r.list ∙ x.list in
    let l : i < length xs = omega (arith, ap length here, length-drop i xs) in
    let k : i + 0 ≡ i = omega arith in
    let is : y ≡ get_or xs i 0 = sym (ap (λ l. get_or l 0 0) here) ∙ get_or-drop i xs 0 0 ∙ ap (λ j. get_or xs j 0) k in
    let more : suc i ≡ i + 1 = omega arith in
    let last_is : y ≡ get_or (0 ∷ xs) (i + 1) 0 = is ∙ ap (λ j. get_or (0 ∷ xs) j 0) more in
    let rest : list_from e 0 y (drop e s) ≡ drop (i + 1) xs = sym (ap (λ l. drop 1 l) here) ∙ drop-drop 1 i xs in
    record {
      within = l;
      is = is;
      above = x.above;
      behind = record {
        within = omega arith;
        place_is = place_is s xs (i + 1) e y (spelled_are_bytes s xs h) h x.within (omega arith) last_is (sym x.fault ∙ r.none) rest;
        last_is = last_is;
      };
    }

-- where the bytes end, no location is left
pub none_is : (s xs : List ℕ) (i at last : ℕ) → Spells s xs → IsBehind xs i at last → at ≡ length s → i ≡ length xs
none_is s xs i at last h b e =
    let r = rest_at s xs i at last h b in
    omega (arith, b.within, ap length (sym r.list ∙ list_end s at last (omega arith)), length-drop i xs)

pub next_some : (s xs : List ℕ) (at last : ℕ) (o : Option (ℕ × ℕ)) → Spells s xs → IfSome o (λ r. IsStep s at last r.0 r.1)
    → IfSome o (λ r. (i : ℕ) → IsBehind xs i at last → IsNextOf xs i last r.0 r.1)
next_some s xs at last None h x = tt
next_some s xs at last (Some r) h x = λ i b. next_is s xs i at last r.0 r.1 h b x
