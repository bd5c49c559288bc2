-- The first fault of a list: where it lies, that there is one alone, and none where there is a list.
use Rattle.std.proofs.Common.{◌≡◌, ⊎_elim, inl, inr, ℕ, zero, suc, ◌+◌, ◌-◌, ◌*◌, ◌^◌, ◌<◌, ◌≤◌, Bool, true, false, cond, List, [], ◌∷◌, length, refl, sym, subst, ap, ◌∙◌, arith}
use Rattle.std.specs.Prelude.{nat_lt, nat_eq, Result, Ok, Err, Option, Some}
use Rattle.std.proofs.lemmas.Bool.{cases_lt}
use Rattle.alta_codec.specs.declared.location.TheConstants.{TOP}
use Rattle.alta_codec.specs.declared.number.CodeFault.{CodeFault}
use Rattle.alta_codec.specs.Numbers.{number_from}
use Rattle.alta_postings.specs.declared.fault.StreamCause.{StreamCause}
use Rattle.alta_postings.specs.declared.fault.StreamCause.TheVariants.{Zero, Top}
use Rattle.alta_postings.specs.declared.fault.StreamFault.{StreamFault}
use Rattle.alta_postings.specs.Deltas.{cause_of, fault_at, number_fault, fault_from, first_fault, decoded_list}
use Rattle.alta_postings.proofs.Reading.{spelling_reads, no_list}
use Rattle.alta_postings.specs.Table.{IsSummary, IsFault, IsFirstBroken}
use Rattle.alta_content.specs.declared.document.DocRow.{DocRow}
use Rattle.alta_words.specs.declared.checking.PostingFault.{PostingFault}
use Rattle.alta_words.specs.declared.checking.PostingFault.TheVariants as wrong
use Rattle.alta_words.specs.Fault.{IsPostingFault, IsFirstDifferent}
use Rattle.alta_words.specs.Word.{IsPosting}
use Rattle.alta_words.proofs.Walk.{fault_refuses, rows_one}
use Rattle.alta_level.specs.Coded.{IsCoded}
use Rattle.alta_level.specs.Stored.{Stored, Fits, IsListOf, IsListFault}
use Rattle.alta_level.specs.Stored.IsListFault.{in_stream, in_summary, in_row, in_list}
use Rattle.alta_level.proofs.Coded.{coded_posting, coded_once}

-- ---- where a fault lies

either : (P : Type 0) (b : Bool) (x y : Option StreamFault) (f : StreamFault) → (x ≡ Some f → P) → (y ≡ Some f → P) → cond b x y ≡ Some f → P
either P true x y f h k e = h e
either P false x y f h k e = k e

number_within : (at before n : ℕ) (r : Result (ℕ × ℕ) CodeFault) (next : ℕ → ℕ → Option StreamFault) (f : StreamFault) → at < n
    → ((e y : ℕ) (g : StreamFault) → next e y ≡ Some g → g.place < n) → number_fault at before r next ≡ Some f → f.place < n
number_within at before n (Err c) next f l h e =
    let s : fault_at at (cause_of c) ≡ f = cc in omega (arith, ap (λ x. x.place) s)
number_within at before n (Ok r) next f l h e =
    let here : (why : StreamCause) → Some (fault_at at why) ≡ Some f → f.place < n =
    λ why w. (let s : fault_at at why ≡ f = cc in omega (arith, ap (λ x. x.place) s)) in
    either (f.place < n) (nat_eq r.0 0) _ _ f (here Zero) (either (f.place < n) (nat_lt (before + r.0) TOP) _ _ f (h r.1 (before + r.0) f) (here Top)) e

fault_within : (at skip before : ℕ) (bs : List ℕ) (f : StreamFault) → fault_from at skip before bs ≡ Some f → f.place < at + length bs
unfolding fault_from
fault_within at skip before [] f e = absurd (cc)
fault_within at (suc skip) before (b ∷ bs) f e = omega (arith, fault_within (at + 1) skip before bs f e)
fault_within at zero before (b ∷ bs) f e =
    number_within at before (at + length (b ∷ bs)) (number_from 9 at (b ∷ bs)) (λ i y. fault_from (at + 1) (i - (at + 1)) y bs) f (omega arith)
    (λ i y g w. omega (arith, fault_within (at + 1) (i - (at + 1)) y bs g w)) e

pub stream_within : (bytes : List ℕ) (at : ℕ) (why : StreamCause) → first_fault bytes ≡ Some (fault_at at why) → at < length bytes
unfolding first_fault
stream_within bytes at why e = omega (arith, fault_within 0 0 0 bytes (fault_at at why) e)

pub summary_within : (bytes : List ℕ) (at : ℕ) → IsFault bytes at → at ≤ length bytes
summary_within bytes at (inl x) = omega (arith, x.here)
summary_within bytes at (inr (b, (k, x))) = omega (arith, x.here, x.rows.sized, x.within)

pub row_within : (stream summary : List ℕ) (b row : ℕ) → IsFirstDifferent stream summary b row → 24 * row ≤ length summary
row_within stream summary b row d =
    ⊎_elim
    (λ past.
    let a = d.before b past in
    let short : length (decoded_list stream) ≤ 64 * b = ⊎_elim (λ l. absurd (omega (arith, a.row l))) (λ g. g) (cases_lt (64 * b) (length (decoded_list stream))) in
    absurd (d.differs (record { block = λ l. absurd (omega arith); row = λ l. absurd (omega arith); same = λ l. absurd (omega arith) })))
    (λ g. omega (arith, d.table.rows.sized))
    (cases_lt b row)

-- ---- one fault

summary_fault_once : (bytes : List ℕ) (p q : ℕ) → IsFault bytes p → IsFault bytes q → p ≡ q
summary_fault_once bytes p q (inl x) (inl y) = x.here ∙ sym y.here
summary_fault_once bytes p q (inl x) (inr (c, (j, y))) = absurd (x.none c y.rows)
summary_fault_once bytes p q (inr (b, (k, x))) (inl y) = absurd (y.none b x.rows)
summary_fault_once bytes p q (inr (b, (k, x))) (inr (c, (j, y))) =
    let z : IsFirstBroken bytes b j q = subst (λ n. IsFirstBroken bytes n j q) (rows_one bytes c b y.rows x.rows) y in
    ⊎_elim (λ l. absurd (x.broken (z.before k l)))
    (λ g. ⊎_elim (λ l. absurd (z.broken (x.before j l))) (λ h. omega (arith, x.here, y.here)) (cases_lt j k))
    (cases_lt k j)

row_once : (stream summary : List ℕ) (b c i j : ℕ) → IsFirstDifferent stream summary b i → IsFirstDifferent stream summary c j → i ≡ j
row_once stream summary b c i j x y =
    let z : IsFirstDifferent stream summary b j = subst (λ n. IsFirstDifferent stream summary n j) (rows_one summary c b y.table.rows x.table.rows) y in
    ⊎_elim (λ l. absurd (x.differs (z.before i l)))
    (λ g. ⊎_elim (λ l. absurd (z.differs (x.before j l))) (λ h. omega arith) (cases_lt j i))
    (cases_lt i j)

no_table : (summary : List ℕ) (place b : ℕ) → IsFault summary place → IsSummary summary b → ⊥
no_table summary place b (inl x) s = x.none b s.rows
no_table summary place b (inr (c, (k, x))) s =
    let t = subst (λ n. IsSummary summary n) (rows_one summary b c s.rows x.rows) s in x.broken (t.keeps k x.within)

stream_once : (bytes : List ℕ) (at to : ℕ) (why because : StreamCause) → first_fault bytes ≡ Some (fault_at at why) → first_fault bytes ≡ Some (fault_at to because) → at ≡ to
stream_once bytes at to why because h k = let s : fault_at at why ≡ fault_at to because = cc in ap (λ x. x.place) s

pub list_fault_once : (documents : List DocRow) (s : Stored) (p q : ℕ) → IsListFault documents s p → IsListFault documents s q → p ≡ q
list_fault_once documents s p q (in_stream at why h) (in_stream to because k) = ap (λ i. s.stream_place + i) (stream_once s.stream at to why because h k)
list_fault_once documents s p q (in_stream at why h) (in_summary to l k) = absurd (no_list s.stream _ _ h l)
list_fault_once documents s p q (in_stream at why h) (in_row b row d) = absurd (no_list s.stream _ _ h d.spelled)
list_fault_once documents s p q (in_stream at why h) (in_list b d n) = absurd (no_list s.stream _ _ h d.spelled)
list_fault_once documents s p q (in_summary at l h) (in_stream to because k) = absurd (no_list s.stream _ _ k l)
list_fault_once documents s p q (in_summary at l h) (in_summary to m k) = ap (λ i. s.summary_place + i) (summary_fault_once s.summary at to h k)
list_fault_once documents s p q (in_summary at l h) (in_row b row d) = absurd (no_table s.summary at b h d.table)
list_fault_once documents s p q (in_summary at l h) (in_list b d n) = absurd (no_table s.summary at b h d.table)
list_fault_once documents s p q (in_row c row d) (in_stream at why h) = absurd (no_list s.stream _ _ h d.spelled)
list_fault_once documents s p q (in_row c row d) (in_summary at l h) = absurd (no_table s.summary at c h d.table)
list_fault_once documents s p q (in_row c row d) (in_row b other e) = ap (λ i. s.summary_place + 24 * i) (row_once s.stream s.summary c b row other d e)
list_fault_once documents s p q (in_row c row d) (in_list b e n) = absurd (fault_refuses s.stream s.summary (wrong.Differ row) b (c, d) e)
list_fault_once documents s p q (in_list b d n) (in_stream at why h) = absurd (no_list s.stream _ _ h d.spelled)
list_fault_once documents s p q (in_list b d n) (in_summary at l h) = absurd (no_table s.summary at b h d.table)
list_fault_once documents s p q (in_list b d n) (in_row c row e) = absurd (fault_refuses s.stream s.summary (wrong.Differ row) b (c, e) d)
list_fault_once documents s p q (in_list b d n) (in_list c e m) = refl

-- ---- a list or a fault

pub list_once : (documents : List DocRow) (s : Stored) (xs ys : List ℕ) → IsListOf documents s xs → IsListOf documents s ys → xs ≡ ys
list_once documents s xs ys h k = coded_once s.stream s.summary xs ys h.coded k.coded

list_refuses : (documents : List DocRow) (s : Stored) (xs : List ℕ) (b p : ℕ) → IsListOf documents s xs → IsPosting s.stream s.summary b → IsListFault documents s p → ⊥
list_refuses documents s xs b p h g (in_stream at why e) = no_list s.stream _ _ e g.spelled
list_refuses documents s xs b p h g (in_summary at l e) = no_table s.summary at b e g.table
list_refuses documents s xs b p h g (in_row c row d) = fault_refuses s.stream s.summary (wrong.Differ row) b (c, d) g
list_refuses documents s xs b p h g (in_list c d n) =
    n (subst (λ (l : List ℕ). Fits documents s.term s.count l) (sym (spelling_reads s.stream xs (record { rising = h.coded.rising; spelled = h.coded.stream_is })).1) h.fits)

pub list_or_fault : (documents : List DocRow) (s : Stored) (xs : List ℕ) (p : ℕ) → length s.stream < 2 ^ 64 → IsListOf documents s xs → IsListFault documents s p → ⊥
list_or_fault documents s xs p small h f = let (b, g) = coded_posting s.stream s.summary xs h.coded small in list_refuses documents s xs b p h g f

-- ---- what one list is found to be

module _ (documents : List DocRow) (s : Stored) (fault : PostingFault) (h : IsPostingFault s.stream s.summary fault) where
  pub at_stream : (at : ℕ) → fault ≡ wrong.Stream at → IsListFault documents s (s.stream_place + at)
  at_stream at e = let (why, k) = subst (λ f. IsPostingFault s.stream s.summary f) e h in in_stream at why k

  pub at_summary : (at : ℕ) → fault ≡ wrong.Summary at → IsListFault documents s (s.summary_place + at)
  at_summary at e = let (l, k) = subst (λ f. IsPostingFault s.stream s.summary f) e h in in_summary at l k

  pub at_row : (row : ℕ) → fault ≡ wrong.Differ row → IsListFault documents s (s.summary_place + 24 * row)
  at_row row e = let (b, k) = subst (λ f. IsPostingFault s.stream s.summary f) e h in in_row b row k

  pub stream_place_within : (at : ℕ) → fault ≡ wrong.Stream at → at < length s.stream
  stream_place_within at e = let (why, k) = subst (λ f. IsPostingFault s.stream s.summary f) e h in stream_within s.stream at why k

  pub summary_place_within : (at : ℕ) → fault ≡ wrong.Summary at → at ≤ length s.summary
  summary_place_within at e = let (l, k) = subst (λ f. IsPostingFault s.stream s.summary f) e h in summary_within s.summary at k

  pub row_place_within : (row : ℕ) → fault ≡ wrong.Differ row → 24 * row ≤ length s.summary
  row_place_within row e = let (b, k) = subst (λ f. IsPostingFault s.stream s.summary f) e h in row_within s.stream s.summary b row k

pub list_found : (documents : List DocRow) (s : Stored) (list : List ℕ) → IsCoded s.stream s.summary (decoded_list s.stream) → list ≡ decoded_list s.stream
    → Fits documents s.term s.count list → IsListOf documents s list
list_found documents s list k e f = record { coded = subst (λ (l : List ℕ). IsCoded s.stream s.summary l) (sym e) k; fits = f }

pub list_misfits : (documents : List DocRow) (s : Stored) (list : List ℕ) → ((b : ℕ) × IsPosting s.stream s.summary b) → list ≡ decoded_list s.stream
    → (Fits documents s.term s.count list → ⊥) → IsListFault documents s s.stream_place
list_misfits documents s list (b, p) e n = in_list b p (subst (λ (l : List ℕ). Fits documents s.term s.count l → ⊥) e n)
