-- The blocks of a list beside the rows of a summary.
use Rattle.std.proofs.Common.{◌≡◌, ⊎_elim, inr, ℕ, ◌-◌, ◌*◌, ◌<◌, ◌≤◌, List, length, sym, subst, arith}
use Rattle.std.proofs.lemmas.Bool.{cases_lt}
use Rattle.alta_postings.specs.Deltas.{Spells, HasPlaces, decoded_list}
use Rattle.alta_postings.proofs.Reading.{spelling_reads}
use Rattle.alta_postings.specs.Table.{IsSummary}
use Rattle.alta_words.specs.Fault.{Agrees, IsFirstDifferent}
use Rattle.alta_words.specs.Word.{IsPosting}
use Rattle.alta_level.specs.Decoded.{AreRowsOf, IsFirstOther}

-- neither a row nor a block
agrees_behind : (list places summary : List ℕ) (b i : ℕ) → HasPlaces list (length list) places → b ≤ i → length places ≤ i → Agrees list summary b i
agrees_behind list places summary b i h rows blocks = record { block = λ l. absurd (omega arith); row = λ l. absurd (omega (arith, h.counted)); same = λ l. absurd (omega arith) }

pub rows_are : (list places summary : List ℕ) (b n : ℕ) → HasPlaces list (length list) places → b ≤ n → length places ≤ n → ((j : ℕ) → j < n → Agrees list summary b j) → AreRowsOf list summary b
rows_are list places summary b n h rows blocks same =
    inr (λ i. ⊎_elim (λ l. same i l) (λ g. agrees_behind list places summary b i h (omega arith) (omega arith)) (cases_lt i n))

pub spells_itself : (stream list : List ℕ) → Spells stream list → Spells stream (decoded_list stream)
spells_itself stream list s = subst (λ (l : List ℕ). Spells stream l) (sym (spelling_reads stream list s).1) s

-- what the rows of the list say of its stream
module _ (stream list summary : List ℕ) (b : ℕ) (s : Spells stream list) (table : IsSummary summary b) where
  posting_here : AreRowsOf list summary b → decoded_list stream ≡ list → Spells stream (decoded_list stream) → IsPosting stream summary b
  posting_here rows e whole =
      let same : AreRowsOf (decoded_list stream) summary b = subst (λ (l : List ℕ). AreRowsOf l summary b) (sym e) rows in
      let n = length (decoded_list stream) in
      ⊎_elim
      (λ none. record {
        spelled = whole;
        table = table;
        short = λ _. none.0;
        long = λ l. absurd (omega (arith, none.1));
        rows = λ i l. absurd (omega (arith, none.0));
      })
      (λ each. record {
        spelled = whole;
        table = table;
        short = λ few. ⊎_elim (λ l. omega arith)
            (λ g. absurd (table.rows.many (⊎_elim (λ l. absurd (omega (arith, (each 1).block l))) (λ k. omega arith) (cases_lt 1 b)))) (cases_lt b 1);
        long = λ l.
            let up : n ≤ 64 * b = ⊎_elim (λ k. absurd (omega (arith, (each b).row k))) (λ k. k) (cases_lt (64 * b) n) in
            ⊎_elim (λ z. absurd (omega (arith, up))) (λ g. omega (arith, up, (each (b - 1)).block (omega arith))) (cases_lt b 1);
        rows = λ i l. (each i).same l;
      })
      same

  pub posting_of : AreRowsOf list summary b → (c : ℕ) × IsPosting stream summary c
  posting_of rows =
      (b, posting_here rows (spelling_reads stream list s).1 (spells_itself stream list s))

  pub different_of : (i : ℕ) → IsFirstOther list summary b i → (c : ℕ) × IsFirstDifferent stream summary c i
  different_of i other =
      let e = (spelling_reads stream list s).1 in
      let o : IsFirstOther (decoded_list stream) summary b i = subst (λ (l : List ℕ). IsFirstOther l summary b i) (sym e) other in
      (b, record { spelled = spells_itself stream list s; table = table; many = o.many; before = o.before; differs = o.differs })
