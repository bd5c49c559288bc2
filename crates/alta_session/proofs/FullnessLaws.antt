-- Laws of the first line whose work finds no place.
use Rattle.std.proofs.Common.{◌≡◌, ℕ, ◌+◌, ◌-◌, ◌<◌, ◌≤◌, ◌⊎◌, inl, inr, List, [], ◌∷◌, ◌++◌, length, take, drop, map, refl, ap, sym, ◌∙◌, arith, length-append, Result, Ok, Err}
use Rattle.std.proofs.lemmas.Bool.{cases_lt}
use Rattle.std.proofs.lemmas.List.{take-append-le, take-append-drop}
use Rattle.std.proofs.Math.Seq.{take-add, take-append-add}
use Rattle.std.specs.List.{concat}
use Rattle.alta_console.proofs.ReplyLaws.{joined_append}
use Rattle.alta_meaning.specs.Holding.{Holding}
use Rattle.alta_meaning.specs.Working.{Full as Place}
use Rattle.alta_session.specs.Fullness.{Overflows, IsFullOnly, IsInterrupted, IsFullExactly}
use Rattle.alta_session.specs.Keeping.{clip}
use Rattle.alta_machine.specs.Machine.{Machine, machine_after, replies}
use Rattle.alta_session.specs.Status.{StopsLine}
use Rattle.alta_session.specs.Tasks.{worked_lines}
use Rattle.alta_session.specs.declared.status.Status.{Status}
use Rattle.alta_session.specs.declared.status.Status.TheVariants.{Full}
use Rattle.alta_session.proofs.MachineLaws.{replies_append, length_replies, replies_same, length_same}
use Rattle.alta_session.proofs.TaskLaws.{worked_on, wanting_on, worked_take}

abbrev place : ℕ → ℕ → Place
place need gap = record { need = need; gap = gap }

-- behind lines that were answered
work_on : (limit later : ℕ) (m : Machine) (held now : Holding) (xs ys : List (List ℕ)) (k : ℕ) → later ≡ limit → worked_lines limit m held xs ≡ Ok now
    → worked_lines limit m held (take (length xs + k) (xs ++ ys)) ≡ worked_lines later (machine_after m xs) now (take k ys)
work_on limit later m held now xs ys k same done =
    ap (λ (l : List (List ℕ)). worked_lines limit m held l) (take-append-add xs ys k) ∙ worked_on limit m held now xs (take k ys) done ∙ sym (ap (λ (n : ℕ). worked_lines n (machine_after m xs) now (take k ys)) same)

work_on_next : (limit later : ℕ) (m : Machine) (held now : Holding) (xs ys : List (List ℕ)) (k : ℕ) → later ≡ limit → worked_lines limit m held xs ≡ Ok now
    → worked_lines limit m held (take (length xs + k + 1) (xs ++ ys)) ≡ worked_lines later (machine_after m xs) now (take (k + 1) ys)
work_on_next limit later m held now xs ys k same done =
    let sum : length xs + k + 1 ≡ length xs + (k + 1) = omega arith in
    ap (λ (n : ℕ). worked_lines limit m held (take n (xs ++ ys))) sum ∙ work_on limit later m held now xs ys (k + 1) same done

pub over_on : (limit later : ℕ) (m : Machine) (held now : Holding) (xs ys : List (List ℕ)) (k need gap : ℕ) → later ≡ limit → worked_lines limit m held xs ≡ Ok now → Overflows later now (machine_after m xs) ys k need gap
    → Overflows limit held m (xs ++ ys) (length xs + k) need gap
over_on limit later m held now xs ys k need gap same done over = record {
  within = omega (arith, over.within, length-append xs ys);
  now = over.now;
  done = work_on limit later m held now xs ys k same done ∙ over.done;
  wanting = work_on_next limit later m held now xs ys k same done ∙ over.wanting;
}

given_on : (m : Machine) (xs ys : List (List ℕ)) (k : ℕ) → concat (replies m xs) ++ concat (take k (replies (machine_after m xs) ys)) ≡ concat (take (length xs + k) (replies m (xs ++ ys)))
given_on m xs ys k =
    let first : List (List ℕ) = replies m xs in
    let later : List (List ℕ) = replies (machine_after m xs) ys in
    sym (joined_append first (take k later)) ∙ ap concat (sym (take-append-add first later k) ∙ ap (λ (n : ℕ). take (n + k) (first ++ later)) (length_replies m xs) ∙ ap (λ (l : List (List ℕ)). take (length xs + k) l) (sym (replies_append m xs ys)))

pub full_on : (limit later : ℕ) (m : Machine) (held now : Holding) (xs ys : List (List ℕ)) (given : List ℕ) (status : Status) → later ≡ limit → worked_lines limit m held xs ≡ Ok now → IsFullOnly later now (machine_after m xs) ys given status
    → IsFullOnly limit held m (xs ++ ys) (concat (replies m xs) ++ given) status
full_on limit later m held now xs ys given status same done only = λ need gap is.
    let found = only need gap is in
    (length xs + found.0, over_on limit later m held now xs ys found.0 need gap same done found.1, ap (λ (l : List ℕ). concat (replies m xs) ++ l) found.2 ∙ given_on m xs ys found.0)

-- with lines behind that were not reached
work_more : (limit : ℕ) (m : Machine) (held : Holding) (xs ys : List (List ℕ)) (k : ℕ) → k ≤ length xs → worked_lines limit m held (take k (xs ++ ys)) ≡ worked_lines limit m held (take k xs)
work_more limit m held xs ys k within = ap (λ (l : List (List ℕ)). worked_lines limit m held l) (take-append-le k xs ys within)

pub over_more : (limit : ℕ) (m : Machine) (held : Holding) (xs ys : List (List ℕ)) (k need gap : ℕ) → Overflows limit held m xs k need gap → Overflows limit held m (xs ++ ys) k need gap
over_more limit m held xs ys k need gap over = record {
  within = omega (arith, over.within, length-append xs ys);
  now = over.now;
  done = work_more limit m held xs ys k (omega (arith, over.within)) ∙ over.done;
  wanting = work_more limit m held xs ys (k + 1) (omega (arith, over.within)) ∙ over.wanting;
}

given_more : (m : Machine) (xs ys : List (List ℕ)) (k : ℕ) → k ≤ length xs → take k (replies m xs) ≡ take k (replies m (xs ++ ys))
given_more m xs ys k within =
    sym (take-append-le k (replies m xs) (replies (machine_after m xs) ys) (omega (arith, within, length_replies m xs))) ∙ ap (λ (l : List (List ℕ)). take k l) (sym (replies_append m xs ys))

pub full_more : (limit : ℕ) (m : Machine) (held : Holding) (xs ys : List (List ℕ)) (given : List ℕ) (status : Status) → IsFullOnly limit held m xs given status → IsFullOnly limit held m (xs ++ ys) given status
full_more limit m held xs ys given status only = λ need gap is.
    let found = only need gap is in
    (found.0, over_more limit m held xs ys found.0 need gap found.1, found.2 ∙ ap concat (given_more m xs ys found.0 (omega (arith, found.1.within))))

-- of lines that are the same up to a clip
over_clip : (limit : ℕ) (m : Machine) (held : Holding) (xs ys : List (List ℕ)) (k need gap : ℕ) → map clip xs ≡ map clip ys → Overflows limit held m xs k need gap → Overflows limit held m ys k need gap
over_clip limit m held xs ys k need gap same over = record {
  within = omega (arith, over.within, length_same xs ys same);
  now = over.now;
  done = sym (worked_take limit m held k xs ys same) ∙ over.done;
  wanting = sym (worked_take limit m held (k + 1) xs ys same) ∙ over.wanting;
}

pub full_clip : (limit : ℕ) (m : Machine) (held : Holding) (xs ys : List (List ℕ)) (given : List ℕ) (status : Status) → map clip xs ≡ map clip ys → IsFullOnly limit held m xs given status → IsFullOnly limit held m ys given status
full_clip limit m held xs ys given status same only = λ need gap is.
    let found = only need gap is in
    (found.0, over_clip limit m held xs ys found.0 need gap same found.1, found.2 ∙ ap (λ (l : List (List ℕ)). concat (take found.0 l)) (replies_same m xs ys same))

-- one line
pub over_first : (limit : ℕ) (m : Machine) (held : Holding) (line : List ℕ) (need gap : ℕ) → worked_lines limit m held (line ∷ []) ≡ Err (place need gap) → Overflows limit held m (line ∷ []) 0 need gap
over_first limit m held line need gap wanting = record { within = omega arith; now = held; done = refl; wanting = wanting }

-- a line overflows for one need and one gap, and not where all are done
never_both : {A E : Type 0} (r : Result A E) (x : A) (e : E) → r ≡ Ok x → r ≡ Err e → ⊥
never_both r x e ok err = cc

wants_later : (limit : ℕ) (m : Machine) (held : Holding) (lines : List (List ℕ)) (j k : ℕ) (full : Place) → j ≤ k → worked_lines limit m held (take j lines) ≡ Err full → worked_lines limit m held (take k lines) ≡ Err full
wants_later limit m held lines j k full within wanting =
    let sum : k ≡ j + (k - j) = omega arith in
    ap (λ (n : ℕ). worked_lines limit m held (take n lines)) sum ∙ ap (λ (l : List (List ℕ)). worked_lines limit m held l) (take-add j (k - j) lines)
    ∙ wanting_on limit m held full (take j lines) (take (k - j) (drop j lines)) wanting

over_later : (limit : ℕ) (m : Machine) (held : Holding) (lines : List (List ℕ)) (j k n p g h : ℕ) → Overflows limit held m lines j n g → Overflows limit held m lines k p h → j < k → ⊥
over_later limit m held lines j k n p g h one two less =
    never_both (worked_lines limit m held (take k lines)) two.now (place n g) two.done (wants_later limit m held lines (j + 1) k (place n g) (omega arith) one.wanting)

one_place : (r : Result Holding Place) (one two : Place) → r ≡ Err one → r ≡ Err two → one ≡ two
one_place r one two is other = cc

over_same : (limit : ℕ) (m : Machine) (held : Holding) (lines : List (List ℕ)) (j k n p g h : ℕ) → Overflows limit held m lines j n g → Overflows limit held m lines k p h → j ≡ k → place n g ≡ place p h
over_same limit m held lines j k n p g h one two same =
    one_place (worked_lines limit m held (take (k + 1) lines)) (place n g) (place p h) (sym (ap (λ (i : ℕ). worked_lines limit m held (take (i + 1) lines)) same) ∙ one.wanting) two.wanting

over_one : (limit : ℕ) (m : Machine) (held : Holding) (lines : List (List ℕ)) (j k n p g h : ℕ) → Overflows limit held m lines j n g → Overflows limit held m lines k p h → place n g ≡ place p h
over_one limit m held lines j k n p g h one two =
    elim (cases_lt j k) [
      | inl less ↦ absurd (over_later limit m held lines j k n p g h one two less)
      | inr from ↦ elim (cases_lt k j) [
        | inl less ↦ absurd (over_later limit m held lines k j p n h g two one less)
        | inr to ↦ over_same limit m held lines j k n p g h one two (omega arith)
      ]
    ]

over_none : (limit : ℕ) (m : Machine) (held now : Holding) (lines : List (List ℕ)) (k need gap : ℕ) → worked_lines limit m held lines ≡ Ok now → Overflows limit held m lines k need gap → ⊥
over_none limit m held now lines k need gap done over =
    never_both (worked_lines limit m held lines) now (place need gap) done
    (ap (λ (l : List (List ℕ)). worked_lines limit m held l) (sym (take-append-drop (k + 1) lines)) ∙ wanting_on limit m held (place need gap) (take (k + 1) lines) (drop (k + 1) lines) over.wanting)

-- exactly: where answering a line ended it, or all work was done
always : (limit : ℕ) (m : Machine) (held : Holding) (lines : List (List ℕ)) (given : List ℕ) (status : Status) → IsFullOnly limit held m lines given status → StopsLine status ⊎ ((now : Holding) × (worked_lines limit m held lines ≡ Ok now))
    → (k need gap : ℕ) → Overflows limit held m lines k need gap → (status ≡ Full need gap) ⊎ IsInterrupted status
always limit m held lines given status only (inl (inl memory)) k need gap over = inr (inl memory)
always limit m held lines given status only (inl (inr (inl disk))) k need gap over = inr (inr (inl disk))
always limit m held lines given status only (inl (inr (inr (inl give)))) k need gap over = inr (inr (inr give))
always limit m held lines given status only (inl (inr (inr (inr (n, g, is))))) k need gap over =
    let found = only n g is in
    let same : place n g ≡ place need gap = over_one limit m held lines found.0 k n need g gap found.1 over in
    inl (is ∙ ap (λ (p : Place). Full p.need p.gap) same)
always limit m held lines given status only (inr (now, done)) k need gap over = absurd (over_none limit m held now lines k need gap done over)

pub full_exactly : (limit : ℕ) (m : Machine) (held : Holding) (lines : List (List ℕ)) (given : List ℕ) (status : Status) → IsFullOnly limit held m lines given status → StopsLine status ⊎ ((now : Holding) × (worked_lines limit m held lines ≡ Ok now))
    → IsFullExactly limit held m lines given status
full_exactly limit m held lines given status only ends = record { only = only; always = always limit m held lines given status only ends }
