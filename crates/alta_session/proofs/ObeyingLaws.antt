-- Laws of calls of the store that do a task.
use Rattle.std.proofs.Common.{◌≡◌, ◌⊎◌, ℕ, inl, inr, List, ap, sym, subst, ◌∙◌, Ok, Err}
use Rattle.std.specs.Prelude.{Option, Some}
use Rattle.alta_meaning.specs.Holding.{Holding}
use Rattle.alta_meaning.specs.Work.{Task}
use Rattle.alta_meaning.specs.Working.{worked}
use Rattle.alta_session.specs.Tasks.{IsWorked, worked_where}
use Rattle.alta_store.specs.Answers.{IsOutside}
use Rattle.alta_store.specs.Calls.{IsCause, IsNarrow, NoRefusal, RefusesPut}
use Rattle.alta_store.specs.declared.fault.StoreFault.{StoreFault}
use Rattle.alta_store.specs.declared.fault.StoreFault.TheVariants.{Damaged, Numbers, Full}

-- what is held behind a call that did its task, and the place that one wants that found none
pub obeyed_works : (limit : ℕ) (held : Holding) (task : Task) (asked : Option Task) (Here : Holding → Type 0) → asked ≡ Some task → (now : Holding) × (worked limit held task ≡ Ok now) × Here now → IsWorked (worked_where limit held asked) Here
obeyed_works limit held task asked Here is done = record { now = done.0; is = ap (λ (t : Option Task). worked_where limit held t) is ∙ done.1; held = done.2 }

pub obeyed_full : (limit : ℕ) (held : Holding) (task : Task) (asked : Option Task) (need gap : ℕ) → asked ≡ Some task → worked limit held task ≡ Err (record { need = need; gap = gap }) → worked_where limit held asked ≡ Err (record { need = need; gap = gap })
obeyed_full limit held task asked need gap is wanting = ap (λ (t : Option Task). worked_where limit held t) is ∙ wanting

-- below a limit that stays
pub narrow_at : (limit later : ℕ) (image : List ℕ) (need gap : ℕ) → later ≡ limit → IsNarrow limit image need gap → IsNarrow later image need gap
narrow_at limit later image need gap same narrow = subst (λ (n : ℕ). IsNarrow n image need gap) (sym same) narrow

-- the faults of a call that does not refuse
pub some_only : (e : StoreFault) → IsCause NoRefusal e → IsOutside e ⊎ (((need gap : ℕ) × (e ≡ Full need gap)) ⊎ ((place : ℕ) × (e ≡ Damaged place)))
some_only e (inl outside) = inl outside
some_only e (inr (inl none)) = absurd none
some_only e (inr (inr (inl full))) = inr (inl full)
some_only e (inr (inr (inr damaged))) = inr (inr damaged)

-- those of a document that is put
pub put_only : (e : StoreFault) → IsCause RefusesPut e → (e ≡ Numbers → ⊥) → IsOutside e ⊎ (((need gap : ℕ) × (e ≡ Full need gap)) ⊎ ((place : ℕ) × (e ≡ Damaged place)))
put_only e (inl outside) numbers = inl outside
put_only e (inr (inl is)) numbers = absurd (numbers is)
put_only e (inr (inr (inl full))) numbers = inr (inl full)
put_only e (inr (inr (inr damaged))) numbers = inr (inr damaged)
