use Rattle.std.proofs.Common.{◌≡◌, ◌+◌, ◌<◌, ◌≤◌, ◌++◌, ⊎_elim, List, ℕ, length, refl, sym, subst, ◌∙◌, arith}
use Rattle.std.specs.Prelude.{Contains}
use Rattle.std.specs.List.{All}
use Rattle.std.proofs.lemmas.List.Elements.{All-nil}
use Rattle.alta_codec.specs.Rising.{IsPlace, IsRising, first_from}
use Rattle.alta_codec.specs.declared.location.TheConstants.{TOP}
use Rattle.alta_content.specs.Rows.{ends_of}
use Rattle.alta_content.specs.declared.document.DocRow.{DocRow}
use Rattle.alta_content.specs.All.{IsPast}
use Rattle.alta_search.specs.Answers.{answers_in}
use Rattle.alta_search.specs.Told.{rows_at}
use Rattle.alta_search.specs.Words.{term_list, term_place}
use Rattle.alta_search.proofs.Walking.{goes_up, past_more}
use Rattle.alta_dump.proofs.Lives.{taken_all, taken_next, taken_none}
use Rattle.alta_dump.proofs.live.live_ends.Goals as goal

pub ends-init : goal.ends-init
ends-init g c = record {
  sound = c.requires.sound;
  list = refl;
  inside = subst (All (λ i. i < length c.args.all.now)) (sym c.new-live.ensures.items) (All-nil (λ i. i < length c.args.all.now));
  rows = c.walk-rows.ensures.rows;
  past = λ k l. absurd (omega (arith, l, c.walk-rows.ensures.at));
  taken = taken_none (term_list c.args.ends.now) c.args.gone.now c.args.all.now c.new-live.result.items (term_place c.args.ends.now) c.new-live.ensures.items c.requires.unmoved;
  steps = omega arith;
}

pub loc-requires : goal.loc-requires
loc-requires g c = c.ends.invariant.sound

pub loc-requires-in-ends : goal.loc-requires-in-ends
loc-requires-in-ends g c = c.ends.invariant.sound

pub put_live-requires-clause-past : goal.put_live-requires-clause-past
put_live-requires-clause-past g c = subst (IsPast c.ends.rows) (sym c.loc-in-ends.ensures.location) c.ends.invariant.past

pub ends-preserved : goal.ends-preserved
ends-preserved g c =
    let inv = c.ends.invariant in let list = term_list c.args.ends.now in let gone = c.args.gone.now in let all = c.args.all.now in
    let at = term_place c.ends.ends in let next = term_place c.next.new.self in
    let below : at < TOP = omega (arith, c.ends-test.true, c.loc.ensures.location) in
    let is : next ≡ first_from list (at + 1) = subst (λ (l : List ℕ). next ≡ first_from l (at + 1)) inv.list c.next.ensures.location in
    let place : IsPlace list at = subst (λ (l : List ℕ). IsPlace l at) inv.list (subst (IsPlace (term_list c.ends.ends)) c.loc-in-ends.ensures.location c.loc-in-ends.ensures.place) in
    let held : Contains list at = ⊎_elim (λ m. m) (λ e. absurd (omega (arith, e, below))) place in
    let rising : IsRising (ends_of all) = c.walk-rows.ensures.rising in
    let step : rows_at all c.put_live.new.live.items ++ answers_in list gone (at + 1) all ≡ rows_at all c.ends.live.items ++ answers_in list gone at all =
    subst (λ (rs : List DocRow). rows_at rs c.put_live.new.live.items ++ answers_in list gone (at + 1) rs ≡ rows_at rs c.ends.live.items ++ answers_in list gone at rs) inv.rows
    (subst (λ (n : ℕ). rows_at c.ends.rows.rows c.put_live.new.live.items ++ answers_in list gone (n + 1) c.ends.rows.rows ≡ rows_at c.ends.rows.rows c.ends.live.items ++ answers_in list gone n c.ends.rows.rows)
    c.loc-in-ends.ensures.location
    (c.in_ok-put_live.ensures.taken list (subst (Contains list) (sym c.loc-in-ends.ensures.location) held) (subst (λ (rs : List DocRow). IsRising (ends_of rs)) (sym inv.rows) rising))) in
    record {
      sound = c.next.ensures.sound;
      list = c.next.ensures.list ∙ inv.list;
      inside = subst (λ (rs : List DocRow). All (λ i. i < length rs) c.put_live.new.live.items) inv.rows
          (c.in_ok-put_live.ensures.inside (subst (λ (rs : List DocRow). All (λ i. i < length rs) c.ends.live.items) (sym inv.rows) inv.inside));
      rows = c.put_live.ensures.rows ∙ inv.rows;
      past = past_more c.put_live.new.rows c.loc-in-ends.result next
          (subst (λ (n : ℕ). n ≤ next) (sym c.loc-in-ends.ensures.location) (goes_up list at next below is)) c.put_live.ensures.past;
      taken = taken_next list gone all c.ends.live.items c.put_live.new.live.items at next below is step inv.taken;
      steps = omega (arith, c.next.ensures.steps, inv.steps);
    }

pub ends-smaller : goal.ends-smaller
ends-smaller g c = c.next.ensures.falls

pub returns-clause-rows : goal.returns-clause-rows
returns-clause-rows g c =
    let inv = c.ends.invariant in let list = term_list c.args.ends.now in
    taken_all list c.args.gone.now c.args.all.now c.ends.live.items (term_place c.ends.ends) (subst IsRising inv.list inv.sound.0.1.rising)
    (omega (arith, c.ends-test.false, c.loc.ensures.location)) inv.taken
