use Rattle.std.proofs.Common.{false, length, get_or, ◌∙◌, sym, ap, subst, arith, inr}
use Rattle.alta_machine.specs.Spots.{is_blank, spots, spots_from}
use Rattle.alta_query.specs.Kept.{state_of}
use Rattle.std.proofs.lemmas.Str.{IsCharBoundary-start, IsCharBoundary-after_ascii, IsCharBoundary-from_rest}
use Rattle.alta_query.specs.Texts.{IsTextState}
use Rattle.alta_query.proofs.Texts.{start_text, step_text, finish_text}
use Rattle.alta_query.specs.Answer.{Gives}
use Rattle.alta_query.proofs.Ended.{ran_out}
use Rattle.alta_query.proofs.Seen.{run_seen, seen_start}
use Rattle.alta_query.proofs.Places.{spots_token, spots_blank, blank_low, rest_within, step_kept, step_fault, run_ended, run_empty}
use Rattle.alta_query.proofs.reading.read.Goals as goal

pub loop-at-init : goal.loop-at-init
unfolding spots
loop-at-init c = record {
  within = omega arith;
  boundary = IsCharBoundary-start c.args.text.now c.utf8.text;
  few = omega (arith, ap (λ s. s.words) c.new-machine.ensures);
  texts = subst IsTextState (sym c.new-machine.ensures) start_text;
  same = ap (λ s. run_seen false s (spots_from 0 0 c.args.text.now) (length c.args.text.now)) c.new-machine.ensures ∙ seen_start _ _;
}

pub loop-at-preserved : goal.loop-at-preserved
loop-at-preserved c =
    let solid = sym (ap is_blank (ap (λ bytes. get_or bytes c.loop-at.at 0) c.as_bytes.ensures.value)) ∙ sym c.blank.ensures ∙ c.if-blank.false in
    let front = spots_token c.args.text.now c.loop-at.at c.in_ok-piece.piece.len _ c.loop-at-test.true solid c.in_ok-piece.ensures.positive (rw c.range_from.ensures.value at c.in_ok-piece.ensures.len) (rw c.range_from.ensures.value at c.in_ok-piece.ensures.token) in
    let kept = step_kept _ _ _ _ _ _ _ _ _ c.loop-at.invariant.same front (sym c.cause.ensures ∙ c.in_default.is) c.in_ok-step.ensures.state in
    record {
      within = rest_within _ _ _ c.loop-at-test.true (rw c.range_from.ensures.value at c.in_ok-piece.ensures.within);
      boundary = IsCharBoundary-from_rest _ _ _ c.loop-at.invariant.within (rw c.range_from.ensures.value at c.in_ok-piece.ensures.boundary);
      few = kept.0;
      texts = subst IsTextState (sym c.in_ok-step.ensures.state) (step_text _ _ c.in_ok-step.ensures.text c.loop-at.invariant.texts);
      same = kept.1;
    }

pub loop-at-preserved-then-blank : goal.loop-at-preserved-then-blank
loop-at-preserved-then-blank c =
    let blank = sym (ap is_blank (ap (λ bytes. get_or bytes c.loop-at.at 0) c.as_bytes.ensures.value)) ∙ sym c.blank.ensures ∙ c.if-blank.true in
    record {
      within = omega (arith, c.loop-at-test.true);
      boundary = IsCharBoundary-after_ascii c.args.text.now c.loop-at.at c.utf8.text c.loop-at-test.true (blank_low _ blank);
      few = c.loop-at.invariant.few;
      texts = c.loop-at.invariant.texts;
      same = sym (ap (λ ts. run_seen c.loop-at.seen (state_of c.loop-at.machine) ts (length c.args.text.now)) (spots_blank c.args.text.now c.loop-at.at c.loop-at-test.true blank)) ∙ c.loop-at.invariant.same;
    }

pub returns-clause-text : goal.returns-clause-text
returns-clause-text c =
    finish_text c.finish.result (state_of c.loop-at.machine) _ c.finish.ensures c.loop-at.invariant.texts

pub returns-clause-reading : goal.returns-clause-reading
returns-clause-reading c =
    subst (Gives c.finish.result) (run_ended c.args.text.now _ _ _ _ _ c.loop-at-test.false c.if-not-seen.false c.loop-at.invariant.same) c.finish.ensures

pub returns-then-not-seen-clause-reading : goal.returns-then-not-seen-clause-reading
returns-then-not-seen-clause-reading c =
    inr (run_empty c.args.text.now _ _ _ _ _ c.loop-at-test.false c.if-not-seen.true c.loop-at.invariant.same)

pub returns-in-Some-clause-reading : goal.returns-in-Some-clause-reading
returns-in-Some-clause-reading c =
    let solid = sym (ap is_blank (ap (λ bytes. get_or bytes c.loop-at.at 0) c.as_bytes.ensures.value)) ∙ sym c.blank.ensures ∙ c.if-blank.false in
    let front = spots_token c.args.text.now c.loop-at.at c.in_ok-piece.piece.len _ c.loop-at-test.true solid c.in_ok-piece.ensures.positive (rw c.range_from.ensures.value at c.in_ok-piece.ensures.len) (rw c.range_from.ensures.value at c.in_ok-piece.ensures.token) in
    inr (step_fault _ _ _ _ _ _ _ _ _ c.loop-at.invariant.same front (sym c.in-Some.ensures))

pub returns-in_err-piece-clause-reading : goal.returns-in_err-piece-clause-reading
returns-in_err-piece-clause-reading c = ran_out _ _ c.from_residual.ensures.1

pub returns-in_err-step-clause-reading : goal.returns-in_err-step-clause-reading
returns-in_err-step-clause-reading c = ran_out _ _ c.from_residual-in_err-step.ensures.1

pub step-requires : goal.step-requires
step-requires c = sym c.cause.ensures ∙ c.in_default.is
