use Rattle.std.proofs.Common.{◌≡◌, inr, ◌+◌, ◌-◌, ◌≤◌, [], map, get_or, refl, sym, subst, ap, ◌∙◌, arith}
use Rattle.std.specs.Prelude.{Contains}
use Rattle.alta_codec.specs.declared.location.TheConstants.{TOP}
use Rattle.alta_codec.specs.Rising.{IsPlace, first_from, pred_of}
use Rattle.alta_codec.proofs.Places.{first_from-above, first_from-least, first_from-le_top, first_from-place, pred_of-below}
use Rattle.alta_compound.proofs.Staying.{pred_same}
use Rattle.alta_lead.specs.Moves.{AreAhead}
use Rattle.alta_lead.proofs.Bringing.{ahead_first}
use Rattle.alta_lead.proofs.Moving.{all_still, moved_then, moved_more}
use Rattle.alta_lead.proofs.Rounding.{behind_pred, later_end}
use Rattle.alta_lead.proofs.rounds.led.Goals as goal

pub reach-end-requires-clause-ahead : goal.reach-end-requires-clause-ahead
reach-end-requires-clause-ahead g c = λ z m h.
    c.requires.ends_ahead z m (omega (arith, h, pred_of-below (g.R.Reader.list c.args.ends.now.inner) c.args.to c.requires.some))

pub returns-then-end-eq-TOP : goal.returns-then-end-eq-TOP
returns-then-end-eq-TOP g c =
    let R = g.R.Reader in let E = R.list c.args.ends.now.inner in let words = c.args.words.now in let to = c.args.to in let r = c.reach-end.ensures in
    let start = pred_of E to + 1 in let at = first_from (get_or (map R.list words) c.args.lead []) start in
    let top : c.reach-end.result ≡ TOP = omega (arith, c.if-end-eq-TOP.true) in
    let start_top : start ≤ TOP = omega (arith, pred_of-below E to c.requires.some, c.requires.top) in
    let above : start ≤ at = first_from-above (get_or (map R.list words) c.args.lead []) start start_top in
    record {
      of_ends = c.reach-end.new.steps - c.args.steps.now;
      of_words = 0;
      ends_moved = moved_more R.sound R.list R.all R.left R.cost c.args.ends.now.inner c.reach-end.new.ends.inner 1 2 (c.reach-end.new.steps - c.args.steps.now) (omega arith) r.moved;
      words_moved = all_still R.sound R.list R.all R.left R.cost words 1 c.requires.words;
      steps = omega arith;
      falls = r.falls;
      place = r.location;
      later = omega (arith, top, c.requires.top);
      standing = inr top;
      top = omega (arith, top);
      ahead = λ h. absurd (omega (arith, top, h));
      at = at;
      first = refl;
      here = top ∙ ahead_first E TOP at (inr refl) (omega arith) (first_from-le_top (get_or (map R.list words) c.args.lead []) start)
          (λ z m h. omega (arith, top, r.place, first_from-least E to z m (behind_pred E to z m (omega (arith, above, h)))));
    }

pub bring-at-requires-clause-ahead : goal.bring-at-requires-clause-ahead
bring-at-requires-clause-ahead g c =
    let R = g.R.Reader in let E = R.list c.args.ends.now.inner in let words = c.args.words.now in let r = c.reach-end.ensures in
    let e : c.start.result ≡ pred_of E c.args.to + 1 =
    c.start.ensures ∙ ap (λ l. pred_of l (R.location c.reach-end.new.ends.inner) + 1) r.moved.same_list
    ∙ ap (λ y. y + 1) (pred_same E c.args.to (R.location c.reach-end.new.ends.inner) (r.location ∙ r.place) c.requires.some c.requires.top) in
    subst (λ s. AreAhead s (map R.list words) (map R.location words)) (sym e) c.requires.words_ahead

pub bring-at-requires-clause-top : goal.bring-at-requires-clause-top
bring-at-requires-clause-top g c =
    let R = g.R.Reader in let E = R.list c.args.ends.now.inner in let r = c.reach-end.ensures in
    omega (
      arith,
      c.start.ensures,
      ap (λ l. pred_of l (R.location c.reach-end.new.ends.inner)) r.moved.same_list,
      pred_same E c.args.to (R.location c.reach-end.new.ends.inner) (r.location ∙ r.place) c.requires.some c.requires.top,
      pred_of-below E c.args.to c.requires.some,
      c.requires.top,
    )

pub reach-requires-clause-ahead : goal.reach-requires-clause-ahead
reach-requires-clause-ahead g c = λ z m h.
    let R = g.R.Reader in let E = R.list c.args.ends.now.inner in let words = c.args.words.now in let r = c.reach-end.ensures in
    let n : Contains E z = subst (λ l. Contains l z) r.moved.same_list m in
    let start : c.start.result ≡ pred_of E c.args.to + 1 =
    c.start.ensures ∙ ap (λ l. pred_of l (R.location c.reach-end.new.ends.inner) + 1) r.moved.same_list
    ∙ ap (λ y. y + 1) (pred_same E c.args.to (R.location c.reach-end.new.ends.inner) (r.location ∙ r.place) c.requires.some c.requires.top) in
    let start_top : c.start.result ≤ TOP = omega (arith, start, pred_of-below E c.args.to c.requires.some, c.requires.top) in
    let above : c.start.result ≤ c.bring-at.result = omega (arith, c.bring-at.ensures.place, first_from-above (get_or (map R.list words) c.args.lead []) c.start.result start_top) in
    omega (arith, r.location, r.place, first_from-least E c.args.to z n (behind_pred E c.args.to z n (omega (arith, start, above, h))))

pub reach-requires-clause-top : goal.reach-requires-clause-top
reach-requires-clause-top g c =
    omega (arith, c.bring-at.ensures.place, first_from-le_top (get_or (map g.R.Reader.list c.args.words.now) c.args.lead []) c.start.result)

pub returns : goal.returns
returns g c =
    let R = g.R.Reader in let E = R.list c.args.ends.now.inner in let words = c.args.words.now in let to = c.args.to in let r = c.reach-end.ensures in let s = c.reach.ensures in
    let w = c.bring-at.ensures in let lead = get_or (map R.list words) c.args.lead [] in
    let start : c.start.result ≡ pred_of E to + 1 =
    c.start.ensures ∙ ap (λ l. pred_of l (R.location c.reach-end.new.ends.inner) + 1) r.moved.same_list
    ∙ ap (λ y. y + 1) (pred_same E to (R.location c.reach-end.new.ends.inner) (r.location ∙ r.place) c.requires.some c.requires.top) in
    let here : c.reach.result ≡ first_from E c.bring-at.result = s.place ∙ ap (λ l. first_from l c.bring-at.result) r.moved.same_list in
    let start_top : c.start.result ≤ TOP = omega (arith, start, pred_of-below E to c.requires.some, c.requires.top) in
    let above : c.start.result ≤ c.bring-at.result = omega (arith, w.place, first_from-above lead c.start.result start_top) in
    let at_top : c.bring-at.result ≤ TOP = omega (arith, w.place, first_from-le_top lead c.start.result) in
    record {
      of_ends = (c.reach-end.new.steps - c.args.steps.now) + (c.reach.new.steps - c.bring-at.new.steps);
      of_words = c.bring-at.new.steps - c.reach-end.new.steps;
      ends_moved = moved_then R.sound R.list R.all R.left R.cost c.args.ends.now.inner c.reach-end.new.ends.inner c.reach.new.ends.inner 1 1
          (c.reach-end.new.steps - c.args.steps.now) (c.reach.new.steps - c.bring-at.new.steps) r.moved s.moved;
      words_moved = w.moved;
      steps = omega arith;
      falls = λ h. omega (arith, r.falls h, s.moved.steps);
      place = s.location;
      later = later_end E to c.reach.result c.bring-at.result here at_top (omega (arith, start, above)) c.requires.some c.requires.top;
      standing = subst (λ v. IsPlace E v) (sym here) (first_from-place E c.bring-at.result);
      top = omega (arith, here, first_from-le_top E c.bring-at.result);
      ahead = λ h. subst (λ v. AreAhead v (map R.list words) (map R.location c.bring-at.new.readers)) start w.ahead;
      at = c.bring-at.result;
      first = w.place ∙ ap (λ v. first_from lead v) start;
      here = here;
    }
