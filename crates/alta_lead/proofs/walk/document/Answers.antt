use Rattle.std.proofs.Common.{◌≡◌, ⊎_elim, inl, inr, ◌+◌, ◌-◌, ◌<◌, [], map, get_or, refl, sym, subst, ap, ◌∙◌, arith}
use Rattle.std.specs.Prelude.{Contains}
use Rattle.std.proofs.lemmas.List.{length-map}
use Rattle.alta_codec.specs.declared.location.TheConstants.{TOP}
use Rattle.alta_codec.specs.Rising.{IsPlace, first_from, pred_of}
use Rattle.alta_codec.proofs.Places.{first_from-place}
use Rattle.alta_lead.specs.HavingLaws.{having-answers}
use Rattle.alta_lead.specs.Moves.{AreAhead}
use Rattle.alta_lead.specs.Rounds.{IsTold}
use Rattle.alta_lead.proofs.Moving.{all_still, all_moved_then, all_moved_more}
use Rattle.alta_lead.proofs.Rounding.{all_ahead_later, led_least}
use Rattle.alta_lead.proofs.Tallying.{led_bounds, led_rest, told_some, told_none}
use Rattle.alta_lead.proofs.walk.document.Goals as goal

pub reach-end-requires-clause-ahead : goal.reach-end-requires-clause-ahead
reach-end-requires-clause-ahead g c = λ z m h.
    let R = g.R.Reader in let E = g.E.Reader.list c.args.ends.now.inner in let lead = get_or (map R.list c.args.words.now) c.args.lead [] in
    let b = led_bounds E lead c.args.from c.bring-at.result (first_from E c.bring-at.result) c.requires.top c.requires.begins c.bring-at.ensures.place refl in
    c.requires.ends_ahead z m (omega (arith, h, b.0))

pub reach-end-requires-clause-top : goal.reach-end-requires-clause-top
reach-end-requires-clause-top g c =
    let R = g.R.Reader in let E = g.E.Reader.list c.args.ends.now.inner in let lead = get_or (map R.list c.args.words.now) c.args.lead [] in
    (led_bounds E lead c.args.from c.bring-at.result (first_from E c.bring-at.result) c.requires.top c.requires.begins c.bring-at.ensures.place refl).1

pub returns-then-end-eq-TOP : goal.returns-then-end-eq-TOP
returns-then-end-eq-TOP g c =
    let R = g.R.Reader in let E = g.E.Reader.list c.args.ends.now.inner in let words = c.args.words.now in let negated = c.args.negated.now in
    let W = map R.list words in let lead = get_or W c.args.lead [] in
    let w = c.bring-at.ensures in let r = c.reach-end.ensures in
    let top : c.reach-end.result ≡ TOP = omega (arith, c.if-end-eq-TOP.true) in
    let rising = g.met.E.Reader.rises c.args.ends.now.inner c.requires.ends in
    record {
      by_ends = c.reach-end.new.steps - c.bring-at.new.steps;
      by_words = c.bring-at.new.steps - c.args.steps.now;
      by_negated = 0;
      ends_moved = r.moved;
      words_moved = all_moved_more R.sound R.list R.all R.left R.cost words c.bring-at.new.readers 1 2 (c.bring-at.new.steps - c.args.steps.now) (omega arith) w.moved;
      negated_moved = all_still R.sound R.list R.all R.left R.cost negated 1 c.requires.negated;
      steps = omega arith;
      later = c.requires.top;
      standing = inr refl;
      top = omega arith;
      least = λ z m h.
          omega (
            arith,
            top,
            led_least E W (map R.list negated) c.args.lead c.args.from c.bring-at.result c.reach-end.result z
                (omega (arith, c.requires.lead, length-map words R.list)) (w.place ∙ ap (first_from lead) (sym c.requires.begins)) r.place
                ((having-answers E W (map R.list negated) z rising).0 m) h,
          );
      some = tt;
      none = λ below. absurd (omega (arith, below));
      rest = λ below. absurd (omega (arith, below));
      ends_ahead = λ below. absurd (omega (arith, below));
      words_ahead = λ below. absurd (omega (arith, below));
      negated_ahead = λ below. absurd (omega (arith, below));
    }

pub told-next-requires-clause-top : goal.told-next-requires-clause-top
told-next-requires-clause-top g c =
    let X = g.E.Reader in let E = X.list c.args.ends.now.inner in let r = c.reach-end.ensures in
    let lead = get_or (map g.R.Reader.list c.args.words.now) c.args.lead [] in
    let b = led_bounds E lead c.args.from c.bring-at.result c.reach-end.result c.requires.top c.requires.begins c.bring-at.ensures.place r.place in
    omega (
      arith,
      c.start.ensures,
      ap (λ xs. pred_of xs (X.location c.reach-end.new.ends.inner)) r.moved.same_list,
      ap (λ y. pred_of E y) r.location,
      b.3,
      b.5,
    )

pub told-next-requires-clause-below : goal.told-next-requires-clause-below
told-next-requires-clause-below g c =
    let E = g.E.Reader.list c.args.ends.now.inner in let lead = get_or (map g.R.Reader.list c.args.words.now) c.args.lead [] in
    let b = led_bounds E lead c.args.from c.bring-at.result c.reach-end.result c.requires.top c.requires.begins c.bring-at.ensures.place c.reach-end.ensures.place in
    omega (arith, b.3, c.if-end-eq-TOP.false)

pub told-next-requires-clause-words_ahead : goal.told-next-requires-clause-words_ahead
told-next-requires-clause-words_ahead g c =
    let R = g.R.Reader in let X = g.E.Reader in let E = X.list c.args.ends.now.inner in let r = c.reach-end.ensures in let w = c.bring-at.ensures in
    let lead = get_or (map R.list c.args.words.now) c.args.lead [] in
    let b = led_bounds E lead c.args.from c.bring-at.result c.reach-end.result c.requires.top c.requires.begins w.place r.place in
    let start : c.start.result ≡ pred_of E c.reach-end.result + 1 =
    c.start.ensures ∙ ap (λ xs. pred_of xs (X.location c.reach-end.new.ends.inner) + 1) r.moved.same_list ∙ ap (λ y. pred_of E y + 1) r.location in
    subst (λ ls. AreAhead c.start.result ls (map R.location c.bring-at.new.readers)) (sym w.moved.lists)
    (all_ahead_later (map R.list c.args.words.now) (map R.location c.bring-at.new.readers) c.args.from c.start.result (omega (arith, start, b.4)) w.ahead)

pub told-next-requires-clause-negated_ahead : goal.told-next-requires-clause-negated_ahead
told-next-requires-clause-negated_ahead g c =
    let R = g.R.Reader in let X = g.E.Reader in let E = X.list c.args.ends.now.inner in let r = c.reach-end.ensures in let w = c.bring-at.ensures in
    let lead = get_or (map R.list c.args.words.now) c.args.lead [] in
    let b = led_bounds E lead c.args.from c.bring-at.result c.reach-end.result c.requires.top c.requires.begins w.place r.place in
    let start : c.start.result ≡ pred_of E c.reach-end.result + 1 =
    c.start.ensures ∙ ap (λ xs. pred_of xs (X.location c.reach-end.new.ends.inner) + 1) r.moved.same_list ∙ ap (λ y. pred_of E y + 1) r.location in
    all_ahead_later (map R.list c.args.negated.now) (map R.location c.args.negated.now) c.args.from c.start.result (omega (arith, start, b.4)) c.requires.negated_ahead

pub returns : goal.returns
returns g c =
    let R = g.R.Reader in let X = g.E.Reader in let E = X.list c.args.ends.now.inner in let words = c.args.words.now in let negated = c.args.negated.now in
    let W = map R.list words in let N = map R.list negated in let lead = get_or W c.args.lead [] in
    let w = c.bring-at.ensures in let r = c.reach-end.ensures in let t = c.told-next.ensures in let end = c.reach-end.result in
    let d = c.told-next.new in
    let rising = g.met.E.Reader.rises c.args.ends.now.inner c.requires.ends in
    let b = led_bounds E lead c.args.from c.bring-at.result end c.requires.top c.requires.begins w.place r.place in
    let below : end < TOP = omega (arith, b.3, c.if-end-eq-TOP.false) in
    let start : c.start.result ≡ pred_of E end + 1 =
    c.start.ensures ∙ ap (λ xs. pred_of xs (X.location c.reach-end.new.ends.inner) + 1) r.moved.same_list ∙ ap (λ y. pred_of E y + 1) r.location in
    let is_end : Contains E end = ⊎_elim (λ m. m) (λ t. absurd (omega (arith, t, below))) (subst (λ v. IsPlace E v) (sym r.place) (first_from-place E c.bring-at.result)) in
    let told : IsTold W N (pred_of E end + 1) end c.told-next.result =
    subst (λ s. IsTold W N s end c.told-next.result) start (subst (λ ls. IsTold ls N c.start.result end c.told-next.result) w.moved.lists t.told) in
    record {
      by_ends = c.reach-end.new.steps - c.bring-at.new.steps;
      by_words = (c.bring-at.new.steps - c.args.steps.now) + t.words.0;
      by_negated = t.words.2;
      ends_moved = r.moved;
      words_moved = all_moved_then R.sound R.list R.all R.left R.cost words c.bring-at.new.readers d.words 1 1 (c.bring-at.new.steps - c.args.steps.now) t.words.0 w.moved t.words.1;
      negated_moved = t.words.3;
      steps = omega (arith, t.words.4);
      later = b.2;
      standing = inl is_end;
      top = b.3;
      least = λ z m h. led_least E W N c.args.lead c.args.from c.bring-at.result end z
          (omega (arith, c.requires.lead, length-map words R.list)) (w.place ∙ ap (first_from lead) (sym c.requires.begins)) r.place
          ((having-answers E W N z rising).0 m) h;
      some = told_some E W N end c.told-next.result rising is_end told;
      none = told_none E W N end c.told-next.result rising is_end told;
      rest = λ h. led_rest E lead c.args.from c.bring-at.result end c.requires.top w.place r.place h;
      ends_ahead = λ h z m l. omega (arith, r.location, l);
      words_ahead = λ h.
          all_ahead_later W (map R.location d.words) c.start.result (end + 1) (omega (arith, start, b.5))
          (subst (λ ls. AreAhead c.start.result ls (map R.location d.words)) w.moved.lists t.words_ahead);
      negated_ahead = λ h. all_ahead_later N (map R.location d.negated) c.start.result (end + 1) (omega (arith, start, b.5)) t.negated_ahead;
    }
