-- Laws of how far lines were answered.
use Rattle.std.proofs.Common.{◌≡◌, ◌⊎◌, ℕ, ◌+◌, ◌<◌, ◌≤◌, inl, inr, List, [], ◌∷◌, ◌++◌, length, take, drop, map, refl, ap, sym, subst, ◌∙◌, append_assoc, append-nil, length-append, arith}
use Rattle.std.proofs.lemmas.List.{take_all, take-append-le, drop-append-le}
use Rattle.std.proofs.Math.Seq.{take-append-add, drop-append-add}
use Rattle.std.specs.List.{concat}
use Rattle.alta_console.specs.Replies.{IsPrefix, IsAcked, IsPartOfFirst}
use Rattle.alta_console.proofs.ReplyLaws.{joined_append, joined_parts, part_begins, acked_part}
use Rattle.alta_session.specs.Keeping.{clip}
use Rattle.alta_machine.specs.declared.document.State.{State}
use Rattle.alta_machine.specs.Machine.{Machine, step, machine_after, replies}
use Rattle.alta_session.specs.Progress.{After, AfterSome, Progress}
use Rattle.alta_session.proofs.MachineLaws.{after_append, replies_append, length_replies, reply_some, replies_clip, after_take, length_same}
use Rattle.alta_meaning.specs.Standing.{StandsFor, StandsForEither}

-- ---- what an image has of the state after some lines
module _ (Has : State → List ℕ → Type 0) where
  -- before all lines
  pub some_none : (m : Machine) (lines : List (List ℕ)) (image : List ℕ) → Has m.state image → AfterSome Has m lines image
  some_none m lines image has = record { reached = 0; within = omega arith; has = has }

  -- before the first line or after it
  pub some_either : (m : Machine) (line : List ℕ) (lines : List (List ℕ)) (image : List ℕ) → Has m.state image ⊎ Has (step m line).0.state image → AfterSome Has m (line ∷ lines) image
  some_either m line lines image (inl before) = record { reached = 0; within = omega arith; has = before }
  some_either m line lines image (inr later) = record { reached = 1; within = omega arith; has = later }

  -- behind lines that were answered
  pub some_on : (m : Machine) (xs ys : List (List ℕ)) (image : List ℕ) → AfterSome Has (machine_after m xs) ys image → AfterSome Has m (xs ++ ys) image
  some_on m xs ys image some = record {
    reached = length xs + some.reached;
    within = omega (arith, length-append xs ys, some.within);
    has = subst (λ (t : Machine). Has t.state image) (sym (ap (λ (l : List (List ℕ)). machine_after m l) (take-append-add xs ys some.reached) ∙ after_append m xs (take some.reached ys))) some.has;
  }

  -- with more lines behind
  pub some_more : (m : Machine) (xs ys : List (List ℕ)) (image : List ℕ) → AfterSome Has m xs image → AfterSome Has m (xs ++ ys) image
  some_more m xs ys image some = record {
    reached = some.reached;
    within = omega (arith, length-append xs ys, some.within);
    has = subst (λ (l : List (List ℕ)). Has (machine_after m l).state image) (sym (take-append-le some.reached xs ys some.within)) some.has;
  }

  -- of lines that are the same up to a clip
  pub some_clip : (m : Machine) (xs ys : List (List ℕ)) (image : List ℕ) → map clip xs ≡ map clip ys → AfterSome Has m xs image → AfterSome Has m ys image
  some_clip m xs ys image same some = record {
    reached = some.reached;
    within = omega (arith, length_same xs ys same, some.within);
    has = subst (λ (t : Machine). Has t.state image) (after_take m some.reached xs ys same) some.has;
  }

  -- ---- and of this many

  pub after_none : (m : Machine) (lines : List (List ℕ)) (image : List ℕ) → Has m.state image → After Has 0 m lines image
  after_none m lines image has = record { reached = 0; least = omega arith; most = omega arith; within = omega arith; has = has }

  pub after_either : (m : Machine) (line : List ℕ) (lines : List (List ℕ)) (image : List ℕ) → Has m.state image ⊎ Has (step m line).0.state image → After Has 0 m (line ∷ lines) image
  after_either m line lines image (inl before) = record { reached = 0; least = omega arith; most = omega arith; within = omega arith; has = before }
  after_either m line lines image (inr later) = record { reached = 1; least = omega arith; most = omega arith; within = omega arith; has = later }

  pub after_all : (n : ℕ) (m : Machine) (lines : List (List ℕ)) (image : List ℕ) → n ≡ length lines → Has (machine_after m lines).state image → After Has n m lines image
  after_all n m lines image is has = record {
    reached = length lines;
    least = omega (arith, is);
    most = omega (arith, is);
    within = omega arith;
    has = subst (λ (l : List (List ℕ)). Has (machine_after m l).state image) (sym (take_all (length lines) lines (omega arith))) has;
  }

  pub after_on : (answered : ℕ) (m : Machine) (xs ys : List (List ℕ)) (image : List ℕ) → After Has answered (machine_after m xs) ys image → After Has (length xs + answered) m (xs ++ ys) image
  after_on answered m xs ys image r = record {
    reached = length xs + r.reached;
    least = omega (arith, r.least);
    most = omega (arith, r.most);
    within = omega (arith, length-append xs ys, r.within);
    has = subst (λ (t : Machine). Has t.state image) (sym (ap (λ (l : List (List ℕ)). machine_after m l) (take-append-add xs ys r.reached) ∙ after_append m xs (take r.reached ys))) r.has;
  }

  pub after_more : (answered : ℕ) (m : Machine) (xs ys : List (List ℕ)) (image : List ℕ) → After Has answered m xs image → After Has answered m (xs ++ ys) image
  after_more answered m xs ys image r = record {
    reached = r.reached;
    least = r.least;
    most = r.most;
    within = omega (arith, length-append xs ys, r.within);
    has = subst (λ (l : List (List ℕ)). Has (machine_after m l).state image) (sym (take-append-le r.reached xs ys r.within)) r.has;
  }

  pub after_clipped : (answered : ℕ) (m : Machine) (xs ys : List (List ℕ)) (image : List ℕ) → map clip xs ≡ map clip ys → After Has answered m xs image → After Has answered m ys image
  after_clipped answered m xs ys image same r = record {
    reached = r.reached;
    least = r.least;
    most = r.most;
    within = omega (arith, length_same xs ys same, r.within);
    has = subst (λ (t : Machine). Has t.state image) (after_take m r.reached xs ys same) r.has;
  }

-- what was given begins what is to be given
pub progress_begins : (m : Machine) (lines : List (List ℕ)) (given : List ℕ) (images : List ℕ → Type 0) → Progress m lines given images → IsPrefix given (concat (replies m lines))
progress_begins m lines given images p =
    let all : List (List ℕ) = replies m lines in
    let begins : IsPrefix p.part (concat (drop p.answered all)) = part_begins (drop p.answered all) p.part p.started in (
      begins.0,
      joined_parts p.answered all ∙ ap (λ (l : List ℕ). concat (take p.answered all) ++ l) begins.1
          ∙ sym (append_assoc (concat (take p.answered all)) p.part begins.0) ∙ ap (λ (l : List ℕ). l ++ begins.0) (sym p.given_is),
    )

pub progress_acked : (m : Machine) (lines : List (List ℕ)) (given : List ℕ) (images : List ℕ → Type 0) (p : Progress m lines given images) → IsAcked p.answered (replies m lines) given
progress_acked m lines given images p = acked_part p.answered (replies m lines) given p.part (omega (arith, length_replies m lines, p.some)) p.given_is p.started

-- nothing was given yet
pub progress_none : (m : Machine) (lines : List (List ℕ)) (images : List ℕ → Type 0) → ((image : List ℕ) → images image → StandsFor m.state image) → Progress m lines [] images
progress_none m [] images stand = record { answered = 0; part = []; some = omega arith; given_is = refl; started = refl; stand = λ t h. after_none StandsFor m [] t (stand t h) }
progress_none m (line ∷ lines) images stand = record { answered = 0; part = []; some = omega arith; given_is = refl; started = ((step m line).1, refl, reply_some m line); stand = λ t h. after_none StandsFor m (line ∷ lines) t (stand t h) }

-- it stopped at the first line
pub progress_stop : (m : Machine) (line : List ℕ) (lines : List (List ℕ)) (part left : List ℕ) (images : List ℕ → Type 0) → (step m line).1 ≡ part ++ left → 0 < length left → ((image : List ℕ) → images image → StandsForEither m.state (step m line).0.state image)
    → Progress m (line ∷ lines) part images
progress_stop m line lines part left images whole some either = record { answered = 0; part = part; some = omega arith; given_is = refl; started = (left, whole, some); stand = λ t h. after_either StandsFor m line lines t (either t h) }

-- lines that were answered before
pub progress_on : (m : Machine) (xs ys : List (List ℕ)) (given : List ℕ) (images : List ℕ → Type 0) → Progress (machine_after m xs) ys given images → Progress m (xs ++ ys) (concat (replies m xs) ++ given) images
progress_on m xs ys given images p =
    let first : List (List ℕ) = replies m xs in
    let later : List (List ℕ) = replies (machine_after m xs) ys in
    let long : length first ≡ length xs = length_replies m xs in
    let taken : take (length xs + p.answered) (replies m (xs ++ ys)) ≡ first ++ take p.answered later =
    ap (λ (l : List (List ℕ)). take (length xs + p.answered) l) (replies_append m xs ys) ∙ ap (λ (n : ℕ). take (n + p.answered) (first ++ later)) (sym long) ∙ take-append-add first later p.answered in
    let dropped : drop (length xs + p.answered) (replies m (xs ++ ys)) ≡ drop p.answered later =
    ap (λ (l : List (List ℕ)). drop (length xs + p.answered) l) (replies_append m xs ys) ∙ ap (λ (n : ℕ). drop (n + p.answered) (first ++ later)) (sym long) ∙ drop-append-add first later p.answered in
    let P : List (List ℕ) → Type 0 = λ l. IsPartOfFirst l p.part in
    record {
      answered = length xs + p.answered;
      part = p.part;
      some = omega (arith, length-append xs ys, p.some);
      given_is = ap (λ (l : List ℕ). concat first ++ l) p.given_is ∙ sym (append_assoc (concat first) (concat (take p.answered later)) p.part)
          ∙ ap (λ (l : List ℕ). l ++ p.part) (sym (joined_append first (take p.answered later))) ∙ ap (λ (l : List (List ℕ)). concat l ++ p.part) (sym taken);
      started = subst P (sym dropped) p.started;
      stand = λ t h. after_on StandsFor p.answered m xs ys t (p.stand t h);
    }

-- all lines were answered
pub progress_full : (m : Machine) (lines : List (List ℕ)) (images : List ℕ → Type 0) → ((image : List ℕ) → images image → StandsFor (machine_after m lines).state image) → Progress m lines (concat (replies m lines)) images
progress_full m lines images stand =
    let P : List (List ℕ) → Type 0 = λ l. Progress m l (concat (replies m lines) ++ []) images in
    let Q : List ℕ → Type 0 = λ g. Progress m lines g images in
    subst Q (append-nil (concat (replies m lines))) (subst P (append-nil lines) (progress_on m lines [] [] images (progress_none (machine_after m lines) [] images stand)))

-- the same of lines that are the same up to a clip
pub progress_clip : (m : Machine) (xs ys : List (List ℕ)) (given : List ℕ) (images : List ℕ → Type 0) → map clip xs ≡ map clip ys → Progress m xs given images → Progress m ys given images
progress_clip m xs ys given images same p =
    let all : replies m xs ≡ replies m ys = sym (replies_clip m xs) ∙ ap (λ (l : List (List ℕ)). replies m l) same ∙ replies_clip m ys in
    let P : List (List ℕ) → Type 0 = λ l. IsPartOfFirst (drop p.answered l) p.part in
    record {
      answered = p.answered;
      part = p.part;
      some = omega (arith, length_same xs ys same, p.some);
      given_is = p.given_is ∙ ap (λ (l : List (List ℕ)). concat (take p.answered l) ++ p.part) all;
      started = subst P all p.started;
      stand = λ t h. after_clipped StandsFor p.answered m xs ys t same (p.stand t h);
    }

part_more : (texts : List (List ℕ)) (m : Machine) (lines : List (List ℕ)) (part : List ℕ) → IsPartOfFirst texts part → IsPartOfFirst (texts ++ replies m lines) part
part_more [] m [] part none = none
part_more [] m (line ∷ lines) part none = ((step m line).1, ap (λ (l : List ℕ). l ++ (step m line).1) (sym none), reply_some m line)
part_more (text ∷ texts) m lines part first = first

-- lines that were not reached
pub progress_more : (m : Machine) (xs ys : List (List ℕ)) (given : List ℕ) (images : List ℕ → Type 0) → Progress m xs given images → Progress m (xs ++ ys) given images
progress_more m xs ys given images p =
    let first : List (List ℕ) = replies m xs in
    let later : List (List ℕ) = replies (machine_after m xs) ys in
    let long : length first ≡ length xs = length_replies m xs in
    let within : p.answered ≤ length first = omega (arith, p.some, long) in
    let taken : take p.answered (replies m (xs ++ ys)) ≡ take p.answered first =
    ap (λ (l : List (List ℕ)). take p.answered l) (replies_append m xs ys) ∙ take-append-le p.answered first later within in
    let dropped : drop p.answered (replies m (xs ++ ys)) ≡ drop p.answered first ++ later =
    ap (λ (l : List (List ℕ)). drop p.answered l) (replies_append m xs ys) ∙ drop-append-le p.answered first later within in
    let P : List (List ℕ) → Type 0 = λ l. IsPartOfFirst l p.part in
    record {
      answered = p.answered;
      part = p.part;
      some = omega (arith, length-append xs ys, p.some);
      given_is = p.given_is ∙ ap (λ (l : List (List ℕ)). concat l ++ p.part) (sym taken);
      started = subst P (sym dropped) (part_more (drop p.answered first) (machine_after m xs) ys p.part p.started);
      stand = λ t h. after_more StandsFor p.answered m xs ys t (p.stand t h);
    }
