-- Laws of the replies to lines, whatever the disk stands for.
use Rattle.std.proofs.Common.{◌≡◌, ℕ, inl, inr, zero, suc, List, [], ◌∷◌, ◌++◌, length, length-append, take, drop, map, refl, ap, sym, subst, ◌∙◌, append-nil, append_assoc, arith}
use Rattle.std.proofs.lemmas.List.{take_all, take-append-le}
use Rattle.std.proofs.lemmas.List.Elements.{All-head, All-tail}
use Rattle.std.specs.List.{All, concat}
use Rattle.alta_console.specs.Giving.{AllGiven}
use Rattle.alta_console.specs.Lines.{whole}
use Rattle.alta_console.specs.Transcript.{given_in, taken_in, TakesAt}
use Rattle.alta_console.specs.declared.event.Event.{Event}
use Rattle.alta_console.proofs.ReplyLaws.{joined_append}
use Rattle.alta_console.proofs.RunLaws.{given_takes_at, takes_in, takes_later}
use Rattle.alta_console.specs.Replies.{IsPartOfFirst}
use Rattle.alta_machine.specs.Machine.{Machine, step, machine_after, replies}
use Rattle.alta_session.specs.Keeping.{clip}
use Rattle.alta_session.specs.Replied.{AreInTime, AreRepliesTo, IsAnswered}
use Rattle.alta_session.specs.Spending.{MayChange, OnlyReads}
use Rattle.alta_session.proofs.MachineLaws.{clip_first, rest_of, reply_some, step_same}
use Rattle.alta_session.proofs.SpendingLaws.{clip_reads, of_clip}

-- ---- to lines, from a machine on

-- behind lines that were answered
pub replies_on : (m : Machine) (xs ys texts more : List (List ℕ)) (part : List ℕ) → AreRepliesTo m xs texts [] → length texts ≡ length xs → AreRepliesTo (machine_after m xs) ys more part → AreRepliesTo m (xs ++ ys) (texts ++ more) part
replies_on m [] ys [] more part are same later = later
replies_on m [] ys (t ∷ ts) more part are same later = absurd are
replies_on m (x ∷ xs) ys [] more part are same later = absurd (omega (arith, same))
replies_on m (x ∷ xs) ys (t ∷ ts) more part are same later = (are.0, replies_on (step m x).0 xs ys ts more part are.1 (omega (arith, same)) later)

-- of no line anything was given
pub replies_none : (m : Machine) (lines : List (List ℕ)) → AreRepliesTo m lines [] []
replies_none m [] = refl
replies_none m (line ∷ lines) = λ changes. ((step m line).1, refl, reply_some m line)

none_more : (m : Machine) (lines : List (List ℕ)) (part : List ℕ) → part ≡ [] → AreRepliesTo m lines [] part
none_more m lines part none = subst (λ (l : List ℕ). AreRepliesTo m lines [] l) (sym none) (replies_none m lines)

-- with more lines behind
pub replies_more : (m : Machine) (xs ys texts : List (List ℕ)) (part : List ℕ) → AreRepliesTo m xs texts part → AreRepliesTo m (xs ++ ys) texts part
replies_more m [] ys [] part none = none_more m ys part none
replies_more m [] ys (t ∷ ts) part none = absurd none
replies_more m (x ∷ xs) ys [] part are = are
replies_more m (x ∷ xs) ys (t ∷ ts) part are = (are.0, replies_more (step m x).0 xs ys ts part are.1)

-- to lines that are the same up to a clip
reads_same : (x y : List ℕ) → clip x ≡ clip y → OnlyReads y → OnlyReads x
reads_same x y same reads = of_clip x (subst OnlyReads (sym same) (clip_reads y reads))

pub replies_alike : (m : Machine) (xs ys texts : List (List ℕ)) (part : List ℕ) → map clip xs ≡ map clip ys → AreRepliesTo m xs texts part → AreRepliesTo m ys texts part
replies_alike m [] [] texts part same are = are
replies_alike m [] (y ∷ ys) texts part same are = absurd cc
replies_alike m (x ∷ xs) [] texts part same are = absurd cc
replies_alike m (x ∷ xs) (y ∷ ys) [] part same are = λ changes.
    let here = are (λ reads. changes (reads_same y x (sym (clip_first x y xs ys same)) reads)) in
    (here.0, ap (λ (p : Machine × List ℕ). p.1) (sym (step_same m x y (clip_first x y xs ys same))) ∙ here.1, here.2)
replies_alike m (x ∷ xs) (y ∷ ys) (t ∷ ts) part same are = (
  λ changes. are.0 (λ reads. changes (reads_same y x (sym (clip_first x y xs ys same)) reads)) ∙ ap (λ (p : Machine × List ℕ). p.1) (step_same m x y (clip_first x y xs ys same)),
  subst (λ (p : Machine × List ℕ). AreRepliesTo p.0 ys ts part) (step_same m x y (clip_first x y xs ys same)) (replies_alike (step m x).0 xs ys ts part (ap rest_of same) are.1),
)

-- of lines that may each change the index these are the machine's, and the part begins the next one
pub replies_are : (m : Machine) (lines texts : List (List ℕ)) (part : List ℕ) → All MayChange lines → AreRepliesTo m lines texts part → (texts ≡ take (length texts) (replies m lines)) × IsPartOfFirst (drop (length texts) (replies m lines)) part
replies_are m [] [] part all none = (refl, none)
replies_are m [] (t ∷ ts) part all none = absurd none
replies_are m (x ∷ xs) [] part all are = (refl, are (All-head MayChange x xs all))
replies_are m (x ∷ xs) (t ∷ ts) part all are =
    let rest = replies_are (step m x).0 xs ts part (All-tail MayChange x xs all) are.1 in
    (ap (λ (l : List ℕ). l ∷ ts) (are.0 (All-head MayChange x xs all)) ∙ ap (λ (l : List (List ℕ)). (step m x).1 ∷ l) rest.0, rest.1)

-- ---- what was given

-- by texts of all lines, and then of more
pub texts_on : (texts more : List (List ℕ)) (given later part : List ℕ) → given ≡ concat texts → later ≡ concat more ++ part → given ++ later ≡ concat (texts ++ more) ++ part
texts_on texts more given later part one two =
    ap (λ (l : List ℕ). l ++ later) one ∙ ap (λ (l : List ℕ). concat texts ++ l) two ∙ sym (append_assoc (concat texts) (concat more) part) ∙ ap (λ (l : List ℕ). l ++ part) (sym (joined_append texts more))

pub texts_all : (texts more : List (List ℕ)) (given later : List ℕ) → given ≡ concat texts → later ≡ concat more → given ++ later ≡ concat (texts ++ more)
texts_all texts more given later one two = ap (λ (l : List ℕ). l ++ later) one ∙ ap (λ (l : List ℕ). concat texts ++ l) two ∙ sym (joined_append texts more)

-- with texts behind
pub answered_more : (texts more : List (List ℕ)) (events : List Event) → IsAnswered texts events → IsAnswered (texts ++ more) events
answered_more texts more events is = record {
  each_one = omega (arith, is.each_one, length-append texts more);
  given_is = is.given_is ∙ ap concat (sym (take-append-le (length (whole (taken_in events))) texts more is.each_one));
}

-- A run that was in time goes on by a take, and then by gives.
pub in_time_then : (texts more : List (List ℕ)) (run : List Event) (event : Event) (gives : List Event) → AreInTime texts run → length texts ≡ length (whole (taken_in run)) → given_in run ≡ concat texts → AllGiven gives → AreInTime (texts ++ more) (run ++ event ∷ gives)
in_time_then texts more run event gives before long now given k t =
    let P : List Event → Type 0 = λ l. IsAnswered (texts ++ more) l in
    elim (takes_in run (event ∷ gives) k t) [ inl here ↦ subst P (sym here.1) (answered_more texts more (take k run) (before k here.0)) | inr there ↦ subst P (sym there.2) (at_event there.0 there.1) ]
  where
    here_now : IsAnswered texts run
    here_now = record {
      each_one = omega (arith, long);
      given_is = now ∙ ap concat (sym (take_all (length (whole (taken_in run))) texts (omega (arith, long))));
    }

    at_event : (j : ℕ) → TakesAt (event ∷ gives) j → IsAnswered (texts ++ more) (run ++ take j (event ∷ gives))
    at_event zero t = subst (λ (l : List Event). IsAnswered (texts ++ more) l) (sym (append-nil run)) (answered_more texts more run here_now)
    at_event (suc j) t = absurd (given_takes_at gives j given (takes_later event gives j t))
