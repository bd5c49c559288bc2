-- Terms that are text, from the tests to the query.
use Rattle.std.proofs.Common.{◌≡◌, ℕ, List, [], ◌∷◌, ◌++◌, subst, ◌<◌, Bool, true, false, Option, Some, None, Result, Ok, Err, IfOk, arith, lit<}
use Rattle.std.specs.List.{All}
use Rattle.std.specs.Str.{IsUtf8}
use Rattle.std.proofs.lemmas.List.Elements.{All-nil, All-cons, All-push, All-tail}
use Rattle.std.proofs.lemmas.Str.{IsUtf8-append, IsUtf8-from_ascii, IsUtf8-nil}
use Rattle.std.proofs.lemmas.Str.Ascii.{IsAscii-from_all}
use Rattle.alta_machine.specs.declared.kinds.TheConstants.{NAME, TITLE_END}
use Rattle.alta_query.specs.Answer.{Gives}
use Rattle.alta_machine.specs.QueryFaults.{Mode, expects, has, beside, behind_near, end_cause}
use Rattle.alta_machine.specs.Parser.{Frame, not_frame, paren_frame, Parsing, start, wrapped, unwrapped, give, whole, close, put, put_last, operand_step, after_token, run, or_fault, marks}
use Rattle.alta_machine.specs.Patterns.{Pattern, titled, title_end, phrase_pattern}
use Rattle.alta_machine.specs.Shape.{Lone, prefix, Atom, lone, Shape, atom, all, any, negated, shapes_of, all_of, any_of}
use Rattle.alta_query.specs.Texts.{HasTextTerm, AsksForText, HasTextTerms, HaveTextTerms, IsTextFrame, IsTextState, made_of, AddsText}
use Rattle.alta_machine.specs.Token.{Token, open_paren, close_paren, and_word, or_word, not_word, near_word, operand, faulty}
use Rattle.alta_machine.specs.Words.{name_test}
use Rattle.alta_machine.specs.declared.cause.Cause.{Cause}
use Rattle.alta_query.specs.declared.fault.QueryFault.{QueryFault}
use Rattle.alta_query.specs.declared.query.Query.{Query}
use Rattle.alta_machine.specs.declared.test.Test.{Test}
use Rattle.alta_query.specs.View.{shape}

one_byte : (b : ℕ) → b < 128 → IsUtf8 (b ∷ [])
one_byte b low = IsUtf8-from_ascii (b ∷ []) (IsAscii-from_all (b ∷ []) (All-cons (λ c. c < 128) b [] low (All-nil _)))

-- a term of a kind with a text behind it
pub term_text : (kind : ℕ) (rest : List ℕ) → kind < 128 → IsUtf8 rest → IsUtf8 (kind ∷ rest)
term_text kind rest low text = IsUtf8-append (kind ∷ []) rest (one_byte kind low) text

one_test : (t : Test) → HasTextTerm t → All HasTextTerm (t ∷ [])
one_test t h = All-cons HasTextTerm t [] h (All-nil _)

pub name_text : (name : List ℕ) → IsUtf8 name → All HasTextTerm (name_test name ∷ [])
name_text name h = one_test (name_test name) (term_text NAME name (lit< tt) h)

pub titled_text : (title : Bool) (p : Pattern) → All HasTextTerm p.tests → All HasTextTerm (titled title p).tests
titled_text true p h = All-push HasTextTerm p.tests title_end h (term_text TITLE_END [] (lit< tt) (IsUtf8-nil))
titled_text false p h = h

pub prefix_text : (title : Bool) (text : List ℕ) (t : Test) → HasTextTerm t → AsksForText (lone (prefix title text t))
prefix_text title text t h = titled_text title (phrase_pattern (t ∷ [])) (one_test t h)

pub two_tests : (t u : Test) → HasTextTerm t → HasTextTerm u → All HasTextTerm (t ∷ u ∷ [])
two_tests t u h k = All-cons HasTextTerm t (u ∷ []) h (one_test u k)

shapes_text : (qs : List Shape) → All HasTextTerms qs → HaveTextTerms (shapes_of qs)
shapes_text [] h = tt
shapes_text (q ∷ qs) h = (h 0 q (omega arith), shapes_text qs (All-tail HasTextTerms q qs h))

pub all_of_text : (qs : List Shape) → All HasTextTerms qs → HasTextTerms (all_of qs)
all_of_text [] h = tt
all_of_text (q ∷ []) h = h 0 q (omega arith)
all_of_text (q ∷ r ∷ qs) h = shapes_text (q ∷ r ∷ qs) h

pub any_of_text : (qs : List Shape) → All HasTextTerms qs → HasTextTerms (any_of qs)
any_of_text [] h = tt
any_of_text (q ∷ []) h = h 0 q (omega arith)
any_of_text (q ∷ r ∷ qs) h = shapes_text (q ∷ r ∷ qs) h

whole_text : (ors ands : List Shape) → All HasTextTerms ors → All HasTextTerms ands → HasTextTerms (whole ors ands)
whole_text ors ands h k = any_of_text (ors ++ all_of ands ∷ []) (All-push HasTextTerms ors (all_of ands) h (all_of_text ands k))

wrapped_text : (fs : List Frame) (q : Shape) → HasTextTerms q → HasTextTerms (wrapped fs q)
wrapped_text [] q h = h
wrapped_text (not_frame ∷ fs) q h = wrapped_text fs (negated q) h
wrapped_text (paren_frame o a ∷ fs) q h = h

unwrapped_text : (fs : List Frame) → All IsTextFrame fs → All IsTextFrame (unwrapped fs)
unwrapped_text [] h = h
unwrapped_text (not_frame ∷ fs) h = unwrapped_text fs (All-tail IsTextFrame not_frame fs h)
unwrapped_text (paren_frame o a ∷ fs) h = h

give_text : (m : Mode) (q : Shape) (ors ands : List Shape) (fs : List Frame) (n : ℕ) → HasTextTerms q → All HasTextTerms ors → All HasTextTerms ands → All IsTextFrame fs
    → IsTextState (give m q ors ands fs n)
give_text m q ors ands fs n h o a f =
    record { ors = o; ands = All-push HasTextTerms ands (wrapped fs q) a (wrapped_text fs q h); frames = unwrapped_text fs f }

close_text : (q : Shape) (fs : List Frame) (n : ℕ) → HasTextTerms q → All IsTextFrame fs → IsTextState (close q fs n)
close_text q [] n h f = record { ors = All-nil _; ands = All-nil _; frames = All-nil _ }
close_text q (not_frame ∷ fs) n h f = close_text q fs n h (All-tail IsTextFrame not_frame fs f)
close_text q (paren_frame o a ∷ fs) n h f =
    let here : IsTextFrame (paren_frame o a) = f 0 (paren_frame o a) (omega arith) in
    give_text has q o a fs n h here.0 here.1 (All-tail IsTextFrame (paren_frame o a) fs f)

put_text : (a : Atom) (q : Shape) → AsksForText a → HasTextTerms q → HasTextTerms (put a q)
put_text a (atom b) h k = h
put_text a (all qs) h k = k
put_text a (any qs) h k = k
put_text a (negated q) h k = put_text a q h k

put_last_text : (a : Atom) (qs : List Shape) → AsksForText a → All HasTextTerms qs → All HasTextTerms (put_last a qs)
put_last_text a [] h k = k
put_last_text a (q ∷ []) h k = All-cons HasTextTerms (put a q) [] (put_text a q h (k 0 q (omega arith))) (All-nil _)
put_last_text a (q ∷ r ∷ qs) h k =
    All-cons HasTextTerms q (put_last a (r ∷ qs)) (k 0 q (omega arith)) (put_last_text a (r ∷ qs) h (All-tail HasTextTerms q (r ∷ qs) k))

operand_text : (m : Mode) (s : Parsing) (a : Lone) → AsksForText (made_of m a) → IsTextState s → IsTextState (operand_step m s a)
operand_text expects s a h k = give_text _ (atom (lone a)) s.ors s.ands s.frames _ h k.ors k.ands k.frames
operand_text has s a h k = give_text _ (atom (lone a)) s.ors s.ands s.frames _ h k.ors k.ands k.frames
operand_text (beside l) s a h k = give_text _ (atom (lone a)) s.ors s.ands s.frames _ h k.ors k.ands k.frames
operand_text (behind_near l n) s a h k = record { ors = k.ors; ands = put_last_text (made_of (behind_near l n) a) s.ands h k.ands; frames = k.frames }

pub step_text : (s : Parsing) (t : Token) → AddsText s.mode t → IsTextState s → IsTextState (after_token s t)
step_text s open_paren h k =
    record { ors = All-nil _; ands = All-nil _; frames = All-cons IsTextFrame (paren_frame s.ors s.ands) s.frames (k.ors, k.ands) k.frames }
step_text s close_paren h k = close_text (whole s.ors s.ands) s.frames _ (whole_text s.ors s.ands k.ors k.ands) k.frames
step_text s and_word h k = record { ors = k.ors; ands = k.ands; frames = k.frames }
step_text s or_word h k = record { ors = All-push HasTextTerms s.ors (all_of s.ands) k.ors (all_of_text s.ands k.ands); ands = All-nil _; frames = k.frames }
step_text s not_word h k = record { ors = k.ors; ands = k.ands; frames = All-cons IsTextFrame not_frame s.frames tt k.frames }
step_text s (near_word n) h k = record { ors = k.ors; ands = k.ands; frames = k.frames }
step_text s (operand a) h k = operand_text s.mode s a h k
step_text s (faulty c) h k = record { ors = k.ors; ands = k.ands; frames = k.frames }

pub start_text : IsTextState start
start_text = record { ors = All-nil _; ands = All-nil _; frames = All-nil _ }

read_from : (p : ℕ) (o : Option Cause) (q r : Shape) → or_fault p o (Ok q) ≡ Ok r → q ≡ r
read_from p None q r h = cc h
read_from p (Some c) q r h = absurd (cc h)

-- what is read of a state, at the end of the text
pub finish_text : (r : Result Query QueryFault) (s : Parsing) (e : ℕ) → Gives r (run s [] e) → IsTextState s → IfOk r (λ q. HasTextTerms (shape q))
finish_text (Err f) s e h k = tt
finish_text (Ok q) s e h k =
    subst HasTextTerms (read_from e (end_cause s.mode (marks s.frames)) (whole s.ors s.ands) (shape q) h) (whole_text s.ors s.ands k.ors k.ands)
