-- What is given back at the end of a text, or where memory ran out.
use Rattle.std.proofs.Common.{◌≡◌, ℕ, ◌+◌, List, [], ◌∷◌, ◌++◌, length, refl, arith, sym, ap, ◌∙◌, Bool, Option, Some, None, Result, Ok, Err, map, inl}
use Rattle.std.specs.Prelude.{nat_eq, not, OnOk}
use Rattle.std.specs.Result.{IsErr, IsErrAnd}
use Rattle.std.proofs.lemmas.List.{map-append}
use Rattle.alta_query.specs.Answer.{Gives, IsMemory}
use Rattle.alta_machine.specs.QueryFaults.{Fault, fault, any_open, has}
use Rattle.alta_query.specs.Kept.{frames_of}
use Rattle.alta_machine.specs.Parser as machine
use Rattle.alta_machine.specs.Parser.{Parsing, marks, or_fault, whole, close}
use Rattle.alta_machine.specs.Shape.{Shape, all_of, any_of}
use Rattle.alta_query.specs.View.{shape}
use Rattle.alta_machine.specs.declared.cause.Cause.{Cause}
use Rattle.alta_query.specs.declared.fault.QueryFault.{QueryFault}
use Rattle.alta_query.specs.declared.machine.Frame.{Frame}
use Rattle.alta_query.specs.declared.query.Query.{Query}
use Rattle.alta_query.proofs.Frames.{marks_open}

pub ran_out : (r : Result Query QueryFault) (read : Result Shape Fault) → IsErrAnd r IsMemory → Gives r read
ran_out (Ok q) read h = absurd h
ran_out (Err e) read h = inl h

-- after an error nothing is promised of what was changed
pub unchanged : {T E : Type 0} (r : Result T E) (A : Type 0) → IsErr r → OnOk r A
unchanged (Ok x) A h = absurd (cc)
unchanged (Err e) A h = tt

pub any_left : (xs : List Frame) (none : Bool) (n : ℕ) → none ≡ nat_eq n 0 → n ≡ length xs → not none ≡ any_open (marks (frames_of xs))
any_left xs none n e len = ap not (e ∙ ap (λ k. nat_eq k 0) len) ∙ sym (marks_open xs)

pub faulted : (p : ℕ) (c : Cause) (o : Option Cause) (later : Result Shape Fault) → Some c ≡ o → or_fault p o later ≡ Err (fault p c)
faulted p c o later e = ap (λ x. or_fault p x later) (sym e)

pub faultless : (p : ℕ) (o : Option Cause) (later : Result Shape Fault) → None ≡ o → or_fault p o later ≡ later
faultless p o later e = ap (λ x. or_fault p x later) (sym e)

-- an and is pushed behind the members of an or
pub and_pushed : (ors ands new : List Query) (l : Query) → shape l ≡ all_of (map shape ands) → new ≡ ors ++ l ∷ [] → map shape new ≡ map shape ors ++ all_of (map shape ands) ∷ []
and_pushed ors ands new l e f = ap (map shape) f ∙ map-append shape ors (l ∷ []) ∙ ap (λ x. map shape ors ++ x ∷ []) e

pub whole_made : (ors ands new : List Query) (l q : Query) → shape l ≡ all_of (map shape ands) → new ≡ ors ++ l ∷ [] → shape q ≡ any_of (map shape new) → shape q ≡ whole (map shape ors) (map shape ands)
whole_made ors ands new l q e f g = g ∙ ap any_of (and_pushed ors ands new l e f)

-- a `)` behind the last member of an or
pub closed : (ors ands : List Query) (q : Query) (fs : List machine.Frame) (w : ℕ) (s : Parsing) → shape q ≡ whole (map shape ors) (map shape ands) → close (shape q) fs w ≡ s → close (whole (map shape ors) (map shape ands)) fs (w + 0) ≡ s
closed ors ands q fs w s e h =
    let zero : w + 0 ≡ w = omega arith in
    ap (λ k. close (whole (map shape ors) (map shape ands)) fs k) zero ∙ ap (λ x. close x fs w) (sym e) ∙ h

-- a `)` where nothing is open
pub close_none : (q : Shape) (ors ands : List Query) (xs : List Frame) (n : ℕ) → ors ≡ [] → ands ≡ [] → xs ≡ [] → close q [] n ≡ record { mode = has; ors = map shape ors; ands = map shape ands; frames = frames_of xs; words = n }
close_none q ors ands xs n no_ors no_ands none = rw (no_ors, no_ands, none) refl
