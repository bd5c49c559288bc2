-- Laws of giving.
use Rattle.std.proofs.Common.{◌≡◌, ℕ, ◌+◌, ◌-◌, ◌<◌, List, [], ◌∷◌, ◌++◌, length, take, drop, Option, refl, ap, sym, subst, ◌∙◌, append-nil, arith}
use Rattle.std.proofs.lemmas.List.{take-append-drop, length-drop}
use Rattle.std.proofs.Math.Seq.{take-add, take-length}
use Rattle.alta_console.specs.declared.event.Event.{Event}
use Rattle.alta_console.specs.declared.event.Event.TheVariants.{Taken, Ended, Given}
use Rattle.alta_console.specs.Transcript.{given_in, Grows}
use Rattle.alta_console.proofs.Laws.{given_in_append, grows_none, grows_on}
use Rattle.alta_console.specs.Giving.{AllGiven, Gives, GivesPart}

pub all_given_append : (xs ys : List Event) → AllGiven xs → AllGiven ys → AllGiven (xs ++ ys)
all_given_append [] ys p q = q
all_given_append (Given piece ∷ xs) ys p q = all_given_append xs ys p q
all_given_append (Taken piece ∷ xs) ys p q = p
all_given_append (Ended ∷ xs) ys p q = p

pub gives_none : (told : Option (List Event)) → Gives told told []
gives_none told = ([], grows_none told, tt, refl)

pub gives_on : (a b c : Option (List Event)) (x y : List ℕ) → Gives a b x → Gives b c y → Gives a c (x ++ y)
gives_on a b c x y p q = (
  p.0 ++ q.0,
  grows_on a b c p.0 q.0 p.1 q.1,
  all_given_append p.0 q.0 p.2 q.2,
  given_in_append p.0 q.0 ∙ ap (λ (l : List ℕ). l ++ given_in q.0) p.3 ∙ ap (λ (l : List ℕ). x ++ l) q.3,
)

-- one piece given
pub gives_piece : (a b : Option (List Event)) (piece : List ℕ) → Grows a b (Given piece ∷ []) → Gives a b piece
gives_piece a b piece grown = (Given piece ∷ [], grown, tt, append-nil piece)

-- the end of a slice from an index
pub end_from : (bytes : List ℕ) (at : ℕ) → take (length bytes - at) (drop at bytes) ≡ drop at bytes
end_from bytes at = ap (λ (n : ℕ). take n (drop at bytes)) (sym (length-drop at bytes)) ∙ take-length (drop at bytes)

-- what a loop that gives at an index has given, one piece later
pub gives_more : (a b c : Option (List Event)) (bytes : List ℕ) (sent n : ℕ) → Gives a b (take sent bytes) → Grows b c (Given (take n (take (length bytes - sent) (drop sent bytes))) ∷ []) → Gives a c (take (sent + n) bytes)
gives_more a b c bytes sent n gave grown =
    let P : List ℕ → Type 0 = λ given. Gives a c given in
    let Q : List ℕ → Type 0 = λ piece. Gives b c (take n piece) in
    subst P (sym (take-add sent n bytes)) (gives_on a b c (take sent bytes) (take n (drop sent bytes)) gave (subst Q (end_from bytes sent) (gives_piece b c _ grown)))

-- where it stops with bytes left
pub gives_part : (a b c : Option (List Event)) (bytes : List ℕ) (sent : ℕ) → sent < length bytes → Gives a b (take sent bytes) → c ≡ b → GivesPart a c bytes
gives_part a b c bytes sent l gave same =
    let P : Option (List Event) → Type 0 = λ told. Gives a told (take sent bytes) in
    (take sent bytes, drop sent bytes, sym (take-append-drop sent bytes), omega (arith, length-drop sent bytes), subst P (sym same) gave)
