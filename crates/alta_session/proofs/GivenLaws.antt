-- Laws of what was given, where it is all replies.
use Rattle.std.proofs.Common.{◌≡◌, ℕ, ◌<◌, List, [], ◌∷◌, ◌++◌, length, refl, ap, sym, ◌∙◌, append-nil, length-append, arith}
use Rattle.std.specs.List.{concat}
use Rattle.alta_console.proofs.ReplyLaws.{joined_append}
use Rattle.alta_machine.specs.Machine.{Machine, step, machine_after, replies}
use Rattle.alta_session.specs.Progress.{Progress}
use Rattle.alta_session.proofs.MachineLaws.{replies_append, reply_some}
use Rattle.alta_session.proofs.ProgressLaws.{progress_begins}

abbrev tail_of : List ℕ → List ℕ
tail_of [] = []
tail_of (x ∷ xs) = xs

same_behind : (front xs ys : List ℕ) → front ++ xs ≡ front ++ ys → xs ≡ ys
same_behind [] xs ys is = is
same_behind (x ∷ front) xs ys is = same_behind front xs ys (ap tail_of is)

-- what is given behind the replies to the first lines is the replies to the others
pub given_behind : (m : Machine) (xs ys : List (List ℕ)) (first given : List ℕ) → first ≡ concat (replies m xs) → first ++ given ≡ concat (replies m (xs ++ ys)) → given ≡ concat (replies (machine_after m xs) ys)
given_behind m xs ys first given is all =
    same_behind (concat (replies m xs)) given (concat (replies (machine_after m xs) ys))
    (sym (ap (λ (l : List ℕ). l ++ given) is) ∙ all ∙ ap concat (replies_append m xs ys) ∙ joined_append (replies m xs) (replies (machine_after m xs) ys))

-- no line has no reply
none_long : (m : Machine) (lines : List (List ℕ)) → length (concat (replies m lines)) ≡ 0 → lines ≡ []
none_long m [] is = refl
none_long m (line ∷ lines) is = absurd (omega (arith, is, length-append (step m line).1 (concat (replies (step m line).0 lines)), reply_some m line))

pub none_given : (m : Machine) (lines : List (List ℕ)) → concat (replies m lines) ≡ [] → lines ≡ []
none_given m lines is = none_long m lines (ap length is)

-- less than a whole reply is not all
pub given_less : (m : Machine) (line part left : List ℕ) → (step m line).1 ≡ part ++ left → 0 < length left → part ≡ concat (replies m (line ∷ [])) → ⊥
given_less m line part left whole some all = omega (arith, ap length (all ∙ append-nil (step m line).1), ap length whole, length-append part left, some)

-- what begins the replies to some lines is not the replies to more
pub none_behind : (m : Machine) (xs ys : List (List ℕ)) (given : List ℕ) (images : List ℕ → Type 0) → Progress m xs given images → given ≡ concat (replies m (xs ++ ys)) → ys ≡ []
none_behind m xs ys given images p all =
    let begins = progress_begins m xs given images p in
    none_long (machine_after m xs) ys
    (omega (arith, ap length (all ∙ ap concat (replies_append m xs ys) ∙ joined_append (replies m xs) (replies (machine_after m xs) ys)), length-append (concat (replies m xs)) (concat (replies (machine_after m xs) ys)), ap length begins.1, length-append given begins.0))
