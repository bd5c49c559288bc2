-- The documents that the lines of a dump add answer as those that were dumped.
use Rattle.std.proofs.Common.{◌≡◌, ℕ, zero, suc, ◌+◌, List, [], ◌∷◌, get_or, map, Bool, true, false, cond, refl, sym, ap, subst, ◌∙◌, inl, inr}
use Rattle.std.specs.Prelude.{IsSome}
use Rattle.std.specs.List.{All}
use Rattle.std.proofs.lemmas.Bool.{eqb-false}
use Rattle.std.proofs.lemmas.List.Elements.{All-head, All-tail}
use Rattle.alta_machine.specs.Cells.{cell_holds, cell_begins}
use Rattle.alta_machine.specs.States.{name_of}
use Rattle.alta_machine.specs.declared.document.Document.{Document}
use Rattle.alta_machine.specs.declared.kinds.TheConstants.{WORD, WRITTEN, NAME, TITLE_END}
use Rattle.alta_machine.specs.Deciding.{answers, is_match}
use Rattle.alta_machine.specs.Shape.{Shape}
use Rattle.alta_machine.specs.declared.test.Test.{Test}
use Rattle.alta_machine.specs.declared.test.Test.TheVariants.{Is, Begins}
use Rattle.alta_dump.specs.Asked.{HasTests, IsForFolding, AsksForFoldings}
use Rattle.alta_machine.specs.Dumps.{added_from}
use Rattle.alta_dump.specs.Names.{HasItsName}
use Rattle.alta_machine.specs.DumpLines.{title_text, body_text, cells_again, line_of, IsLineOf}
use Rattle.alta_machine.specs.Plain.{of_kind, ends_title}
use Rattle.alta_dump.proofs.Decided.{has_some}
use Rattle.alta_dump.proofs.OfKind.{holds_same, begins_same}
use Rattle.alta_dump.proofs.Named.{added_has_its_name, same_names}
use Rattle.alta_dump.proofs.AskedTests.{IsAsked}
use Rattle.alta_dump.proofs.Matching.{MeetsAlike, match_same, both_have}

at_place : {B : Type 0} (f : List (List ℕ) → B) (xs ys : List (List (List ℕ))) → map f xs ≡ map f ys → (place : ℕ) → f (get_or xs place []) ≡ f (get_or ys place [])
at_place f xs ys e place = sym (mapped xs place) ∙ ap (λ l. get_or l place (f [])) e ∙ mapped ys place
  where
    mapped : (cells : List (List (List ℕ))) (n : ℕ) → get_or (map f cells) n (f []) ≡ f (get_or cells n [])
    mapped [] n = refl
    mapped (cell ∷ cells) zero = refl
    mapped (cell ∷ cells) (suc n) = mapped cells n

-- what the cells of a document and those of its line have in common, place by place
record AgreesAt (xs ys : List (List (List ℕ))) (place : ℕ) : Type 0 where
  words : of_kind WORD (get_or xs place []) ≡ of_kind WORD (get_or ys place [])
  names : of_kind NAME (get_or xs place []) ≡ of_kind NAME (get_or ys place [])
  title_ends : ends_title (get_or xs place []) ≡ ends_title (get_or ys place [])

agrees : (d : Document) (line : List ℕ) → IsLineOf d line → HasItsName d → (place : ℕ) → AgreesAt (cells_again d) d.cells place
agrees d line is named place =
    let again = added_has_its_name 0 d.name (title_text d.cells) (body_text d.cells) in
    record {
      words = at_place (of_kind WORD) (cells_again d) d.cells is.words place;
      names = same_names d.name (cells_again d) d.cells again.first again.others named.first named.others place;
      title_ends = at_place ends_title (cells_again d) d.cells is.title_ends place;
    }

meets_alike : (xs ys : List (List (List ℕ))) → ((place : ℕ) → AgreesAt xs ys place) → (test : Test) → IsAsked test → IsForFolding test → MeetsAlike xs ys test
meets_alike xs ys at (Is []) asked folding = absurd asked
meets_alike xs ys at (Is (kind ∷ rest)) (inl (inl e)) folding = λ place.
    subst (λ (k : ℕ). cell_holds (k ∷ rest) (get_or xs place []) ≡ cell_holds (k ∷ rest) (get_or ys place [])) (sym e)
    (holds_same WORD rest (get_or xs place []) (get_or ys place []) (at place).words)
meets_alike xs ys at (Is (kind ∷ rest)) (inl (inr e)) folding = absurd (eqb-false kind WRITTEN folding e)
meets_alike xs ys at (Is (kind ∷ rest)) (inr (inl e)) folding = λ place.
    subst (λ (k : ℕ). cell_holds (k ∷ rest) (get_or xs place []) ≡ cell_holds (k ∷ rest) (get_or ys place [])) (sym e)
    (holds_same NAME rest (get_or xs place []) (get_or ys place []) (at place).names)
meets_alike xs ys at (Is (kind ∷ rest)) (inr (inr (e, none))) folding = λ place.
    subst (λ (k : ℕ). cell_holds (k ∷ rest) (get_or xs place []) ≡ cell_holds (k ∷ rest) (get_or ys place [])) (sym e)
    (subst (λ (r : List ℕ). cell_holds (TITLE_END ∷ r) (get_or xs place []) ≡ cell_holds (TITLE_END ∷ r) (get_or ys place [])) (sym none) (at place).title_ends)
meets_alike xs ys at (Begins []) asked folding = absurd asked
meets_alike xs ys at (Begins (kind ∷ rest)) (inl e) folding = λ place.
    subst (λ (k : ℕ). cell_begins (k ∷ rest) (get_or xs place []) ≡ cell_begins (k ∷ rest) (get_or ys place [])) (sym e)
    (begins_same WORD rest (get_or xs place []) (get_or ys place []) (at place).words)
meets_alike xs ys at (Begins (kind ∷ rest)) (inr e) folding = absurd (eqb-false kind WRITTEN folding e)

match_again : (d : Document) (q : Shape) → IsSome (line_of d) → HasItsName d → HasTests IsAsked q → AsksForFoldings q → is_match (cells_again d) q ≡ is_match d.cells q
match_again d q some named asked folding =
    let line = has_some d some in
    match_same (cells_again d) d.cells line.1.as_many q
    (both_have IsAsked IsForFolding (MeetsAlike (cells_again d) d.cells) (meets_alike (cells_again d) d.cells (agrees d line.0 line.1 named)) q asked folding)

kept_alike : (p q : Document) → p.name ≡ q.name → (b c : Bool) → b ≡ c → (ps qs : List Document) → map name_of ps ≡ map name_of qs
    → map name_of (cond b (p ∷ ps) ps) ≡ map name_of (cond c (q ∷ qs) qs)
kept_alike p q same b c e ps qs rest = subst (λ (c' : Bool). map name_of (cond b (p ∷ ps) ps) ≡ map name_of (cond c' (q ∷ qs) qs)) e (both b)
  where
    both : (b : Bool) → map name_of (cond b (p ∷ ps) ps) ≡ map name_of (cond b (q ∷ qs) qs)
    both true = λ i. same i ∷ rest i
    both false = rest

pub answers_again : (number : ℕ) (ds : List Document) (q : Shape) → All (λ d. IsSome (line_of d)) ds → All HasItsName ds → HasTests IsAsked q → AsksForFoldings q
    → map name_of (answers (added_from number ds) q) ≡ map name_of (answers ds q)
answers_again number [] q lines named asked folding = refl
answers_again number (d ∷ ds) q lines named asked folding =
    kept_alike (record { number = number; name = d.name; cells = cells_again d }) d refl (is_match (cells_again d) q) (is_match d.cells q)
    (match_again d q (All-head (λ d. IsSome (line_of d)) d ds lines) (All-head HasItsName d ds named) asked folding)
    (answers (added_from (number + 1) ds) q) (answers ds q)
    (answers_again (number + 1) ds q (All-tail (λ d. IsSome (line_of d)) d ds lines) (All-tail HasItsName d ds named) asked folding)
