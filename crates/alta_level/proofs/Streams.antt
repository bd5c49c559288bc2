-- Rows of blocks, and bytes behind other bytes.
use Rattle.std.proofs.Common.{◌≡◌, ℕ, ◌+◌, List, ◌++◌, length, get_or, ap, ◌∙◌, arith, length-append}
use Rattle.std.proofs.lemmas.List.{get_or-append-add}
use Rattle.alta_codec.proofs.Numerals.{AreBytes}
use Rattle.alta_postings.specs.declared.summary.Row.{Row}

-- a row by its fields
pub row_ext : (row : Row) (first last place : ℕ) → row.first ≡ first → row.last ≡ last → row.place ≡ place → row ≡ record { first = first; last = last; place = place }
row_ext row first last place a b c =
    let f : ℕ → Row = λ x. record { first = x; last = row.last; place = row.place } in
    let g : ℕ → Row = λ x. record { first = first; last = x; place = row.place } in
    let h : ℕ → Row = λ x. record { first = first; last = last; place = x } in
    ap f a ∙ ap g b ∙ ap h c

-- bytes behind other bytes are bytes
pub behind_are_bytes : (old s new : List ℕ) → new ≡ old ++ s → AreBytes new → AreBytes s
behind_are_bytes old s new e are i l =
    omega (arith, get_or-append-add old s i 0, ap (λ t. get_or t (length old + i) 0) e, are (length old + i) (omega (arith, ap length e, length-append old s)))
