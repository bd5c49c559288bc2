-- The ranges of documents and their runs, by index.
use Rattle.std.proofs.Common.{◌≡◌, ⊎_elim, ℕ, ◌<◌, ◌≤◌, List, length, get_or, ap, arith}
use Rattle.std.proofs.lemmas.Bool.{cases_lt}
use Rattle.std.proofs.lemmas.List.{length-map}
use Rattle.alta_content.specs.declared.document.DocRow.{DocRow}
use Rattle.alta_content.specs.Rows.{AreDocuments, end_of}
use Rattle.alta_content.specs.Runs.{AreRunsOf, IsInRun, RunsRise}
use Rattle.alta_level.specs.Stored.{AreApart}
use Rattle.alta_content.proofs.Apart.{behind, ends_rise}

-- a location below the first run that reaches it is in none
pub between : (firsts ends : List ℕ) (run location : ℕ) → RunsRise firsts ends → run < length ends
    → ((i : ℕ) → i < run → get_or ends i 0 < location) → location < get_or firsts run 0 → location ≤ get_or ends run 0
    → IsInRun firsts ends location → ⊥
between firsts ends run location a l before low to r =
    ⊎_elim (λ w. omega (arith, before r.run w, r.to))
    (λ g. ⊎_elim (λ w. omega (arith, a.apart run r.run w r.within, r.from, to)) (λ h. let e : r.run ≡ run = omega (arith, g, h) in omega (arith, r.from, low, ap (λ i. get_or firsts i 0) e)) (cases_lt run r.run))
    (cases_lt r.run run)

pub apart_from : (rows : List DocRow) → AreDocuments rows → AreApart rows
apart_from rows h = record { rising = ends_rise rows h; apart = behind rows h }

-- the runs of documents rise
pub runs_rise : (documents : List DocRow) (firsts ends : List ℕ) → AreDocuments documents → AreRunsOf documents firsts ends → RunsRise firsts ends
runs_rise documents firsts ends d runs = record {
  paired = runs.paired;
  rising = runs.rising;
  apart = runs.apart (λ i j w l. behind documents d i j w (omega (arith, l, length-map documents end_of)));
}
