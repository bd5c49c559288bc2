use Rattle.std.proofs.Common.{◌<◌, List, map, length, subst, ap, ◌∙◌, arith, rules}
use Rattle.std.proofs.lemmas.List.{length-map}
use Rattle.std.specs.Prelude.{All}
use Rattle.alta_content.specs.Rows.{end_of}
use Rattle.alta_content.specs.declared.document.DocRow.{DocRow}
use Rattle.alta_content.proofs.Levels.{rising_fits}
use Rattle.alta_search.specs.Answers.{answers_in}
use Rattle.alta_search.specs.Told.{rows_at}
use Rattle.alta_search.specs.Walks.{IsPart}
use Rattle.alta_search.proofs.searching.next_picks.Goals as goal

pub collect-requires-clause-past : goal.collect-requires-clause-past
collect-requires-clause-past g c = λ k l. absurd (omega (arith, l, c.walk-walk.ensures.at))

pub returns-clause-picks : goal.returns-clause-picks
returns-clause-picks g c =
    let s = c.args.section.now in let u = c.args.reader.now in let v = c.collect.new.reader in let picked = c.in_ok-picked.picked in let same = c.walk-walk.ensures.rows ∙ c.rows-rows.ensures.value in
    record {
      onward = c.collect.ensures.onward;
      inside = subst (λ (rows : List DocRow). All (λ i. i < length rows) picked.picks.items) same c.in_ok-picked.ensures.inside;
      part = subst (λ gone. IsPart (answers_in u.list gone u.place s.rows) (answers_in u.list gone v.place s.rows) c.args.count (rows_at s.rows picked.picks.items) picked.more v.place) c.gone.ensures.value
          (subst (λ rows. IsPart (answers_in u.list c.gone.result.now u.place rows) (answers_in u.list c.gone.result.now v.place rows) c.args.count (rows_at rows picked.picks.items) picked.more v.place)
          same c.in_ok-picked.ensures.part);
    }

pub returns-in_err-picked-clause-picks : goal.returns-in_err-picked-clause-picks
returns-in_err-picked-clause-picks g c = record { onward = c.collect.ensures.onward; inside = search rules; part = search rules }

pub returns-clause-few : goal.returns-clause-few
returns-clause-few g c =
    omega (arith, rising_fits (map end_of c.rows-rows.result.now) c.rows-rows.ensures.rising, length-map c.rows-rows.result.now end_of, ap length c.rows-rows.ensures.value)
