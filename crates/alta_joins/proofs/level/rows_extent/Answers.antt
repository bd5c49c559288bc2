use Rattle.std.proofs.Common.{◌≡◌, ◌+◌, ◌-◌, ℕ, suc, take, ap, arith}
use Rattle.std.specs.List.{sum_by}
use Rattle.alta_codec.specs.declared.extent.Extent.{Extent}
use Rattle.alta_joins.proofs.ReadRows.{place_behind}
use Rattle.alta_joins.proofs.RowSteps.{data_next}
use Rattle.alta_table.specs.Tables.{Tables}
use Rattle.alta_table.specs.Terms.{data_of}
use Rattle.alta_joins.proofs.level.rows_extent.Goals as goal

pub returns-clause-bytes : goal.returns-clause-bytes
returns-clause-bytes c =
    let level : Tables = c.args.level.now in
    let i : ℕ = c.args.to - 1 in
    let last : Extent = c.stream_place-2.result.1 in
    let end : c.in-Some.end ≡ last.place + last.bytes = c.in-Some.ensures.1 in
    let one : suc i ≡ c.args.to = omega (arith, c.requires.some) in
    let all = ap (λ (k : ℕ). sum_by data_of (take k level.terms)) one in
    omega (
      arith,
      end,
      all,
      data_next level.terms i (omega (arith, one, c.requires.within)),
      place_behind level c.args.from c.args.to (omega (arith, c.requires.some)),
      ap (λ (e : Extent). e.place) c.stream_place.ensures.stream,
      ap (λ (e : Extent). e.place) c.stream_place-2.ensures.summary,
      ap (λ (e : Extent). e.bytes) c.stream_place-2.ensures.summary,
    )

pub overflow_sub-result : goal.overflow_sub-result
overflow_sub-result c =
    let level : Tables = c.args.level.now in
    let i : ℕ = c.args.to - 1 in
    let last : Extent = c.stream_place-2.result.1 in
    let end : c.in-Some.end ≡ last.place + last.bytes = c.in-Some.ensures.1 in
    let one : suc i ≡ c.args.to = omega (arith, c.requires.some) in
    let all = ap (λ (k : ℕ). sum_by data_of (take k level.terms)) one in
    omega (
      arith,
      end,
      all,
      data_next level.terms i (omega (arith, one, c.requires.within)),
      place_behind level c.args.from c.args.to (omega (arith, c.requires.some)),
      ap (λ (e : Extent). e.place) c.stream_place.ensures.stream,
      ap (λ (e : Extent). e.place) c.stream_place-2.ensures.summary,
      ap (λ (e : Extent). e.bytes) c.stream_place-2.ensures.summary,
    )
