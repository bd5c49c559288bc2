use Rattle.std.proofs.Common.{ℕ, List, take, ap, ◌∙◌, arith}
use Rattle.alta_codec.specs.declared.extent.Extent.{Extent}
use Rattle.alta_level.proofs.Progress.{behind_row, list_of_row, stream_of_row, summary_of_row}
use Rattle.alta_level.proofs.reading.list_at.Goals as goal

pub split_at-requires : goal.split_at-requires
split_at-requires c =
    let at = ap (λ (e : Extent). e.bytes) c.stream_place.ensures.stream in
    omega (arith, stream_of_row c.args.cursor.now.tables.terms c.args.cursor.now.row c.stream_place.result.0.bytes at)

pub split_at-requires-2 : goal.split_at-requires-2
split_at-requires-2 c =
    let at = ap (λ (e : Extent). e.bytes) c.stream_place.ensures.stream in
    let above = ap (λ (e : Extent). e.bytes) c.stream_place.ensures.summary in
    omega (arith, stream_of_row c.args.cursor.now.tables.terms c.args.cursor.now.row c.stream_place.result.0.bytes at, summary_of_row c.args.cursor.now.tables.terms c.args.cursor.now.row c.stream_place.result.1.bytes above, c.split_at.ensures.back_len)

pub returns : goal.returns
returns c =
    let terms = c.args.cursor.now.tables.terms in
    let row = c.args.cursor.now.row in
    let bytes = c.args.bytes.now in
    let at = ap (λ (e : Extent). e.bytes) c.stream_place.ensures.stream in
    let above = ap (λ (e : Extent). e.bytes) c.stream_place.ensures.summary in
    record {
      list = list_of_row terms row bytes c.args.place c.split_at.result.0.now c.split_at-2.result.0.now c.term.result.now c.stream_place.result.0.bytes c.stream_place.result.1.bytes c.count.result at above c.term.ensures c.count.ensures c.split_at.ensures.front
          (c.split_at-2.ensures.front ∙ ap (λ (x : List ℕ). take c.stream_place.result.1.bytes x) c.split_at.ensures.back);
      behind = behind_row terms row bytes c.split_at.result.1.now c.split_at-2.result.1.now c.stream_place.result.0.bytes c.stream_place.result.1.bytes at above c.split_at.ensures.back c.split_at-2.ensures.back;
    }
