use Rattle.std.proofs.Common.{◌≡◌, ℕ, List, ◌++◌, subst, sym, ap, ◌∙◌, append-nil, arith}
use Rattle.alta_postings.proofs.Reading.{spelling_reads}
use Rattle.alta_postings.specs.declared.summary.Row.{Row}
use Rattle.alta_postings.specs.Table.{AreRows}
use Rattle.alta_level.specs.Coded.{blocks_of}
use Rattle.alta_level.proofs.Coded.{blocks_rise, built_summary, short_summary}
use Rattle.alta_level.proofs.StreamGaps.{gaps_spell}
use Rattle.alta_level.proofs.Streams.{behind_are_bytes}
use Rattle.alta_level.proofs.writing.put_summary.Goals as goal

pub returns-then-list-le64 : goal.returns-then-list-le64
returns-then-list-le64 c = λ locations rising are.
    let old = c.args.out.now.items in
    sym (ap (λ (t : List ℕ). old ++ t) (short_summary locations (omega (arith, c.if-list-le64.true, are.counted))) ∙ append-nil old)

pub read_rows-requires : goal.read_rows-requires
read_rows-requires c = (spelling_reads c.args.list.gaps.now c.requires.0 (gaps_spell c.args.list.gaps.now c.requires.0 c.args.list.count c.requires.1 c.requires.2)).0

pub build-requires : goal.build-requires
build-requires c =
    let gaps = c.args.list.gaps.now in
    let read = (spelling_reads gaps c.requires.0 (gaps_spell gaps c.requires.0 c.args.list.count c.requires.1 c.requires.2)).1 in
    subst (λ (rows : List Row). AreRows rows) (sym (c.deref.ensures.value ∙ c.in_ok-read_rows.ensures ∙ ap blocks_of read)) (blocks_rise c.requires.0 c.requires.1)

pub returns : goal.returns
returns c = λ locations rising are.
    let old = c.args.out.now.items in
    let gaps = c.args.list.gaps.now in
    let summary = c.in_ok-summary.summary.items in
    let read = (spelling_reads gaps locations (gaps_spell gaps locations c.args.list.count rising are)).1 in
    let new : c.extend_from_slice.new.self.items ≡ old ++ summary = c.in_ok-extend_from_slice.ensures.items ∙ ap (λ (t : List ℕ). old ++ t) c.deref-2.ensures.value in
    new
    ∙ ap (λ (t : List ℕ). old ++ t)
    (built_summary locations summary c.deref.result.now (c.deref.ensures.value ∙ c.in_ok-read_rows.ensures ∙ ap blocks_of read) c.in_ok-summary.ensures
    (behind_are_bytes old summary c.extend_from_slice.new.self.items new (λ i l. c.type_inv.out i 0 l)) (omega (arith, c.if-list-le64.false, are.counted)))
