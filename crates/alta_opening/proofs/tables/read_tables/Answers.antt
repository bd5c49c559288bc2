use Rattle.std.proofs.Common.{◌≡◌, ◌+◌, ◌∙◌, take, length, refl, sym, ap, ap₂, subst, Err, ℕ, Result, arith}
use Rattle.alta_meaning.specs.Opened.{tables_at}
use Rattle.alta_table.specs.Answers.{Answers as TableAnswers}
use Rattle.alta_table.specs.Tables.{Tables, tables_of}
use Rattle.alta_opening.proofs.TableReads.{head_fails, tables_fail, tables_read, whole_parts}
use Rattle.alta_opening.proofs.tables.read_tables.Goals as goal

pub returns-in-Err-clause-exact : goal.returns-in-Err-clause-exact
returns-in-Err-clause-exact g c = λ told.
    let image = (g.D.Disk.state c.args.disk.now).content in
    rw c.outer.ensures (head_fails c.args.extent image c.read.new.buf c.in-Err.fault c.requires.long (c.in_ok-read.ensures.bytes told) c.in-Err.ensures.exact)

pub keep-requires-clause-whole : goal.keep-requires-clause-whole
keep-requires-clause-whole g c = λ h read.
    let long : length c.read.new.buf ≡ 32 = omega arith in
    let front : take 32 c.in_ok-bytes.bytes.items ≡ c.read.new.buf =
    ap (λ (n : ℕ). take n c.in_ok-bytes.bytes.items) (sym long) ∙ c.in_ok-bytes.ensures.front in
    let whole : length c.in_ok-bytes.bytes.items ≡ 32 + (c.in-Ok.sizes.document_bytes + c.in-Ok.sizes.term_bytes) =
    c.in_ok-bytes.ensures.long ∙ ap (λ (n : ℕ). n + (c.in-Ok.sizes.document_bytes + c.in-Ok.sizes.term_bytes)) long in
    whole_parts c.args.extent c.read.new.buf c.in_ok-bytes.bytes.items c.in-Ok.sizes h front c.in-Ok.ensures.exact whole read

pub returns-in-Ok-keep-clause-extent : goal.returns-in-Ok-keep-clause-extent
returns-in-Ok-keep-clause-extent g c = let found = c.in-Ok-keep.ensures.found in ap₂ (λ (place bytes : ℕ). record { place = place; bytes = bytes }) found.at found.keeps.filled

pub returns-in-Ok-keep-clause-exact : goal.returns-in-Ok-keep-clause-exact
returns-in-Ok-keep-clause-exact g c = λ told.
    sym (tables_read c.args.extent (g.D.Disk.state c.args.disk.now).content _ c.read.new.buf c.in_ok-bytes.bytes.items c.in_ok-bytes.bytes.items c.in-Ok.sizes c.requires.long c.in-Ok.ensures.fits
    (c.in_ok-read.ensures.bytes told) (c.in_ok-read.ensures.content told) (c.in_ok-bytes.ensures.read told) refl c.in-Ok.ensures.exact)
    ∙ c.in-Ok-keep.ensures.exact

pub returns-in-Err-keep-clause-exact : goal.returns-in-Err-keep-clause-exact
returns-in-Err-keep-clause-exact g c = λ told.
    let image = (g.D.Disk.state c.args.disk.now).content in
    let same : tables_of c.in_ok-bytes.bytes.items c.args.extent.place c.args.extent.bytes ≡ tables_at c.args.extent image =
    tables_read c.args.extent image _ c.read.new.buf c.in_ok-bytes.bytes.items c.in_ok-bytes.bytes.items c.in-Ok.sizes c.requires.long c.in-Ok.ensures.fits (c.in_ok-read.ensures.bytes told)
    (c.in_ok-read.ensures.content told) (c.in_ok-bytes.ensures.read told) refl c.in-Ok.ensures.exact in
    rw c.outer-in-Err-keep.ensures
    (tables_fail c.in-Err-keep.fault (tables_at c.args.extent image) (subst (λ (r : Result Tables ℕ). TableAnswers (λ (t : Tables). t) (Err c.in-Err-keep.fault) r) same c.in-Err-keep.ensures.exact))
