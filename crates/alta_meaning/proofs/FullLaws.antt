-- Where no place is left: the need is above the greatest gap beside what is taken.
use Rattle.std.proofs.Common.{◌≡◌, ⊎_elim, inl, inr, ℕ, ◌+◌, ◌-◌, ◌<◌, ◌≤◌, Bool, true, false, cond, List, [], ◌∷◌, ◌++◌, length, map, refl, sym, ap, subst, ◌∙◌, arith, Result, Ok, Err, append_assoc, length-append}
use Rattle.std.specs.Prelude.{◌&&◌, ◌==◌, ◌%◌, ◌/◌, nat_le, nat_lt, Option, None, Some}
use Rattle.std.specs.List.{All, flat_map}
use Rattle.std.specs.Str.{bytes_eq}
use Rattle.std.proofs.lemmas.Bool.{cases_lt}
use Rattle.std.proofs.lemmas.List.{append-nil}
use Rattle.std.proofs.lemmas.List.Elements.{All-nil, All-cons, All-head, All-tail}
use Rattle.alta_codec.specs.Numbers.{number_bytes, spelling}
use Rattle.alta_codec.specs.declared.extent.Extent.{Extent}
use Rattle.alta_disk.specs.Parts.{Apart}
use Rattle.alta_level.specs.Segments.{list_bytes, rows_of as term_rows, segment_bytes}
use Rattle.alta_content.specs.declared.content.Content.{Content}
use Rattle.alta_postings.specs.Deltas.{stream_bytes}
use Rattle.alta_root.specs.Root.{no_extent}
use Rattle.alta_root.specs.Gaps.{IsFirstGap, IsLongestGap, first_gap, greatest_gap}
use Rattle.alta_meaning.specs.Levels.{Level}
use Rattle.alta_meaning.specs.Work.{Job, Coming, stays, anew, coming, newest_content, gone_among, is_merged, job_of, oldest_joined, with_oldest, whole_of, level_rows, Task, enters, flushes, merges, steps, fits, needs_raise}
use Rattle.alta_meaning.proofs.Tests.{by_test}
use Rattle.alta_table.specs.Tables.{tables_bytes}
use Rattle.alta_table.proofs.TableLaws.{length-tables_bytes}
use Rattle.alta_meaning.specs.Chain.{◌>>=◌}
use Rattle.alta_meaning.specs.Holding.{Holding, taken_by_held}
use Rattle.alta_meaning.specs.Working.{AreFirstGaps, Full, IsWanting, Placed, in_front, placed, placed_at, placed_levels, placed_list, held_then, switched, written, flushed, moved, entered, worked}
use Rattle.alta_root.proofs.GapFunctions.{first_some, first_none, greatest_is}
use Rattle.alta_meaning.proofs.KeptStates.{by_levels, by_entries, ok_is, err_ok}
use Rattle.alta_meaning.proofs.WellLaws.{all_of, by_merged, by_none, by_room, by_raise, by_same, by_terms}
use Rattle.alta_content.specs.Joining.{terms_in}

pub full_is : {A : Type 0} (x y : Full) → ◌≡◌ {A = Result A Full} (Err x) (Err y) → x ≡ y
full_is x y e = cc

pub ok_err : {A : Type 0} (x : A) (full : Full) → ◌≡◌ {A = Result A Full} (Ok x) (Err full) → ⊥
ok_err x full e = absurd cc

-- ---- one place

fewer : (more less at : ℕ) (es : List Extent) → less ≤ more → All (λ (e : Extent). Apart at more e.place e.bytes) es → All (λ (e : Extent). Apart at less e.place e.bytes) es
fewer more less at [] le all = All-nil (λ (e : Extent). Apart at less e.place e.bytes)
fewer more less at (e ∷ es) le all =
    All-cons (λ (e : Extent). Apart at less e.place e.bytes) e es (⊎_elim (λ before. inl (omega (arith, before, le))) (λ behind. inr behind) (All-head (λ (e : Extent). Apart at more e.place e.bytes) e es all))
    (fewer more less at es le (All-tail (λ (e : Extent). Apart at more e.place e.bytes) e es all))

-- nothing is as long as what finds no gap
pub gap_short : (taken : List Extent) (bytes limit : ℕ) → 0 < bytes → first_gap taken bytes limit ≡ None → greatest_gap taken limit < bytes
gap_short taken bytes limit some none =
    ⊎_elim (λ less. less)
    (λ more. ⊎_elim (λ zero. absurd (omega (arith, zero, more, some)))
    (λ (at, gap). absurd (first_none taken bytes limit none at (record { behind = gap.behind; before = omega (arith, gap.before, more); apart = fewer (greatest_gap taken limit) bytes at taken more gap.apart })))
    (greatest_is taken limit).there)
    (cases_lt (greatest_gap taken limit) bytes)

pub placed_first : (taken : List Extent) (bytes limit : ℕ) (extent : Extent) → placed taken bytes limit ≡ Ok extent → IsFirstGap taken bytes limit extent.place × (extent.bytes ≡ bytes)
placed_first taken bytes limit extent e = by_gap (first_gap taken bytes limit) refl e
  where
    by_gap : (o : Option ℕ) → first_gap taken bytes limit ≡ o → placed_at taken bytes limit o ≡ Ok extent → IsFirstGap taken bytes limit extent.place × (extent.bytes ≡ bytes)
    by_gap None is e = absurd (err_ok extent (record { need = bytes; gap = greatest_gap taken limit }) e)
    by_gap (Some at) is e =
        let same = ok_is (record { place = at; bytes = bytes }) extent e in (subst (IsFirstGap taken bytes limit) (ap (λ (x : Extent). x.place) same) (first_some taken bytes limit at is), sym (ap (λ (x : Extent). x.bytes) same))

first_of : (taken : List Extent) (extent : Extent) (bytes limit : ℕ) → placed taken bytes limit ≡ Ok extent → IsFirstGap taken extent.bytes limit extent.place
first_of taken extent bytes limit e =
    let first = placed_first taken bytes limit extent e in subst (λ b. IsFirstGap taken b limit extent.place) (sym first.1) first.0

placed_full : (taken : List Extent) (bytes limit : ℕ) (full : Full) → 0 < bytes → placed taken bytes limit ≡ Err full → IsWanting taken limit full
placed_full taken bytes limit full some e = by_gap (first_gap taken bytes limit) refl e
  where
    by_gap : (o : Option ℕ) → first_gap taken bytes limit ≡ o → placed_at taken bytes limit o ≡ Err full → IsWanting taken limit full
    by_gap None is e =
        subst (IsWanting taken limit) (full_is {A = Extent} (record { need = bytes; gap = greatest_gap taken limit }) full e)
        (record { extra = []; first = tt; longest = subst (λ (es : List Extent). IsLongestGap es limit (greatest_gap taken limit)) (sym (append-nil taken)) (greatest_is taken limit); short = gap_short taken bytes limit some is })
    by_gap (Some at) is e = absurd (ok_err (record { place = at; bytes = bytes }) full e)

-- ---- what is written has bytes

segment_some : (c : Content) → 0 < length (segment_bytes c)
unfolding segment_bytes
segment_some c = omega (arith, length-append (tables_bytes c.documents (term_rows c.lists)) (flat_map list_bytes c.lists), length-tables_bytes c.documents (term_rows c.lists))

pub number_some : (n : ℕ) → 0 < length (number_bytes n)
unfolding number_bytes spelling
number_some n = by_low (nat_lt n 128)
  where
    by_low : (b : Bool) → 0 < length (cond b (n ∷ []) ((128 + n % 128) ∷ spelling 9 (n / 128)))
    by_low true = omega arith
    by_low false = omega arith

pub stream_some : (deleted : List ℕ) → (length deleted == 0) ≡ false → 0 < length (stream_bytes 0 deleted)
unfolding stream_bytes
stream_some [] some = absurd cc
stream_some (d ∷ ds) some = omega (arith, length-append (number_bytes (d - 0)) (stream_bytes d ds), number_some (d - 0))

-- ---- levels, and a list

behind_extent : (taken : List Extent) (extent : Extent) (bytes limit : ℕ) (full : Full) → placed taken bytes limit ≡ Ok extent → IsWanting (taken ++ extent ∷ []) limit full → IsWanting taken limit full
behind_extent taken extent bytes limit full placed_is is = record {
  extra = extent ∷ is.extra;
  first = (first_of taken extent bytes limit placed_is, is.first);
  longest = subst (λ (es : List Extent). IsLongestGap es limit full.gap) (append_assoc taken (extent ∷ []) is.extra) is.longest;
  short = is.short;
}

levels_full : (limit : ℕ) (taken : List Extent) (levels : List Coming) (full : Full) → placed_levels limit taken levels ≡ Err full → IsWanting taken limit full
levels_full limit taken [] full e = absurd (ok_err (record { levels = []; taken = taken }) full e)
levels_full limit taken (stays level ∷ more) full e = by_rest limit taken level full (placed_levels limit taken more) (λ is. levels_full limit taken more full is) e
  where
    by_rest : (limit : ℕ) (taken : List Extent) (level : Level) (full : Full) (r : Result Placed Full) → (r ≡ Err full → IsWanting taken limit full) → (r >>= λ rest. Ok (in_front level rest)) ≡ Err full → IsWanting taken limit full
    by_rest limit taken level full (Ok rest) go_on e = absurd (ok_err (in_front level rest) full e)
    by_rest limit taken level full (Err other) go_on e = go_on e
levels_full limit taken (anew content ∷ more) full e =
    by_place limit taken content more full (placed taken (length (segment_bytes content)) limit) refl (λ extent is. levels_full limit (taken ++ extent ∷ []) more full is) e
  where
    by_rest : (limit : ℕ) (taken : List Extent) (extent : Extent) (content : Content) (full : Full) (r : Result Placed Full) → placed taken (length (segment_bytes content)) limit ≡ Ok extent
        → (r ≡ Err full → IsWanting (taken ++ extent ∷ []) limit full) → (r >>= λ rest. Ok (in_front (record { extent = extent; content = content }) rest)) ≡ Err full → IsWanting taken limit full
    by_rest limit taken extent content full (Ok rest) there go_on e = absurd (ok_err (in_front (record { extent = extent; content = content }) rest) full e)
    by_rest limit taken extent content full (Err other) there go_on e =
        behind_extent taken extent (length (segment_bytes content)) limit full there (go_on (ap (λ (f : Full). Err f) (full_is {A = Placed} other full e)))

    by_place : (limit : ℕ) (taken : List Extent) (content : Content) (more : List Coming) (full : Full) (r : Result Extent Full) → placed taken (length (segment_bytes content)) limit ≡ r
        → ((extent : Extent) → placed_levels limit (taken ++ extent ∷ []) more ≡ Err full → IsWanting (taken ++ extent ∷ []) limit full)
        → (r >>= λ extent. placed_levels limit (taken ++ extent ∷ []) more >>= λ rest. Ok (in_front (record { extent = extent; content = content }) rest)) ≡ Err full → IsWanting taken limit full
    by_place limit taken content more full (Ok extent) is go_on e = by_rest limit taken extent content full (placed_levels limit (taken ++ extent ∷ []) more) is (go_on extent) e
    by_place limit taken content more full (Err other) is go_on e =
        placed_full taken (length (segment_bytes content)) limit full (segment_some content) (is ∙ ap (λ (f : Full). Err f) (full_is {A = Placed} other full e))

-- what is taken then begins with what was, and goes on by first gaps
record TakesMore (limit : ℕ) (taken now : List Extent) : Type 0 where
  extra : List Extent
  first : AreFirstGaps limit taken extra
  now_is : now ≡ taken ++ extra

takes_behind : (limit bytes : ℕ) (taken now : List Extent) (extent : Extent) → placed taken bytes limit ≡ Ok extent → TakesMore limit (taken ++ extent ∷ []) now → TakesMore limit taken now
takes_behind limit bytes taken now extent placed_is is = record {
  extra = extent ∷ is.extra;
  first = (first_of taken extent bytes limit placed_is, is.first);
  now_is = is.now_is ∙ append_assoc taken (extent ∷ []) is.extra;
}

levels_taken : (limit : ℕ) (taken : List Extent) (levels : List Coming) (now : Placed) → placed_levels limit taken levels ≡ Ok now → TakesMore limit taken now.taken
levels_taken limit taken [] now e = record { extra = []; first = tt; now_is = ap (λ (p : Placed). p.taken) (sym (ok_is (record { levels = []; taken = taken }) now e)) ∙ sym (append-nil taken) }
levels_taken limit taken (stays level ∷ more) now e = by_rest taken level now (placed_levels limit taken more) (λ rest is. levels_taken limit taken more rest is) e
  where
    by_rest : (taken : List Extent) (level : Level) (now : Placed) (r : Result Placed Full) → ((rest : Placed) → r ≡ Ok rest → TakesMore limit taken rest.taken) → (r >>= λ rest. Ok (in_front level rest)) ≡ Ok now
        → TakesMore limit taken now.taken
    by_rest taken level now (Ok rest) go_on e = subst (λ (p : Placed). TakesMore limit taken p.taken) (ok_is (in_front level rest) now e) (go_on rest refl)
    by_rest taken level now (Err full) go_on e = absurd (err_ok now full e)
levels_taken limit taken (anew content ∷ more) now e =
    by_place limit taken content more now (placed taken (length (segment_bytes content)) limit) refl (λ extent rest is. levels_taken limit (taken ++ extent ∷ []) more rest is) e
  where
    by_rest : (limit : ℕ) (taken : List Extent) (extent : Extent) (content : Content) (now : Placed) (r : Result Placed Full) → placed taken (length (segment_bytes content)) limit ≡ Ok extent
        → ((rest : Placed) → r ≡ Ok rest → TakesMore limit (taken ++ extent ∷ []) rest.taken) → (r >>= λ rest. Ok (in_front (record { extent = extent; content = content }) rest)) ≡ Ok now → TakesMore limit taken now.taken
    by_rest limit taken extent content now (Ok rest) there go_on e =
        subst (λ (p : Placed). TakesMore limit taken p.taken) (ok_is (in_front (record { extent = extent; content = content }) rest) now e)
        (takes_behind limit (length (segment_bytes content)) taken rest.taken extent there (go_on rest refl))
    by_rest limit taken extent content now (Err full) there go_on e = absurd (err_ok now full e)

    by_place : (limit : ℕ) (taken : List Extent) (content : Content) (more : List Coming) (now : Placed) (r : Result Extent Full) → placed taken (length (segment_bytes content)) limit ≡ r
        → ((extent : Extent) (rest : Placed) → placed_levels limit (taken ++ extent ∷ []) more ≡ Ok rest → TakesMore limit (taken ++ extent ∷ []) rest.taken)
        → (r >>= λ extent. placed_levels limit (taken ++ extent ∷ []) more >>= λ rest. Ok (in_front (record { extent = extent; content = content }) rest)) ≡ Ok now → TakesMore limit taken now.taken
    by_place limit taken content more now (Ok extent) is go_on e = by_rest limit taken extent content now (placed_levels limit (taken ++ extent ∷ []) more) is (go_on extent) e
    by_place limit taken content more now (Err full) is go_on e = absurd (err_ok now full e)

-- first gaps behind first gaps
pub first_append : (limit : ℕ) (taken xs ys : List Extent) → AreFirstGaps limit taken xs → AreFirstGaps limit (taken ++ xs) ys → AreFirstGaps limit taken (xs ++ ys)
first_append limit taken [] ys first more = subst (λ (es : List Extent). AreFirstGaps limit es ys) (append-nil taken) more
first_append limit taken (x ∷ xs) ys first more =
    (first.0, first_append limit (taken ++ x ∷ []) xs ys first.1 (subst (λ (es : List Extent). AreFirstGaps limit es ys) (sym (append_assoc taken (x ∷ []) xs)) more))

list_full : (limit : ℕ) (held : Holding) (taken : List Extent) (deleted : List ℕ) (full : Full) → placed_list limit held taken deleted ≡ Err full → IsWanting taken limit full
list_full limit held taken deleted full e =
    by_test (bytes_eq deleted held.view.deleted) (λ same. absurd (ok_err held.list full (sym (ap (by_same limit held taken deleted) same) ∙ e)))
    (λ other. by_test (length deleted == 0) (λ none. absurd (ok_err no_extent full (sym (ap (by_same limit held taken deleted) other ∙ ap (by_none limit taken deleted) none) ∙ e)))
    (λ some. placed_full taken (length (stream_bytes 0 deleted)) limit full (stream_some deleted some) (sym (ap (by_same limit held taken deleted) other ∙ ap (by_none limit taken deleted) some) ∙ e)))

-- ---- a switch, and work

switched_full : (limit : ℕ) (held : Holding) (levels : List Coming) (job : Option Job) (full : Full) → switched limit held levels job ≡ Err full → IsWanting (taken_by_held held) limit full
switched_full limit held levels job full e = by_placed (placed_levels limit (taken_by_held held) levels) refl e
  where
    by_list : (now : Placed) → TakesMore limit (taken_by_held held) now.taken → (r : Result Extent Full) → placed_list limit held now.taken (gone_among held.view (level_rows now.levels)) ≡ r
        → (r >>= λ list. Ok (held_then held now.levels (gone_among held.view (level_rows now.levels)) list job)) ≡ Err full → IsWanting (taken_by_held held) limit full
    by_list now more (Ok list) is e = absurd (ok_err (held_then held now.levels (gone_among held.view (level_rows now.levels)) list job) full e)
    by_list now more (Err other) is e =
        let wanting = list_full limit held now.taken (gone_among held.view (level_rows now.levels)) full (is ∙ ap (λ (f : Full). Err f) (full_is {A = Holding} other full e)) in
        record {
          extra = more.extra ++ wanting.extra;
          first = first_append limit (taken_by_held held) more.extra wanting.extra more.first (subst (λ (es : List Extent). AreFirstGaps limit es wanting.extra) more.now_is wanting.first);
          longest = subst (λ (es : List Extent). IsLongestGap es limit full.gap) (ap (λ (es : List Extent). es ++ wanting.extra) more.now_is ∙ append_assoc (taken_by_held held) more.extra wanting.extra) wanting.longest;
          short = wanting.short;
        }

    by_placed : (r : Result Placed Full) → placed_levels limit (taken_by_held held) levels ≡ r
        → (r >>= λ now. placed_list limit held now.taken (gone_among held.view (level_rows now.levels)) >>= λ list. Ok (held_then held now.levels (gone_among held.view (level_rows now.levels)) list job)) ≡ Err full
        → IsWanting (taken_by_held held) limit full
    by_placed (Ok now) is e = by_list now (levels_taken limit (taken_by_held held) levels now is) (placed_list limit held now.taken (gone_among held.view (level_rows now.levels))) refl e
    by_placed (Err other) is e = levels_full limit (taken_by_held held) levels full (is ∙ ap (λ (f : Full). Err f) (full_is {A = Holding} other full e))

written_full : (limit : ℕ) (held : Holding) (full : Full) → written limit held ≡ Err full → IsWanting (taken_by_held held) limit full
written_full limit held full e =
    by_test (length held.view.levels == 16 && nat_le 1 (length (newest_content held.view).documents))
    (λ many. switched_full limit held (with_oldest (oldest_joined held.job held.view) held.view) None full (sym (ap (by_levels limit held) many) ∙ e))
    (λ few. switched_full limit held (map stays held.view.levels ++ coming (newest_content held.view)) held.job full (sym (ap (by_levels limit held) few) ∙ e))

flush_full : (limit : ℕ) (held : Holding) (full : Full) → flushed limit held ≡ Err full → IsWanting (taken_by_held held) limit full
flush_full limit held full e =
    by_test (length held.view.entries == 0) (λ none. absurd (ok_err held full (sym (ap (by_entries limit held) none) ∙ e)))
    (λ some. written_full limit held full (sym (ap (by_entries limit held) some) ∙ e))

move_full : (limit : ℕ) (held : Holding) (n : ℕ) (job : Option Job) (full : Full) → moved limit held n job ≡ Err full → IsWanting (taken_by_held held) limit full
move_full limit held n None full e = absurd (ok_err held full e)
move_full limit held n (Some job) full e =
    by_test (nat_le (length (terms_in (job.older ∷ job.newer ∷ []))) (job.merged + n))
    (λ ends. switched_full limit held (with_oldest (whole_of job) held.view) None full (sym (ap (by_terms limit held n job) ends) ∙ e))
    (λ goes_on. absurd (ok_err (record { view = held.view; list = held.list; job = Some (record { older = job.older; newer = job.newer; dead = job.dead; merged = job.merged + n }) }) full (sym (ap (by_terms limit held n job) goes_on) ∙ e)))

pub work_full : (limit : ℕ) (held : Holding) (task : Task) (full : Full) → worked limit held task ≡ Err full → IsWanting (taken_by_held held) limit full
work_full limit held (enters entry) full e =
    by_test (needs_raise held.view.version entry)
    (λ raise. by_switch (written limit held) refl (λ is. written_full limit held full is) (sym (ap (by_raise limit held entry) raise) ∙ e))
    (λ still. by_test (fits held.view.entries entry)
    (λ room. absurd (ok_err (entered held entry) full (sym (ap (by_raise limit held entry) still ∙ ap (by_room limit held entry) room) ∙ e)))
    (λ none. by_switch (flushed limit held) refl (λ is. flush_full limit held full is) (sym (ap (by_raise limit held entry) still ∙ ap (by_room limit held entry) none) ∙ e)))
  where
    by_switch : {r : Result Holding Full} (s : Result Holding Full) → r ≡ s → (r ≡ Err full → IsWanting (taken_by_held held) limit full) → (s >>= λ then. Ok (entered then entry)) ≡ Err full → IsWanting (taken_by_held held) limit full
    by_switch (Ok middle) is wanting e = absurd (ok_err (entered middle entry) full e)
    by_switch (Err other) is wanting e = wanting (is ∙ ap (λ (f : Full). Err f) (full_is {A = Holding} other full e))
work_full limit held flushes full e = flush_full limit held full e
work_full limit held merges full e =
    by_test (is_merged held.view) (λ none. absurd (ok_err held full (sym (ap (by_merged limit held) none) ∙ e)))
    (λ some. switched_full limit held (coming (all_of held.view)) None full (sym (ap (by_merged limit held) some) ∙ e))
work_full limit held (steps n) full e = move_full limit held n (job_of held.job held.view) full e
