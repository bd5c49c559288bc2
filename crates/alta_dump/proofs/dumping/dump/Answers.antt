use Rattle.std.proofs.Common.{◌≡◌, ◌+◌, ℕ, List, [], map, get_or, ap, sym, subst, ◌∙◌, arith}
use Rattle.std.specs.Prelude.{string_bytes}
use Rattle.alta_content.specs.Rows.{RowsRise}
use Rattle.alta_search.specs.Lists.{count_lists, count_locations, term_lists}
use Rattle.alta_search.specs.Told.{rows_at}
use Rattle.alta_dump.specs.Shown.{places_of}
use Rattle.alta_dump.proofs.Whole.{dump_is, three_walks, titles_given, words_given}
use Rattle.alta_dump.proofs.dumping.dump.Goals as goal

pub returns-clause-text : goal.returns-clause-text
returns-clause-text g c = λ s shows.
    let v = c.args.snapshot.now in let rows = c.rows-rows.result.now in let titles = c.terms-title_terms.result.now in let words = c.terms-word_terms.result.now in
    let live = c.in_ok-live.live.items in let places = c.in_ok-places.places in
    let t = titles_given v s.documents c.requires.tests shows titles
    (record { keys = c.terms-title_terms.ensures.keys; cuts = c.terms-title_terms.ensures.cuts; met = c.terms-title_terms.ensures.met; keyed = c.terms-title_terms.ensures.keyed }) in
    let w = words_given v s.documents c.requires.tests shows words
    (record { keys = c.terms-word_terms.ensures.keys; cuts = c.terms-word_terms.ensures.cuts; met = c.terms-word_terms.ensures.met; keyed = c.terms-word_terms.ensures.keyed }) in
    c.from_string.ensures
    ∙ dump_is v s.documents shows titles words t w rows live places c.in_ok-words.words.items c.in_ok-titles.titles.items (string_bytes c.in_ok-text.text) c.rows-rows.ensures.value
    (c.in_ok-live.ensures.rows s.documents c.requires.tests shows)
    (subst (λ (l : List ℕ). RowsRise (rows_at rows l) → places ≡ places_of (rows_at rows l)) c.deref.ensures.value c.in_ok-places.ensures)
    c.in_ok-words.ensures.held c.in_ok-titles.ensures.held
    (λ documents f g these words_are titles_are seen.
    c.in_ok-text.ensures.text documents f g (ap (rows_at rows) c.deref-2.ensures.value ∙ these)
    (c.deref-3.ensures.value ∙ words_are ∙ ap (λ (l : List ℕ). map f (places_of (rows_at rows l))) (sym c.deref-2.ensures.value))
    (c.deref-4.ensures.value ∙ titles_are ∙ ap (λ (l : List ℕ). map g (places_of (rows_at rows l))) (sym c.deref-2.ensures.value)) seen)

pub returns-clause-steps : goal.returns-clause-steps
returns-clause-steps g c =
    let cuts = c.args.snapshot.now.cuts in
    let titles : count_lists (map term_lists c.terms-title_terms.result.now) + count_locations (map term_lists c.terms-title_terms.result.now)
    ≡ count_lists (get_or cuts 1 []) + count_locations (get_or cuts 1 []) = ap (λ (ls : List (List (List ℕ))). count_lists ls + count_locations ls) c.terms-title_terms.ensures.cuts in
    let words : count_lists (map term_lists c.terms-word_terms.result.now) + count_locations (map term_lists c.terms-word_terms.result.now)
    ≡ count_lists (get_or cuts 2 []) + count_locations (get_or cuts 2 []) = ap (λ (ls : List (List (List ℕ))). count_lists ls + count_locations ls) c.terms-word_terms.ensures.cuts in
    omega (arith, three_walks cuts, titles, words)
