use Rattle.std.proofs.Common.{◌≡◌, ◌++◌, ◌∷◌, [], List, ℕ, map, sym, subst, ap, ◌∙◌, rules}
use Rattle.std.specs.List.{All}
use Rattle.std.proofs.lemmas.List.{map-append}
use Rattle.alta_content.proofs.Contents.{parts_rise}
use Rattle.alta_content.proofs.Kept.{join_is_part}
use Rattle.alta_content.specs.Joining.{gathered, joined_in, parts_of}
use Rattle.alta_content.specs.Lists.{TermsRise}
use Rattle.alta_content.specs.Parts.{IsPart, MayJoin}
use Rattle.alta_content.specs.Rows.{live_rows}
use Rattle.alta_content.specs.Spans.{deleted_spans, lists_outside}
use Rattle.alta_content.specs.TermList.{TermList}
use Rattle.alta_content.specs.declared.content.Content.{Content}
use Rattle.alta_content.specs.declared.spans.Span.{Span}
use Rattle.alta_disk.specs.Calls.{Reads}
use Rattle.alta_joins.proofs.MergeSteps.{left_begins, merge_begins}
use Rattle.alta_joins.proofs.MergedLaws.{AreReadBack, all_read, none_damaged}
use Rattle.alta_joins.proofs.OldestLaws.{join_made, newest_join, newest_same, rows_made}
use Rattle.alta_joins.specs.Reading.{left_of}
use Rattle.alta_meaning.specs.Opened.{table_rows}
use Rattle.alta_table.specs.Tables.{Tables}
use Rattle.alta_joins.proofs.oldest.merge_levels.Goals as goal

pub merge_lists-requires-clause-merged : goal.merge_lists-requires-clause-merged
merge_lists-requires-clause-merged g c =
    let tells = g.D.Disk.tells in
    let a = g.D.Disk.state c.args.disk.now in
    let levels : List Tables = c.args.levels.now in
    let newest : Content = c.args.newest in
    let rows_are : c.deref_mut.result.now ≡ map (λ (level : Tables). 0) levels = c.deref_mut.ensures.value ∙ c.in-Ok.ensures.rows in
    let hand_is : c.deref_mut-2.result.now ≡ map (λ (level : Tables). []) levels ++ newest.lists ∷ [] = c.deref_mut-2.ensures.value ∙ c.in-Ok.ensures.hand in
    let begins = merge_begins tells a.content newest.lists c.deref.result.now levels c.deref_mut.result.now c.deref_mut-2.result.now c.in-Ok.begun.lists rows_are hand_is c.in-Ok.ensures.lists in
    (a.content, newest.lists, begins)

pub returns-in-Ok-merge_lists-clause-merged : goal.returns-in-Ok-merge_lists-clause-merged
returns-in-Ok-merge_lists-clause-merged g c = λ others others_are.
    let tells = g.D.Disk.tells in
    let a = g.D.Disk.state c.args.disk.now in
    let levels : List Tables = c.args.levels.now in
    let newest : Content = c.args.newest in
    let rows_are : c.deref_mut.result.now ≡ map (λ (level : Tables). 0) levels = c.deref_mut.ensures.value ∙ c.in-Ok.ensures.rows in
    let hand_is : c.deref_mut-2.result.now ≡ map (λ (level : Tables). []) levels ++ newest.lists ∷ [] = c.deref_mut-2.ensures.value ∙ c.in-Ok.ensures.hand in
    let begins = merge_begins tells a.content newest.lists c.deref.result.now levels c.deref_mut.result.now c.deref_mut-2.result.now c.in-Ok.begun.lists rows_are hand_is c.in-Ok.ensures.lists in
    let gone = c.args.gone.now in
    let laws : AreReadBack = record { once = c.segments_read_back.ensures.once; apart = c.segments_read_back.ensures.apart; alone = c.segments_read_back.ensures.first } in
    let m = c.in-Ok-merge_lists.ensures.merged a.content newest.lists begins in
    let w = all_read tells a (g.met.D.Disk.lawful c.args.disk.now) laws newest.lists levels m.read c.in-Ok.ensures.opened c.requires.stands m.are in
    let added = c.requires.newest.0 in
    let dead = deleted_spans gone (table_rows levels) in
    let may : MayJoin (w.contents ++ newest ∷ []) = newest_join levels w.contents gone added newest w.are c.requires.documents c.requires.newest.1 in
    let parts : parts_of (w.contents ++ newest ∷ []) ≡ parts_of w.contents ++ newest.lists ∷ [] = map-append (λ (d : Content). d.lists) w.contents (newest ∷ []) in
    let rise : All TermsRise m.read = subst (All TermsRise) (sym (w.lists ∙ sym parts)) (parts_rise (w.contents ++ newest ∷ []) may.parts) in
    let spans : c.deref.result.now ≡ dead = c.deref.ensures.value ∙ c.in-Ok.ensures.spans in
    let lists : c.merge_lists.new.made ≡ lists_outside dead (gathered (parts_of w.contents ++ newest.lists ∷ [])) =
    m.same rise ∙ ap (λ (s : List Span). lists_outside s (gathered m.read)) spans ∙ ap (λ (p : List (List TermList)). lists_outside dead (gathered p)) w.lists in
    let documents : c.from_vec.result ≡ live_rows gone (table_rows levels) ++ newest.documents = c.from_vec.ensures ∙ c.in-Ok.ensures.documents in
    let content : Content = record { documents = c.from_vec.result; lists = c.merge_lists.new.made } in
    let is : content ≡ joined_in (w.contents ++ newest ∷ []) gone = join_made levels w.contents gone added newest w.are c.requires.newest.1 content documents lists in
    (w.contents, w.are, w.segments, is ∙ newest_same levels w.contents gone others newest w.are c.requires.documents others_are)

pub returns-in-Ok-merge_lists-clause-part : goal.returns-in-Ok-merge_lists-clause-part
returns-in-Ok-merge_lists-clause-part g c =
    let tells = g.D.Disk.tells in
    let a = g.D.Disk.state c.args.disk.now in
    let levels : List Tables = c.args.levels.now in
    let newest : Content = c.args.newest in
    let rows_are : c.deref_mut.result.now ≡ map (λ (level : Tables). 0) levels = c.deref_mut.ensures.value ∙ c.in-Ok.ensures.rows in
    let hand_is : c.deref_mut-2.result.now ≡ map (λ (level : Tables). []) levels ++ newest.lists ∷ [] = c.deref_mut-2.ensures.value ∙ c.in-Ok.ensures.hand in
    let begins = merge_begins tells a.content newest.lists c.deref.result.now levels c.deref_mut.result.now c.deref_mut-2.result.now c.in-Ok.begun.lists rows_are hand_is c.in-Ok.ensures.lists in
    let gone = c.args.gone.now in
    let laws : AreReadBack = record { once = c.segments_read_back.ensures.once; apart = c.segments_read_back.ensures.apart; alone = c.segments_read_back.ensures.first } in
    let m = c.in-Ok-merge_lists.ensures.merged a.content newest.lists begins in
    let w = all_read tells a (g.met.D.Disk.lawful c.args.disk.now) laws newest.lists levels m.read c.in-Ok.ensures.opened c.requires.stands m.are in
    let added = c.requires.newest.0 in
    let dead = deleted_spans gone (table_rows levels) in
    let may : MayJoin (w.contents ++ newest ∷ []) = newest_join levels w.contents gone added newest w.are c.requires.documents c.requires.newest.1 in
    let parts : parts_of (w.contents ++ newest ∷ []) ≡ parts_of w.contents ++ newest.lists ∷ [] = map-append (λ (d : Content). d.lists) w.contents (newest ∷ []) in
    let rise : All TermsRise m.read = subst (All TermsRise) (sym (w.lists ∙ sym parts)) (parts_rise (w.contents ++ newest ∷ []) may.parts) in
    let spans : c.deref.result.now ≡ dead = c.deref.ensures.value ∙ c.in-Ok.ensures.spans in
    let lists : c.merge_lists.new.made ≡ lists_outside dead (gathered (parts_of w.contents ++ newest.lists ∷ [])) =
    m.same rise ∙ ap (λ (s : List Span). lists_outside s (gathered m.read)) spans ∙ ap (λ (p : List (List TermList)). lists_outside dead (gathered p)) w.lists in
    let documents : c.from_vec.result ≡ live_rows gone (table_rows levels) ++ newest.documents = c.from_vec.ensures ∙ c.in-Ok.ensures.documents in
    let content : Content = record { documents = c.from_vec.result; lists = c.merge_lists.new.made } in
    let is : content ≡ joined_in (w.contents ++ newest ∷ []) gone = join_made levels w.contents gone added newest w.are c.requires.newest.1 content documents lists in
    subst IsPart (sym is) (join_is_part (w.contents ++ newest ∷ []) gone may)

pub returns-in-Ok-merge_lists-clause-rows : goal.returns-in-Ok-merge_lists-clause-rows
returns-in-Ok-merge_lists-clause-rows g c =
    let tells = g.D.Disk.tells in
    let a = g.D.Disk.state c.args.disk.now in
    let levels : List Tables = c.args.levels.now in
    let newest : Content = c.args.newest in
    let rows_are : c.deref_mut.result.now ≡ map (λ (level : Tables). 0) levels = c.deref_mut.ensures.value ∙ c.in-Ok.ensures.rows in
    let hand_is : c.deref_mut-2.result.now ≡ map (λ (level : Tables). []) levels ++ newest.lists ∷ [] = c.deref_mut-2.ensures.value ∙ c.in-Ok.ensures.hand in
    let begins = merge_begins tells a.content newest.lists c.deref.result.now levels c.deref_mut.result.now c.deref_mut-2.result.now c.in-Ok.begun.lists rows_are hand_is c.in-Ok.ensures.lists in
    let gone = c.args.gone.now in
    let laws : AreReadBack = record { once = c.segments_read_back.ensures.once; apart = c.segments_read_back.ensures.apart; alone = c.segments_read_back.ensures.first } in
    let m = c.in-Ok-merge_lists.ensures.merged a.content newest.lists begins in
    let w = all_read tells a (g.met.D.Disk.lawful c.args.disk.now) laws newest.lists levels m.read c.in-Ok.ensures.opened c.requires.stands m.are in
    c.from_vec.ensures ∙ c.in-Ok.ensures.documents ∙ rows_made levels w.contents gone c.requires.newest.0 newest w.are c.requires.newest.1

pub returns-in-Ok-merge_lists-clause-damage : goal.returns-in-Ok-merge_lists-clause-damage
returns-in-Ok-merge_lists-clause-damage g c = λ told.
    let tells = g.D.Disk.tells in
    let a = g.D.Disk.state c.args.disk.now in
    let levels : List Tables = c.args.levels.now in
    let newest : Content = c.args.newest in
    let rows_are : c.deref_mut.result.now ≡ map (λ (level : Tables). 0) levels = c.deref_mut.ensures.value ∙ c.in-Ok.ensures.rows in
    let hand_is : c.deref_mut-2.result.now ≡ map (λ (level : Tables). []) levels ++ newest.lists ∷ [] = c.deref_mut-2.ensures.value ∙ c.in-Ok.ensures.hand in
    let begins = merge_begins tells a.content newest.lists c.deref.result.now levels c.deref_mut.result.now c.deref_mut-2.result.now c.in-Ok.begun.lists rows_are hand_is c.in-Ok.ensures.lists in
    let gone = c.args.gone.now in
    let laws : AreReadBack = record { once = c.segments_read_back.ensures.once; apart = c.segments_read_back.ensures.apart; alone = c.segments_read_back.ensures.first } in
    let m = c.in-Ok-merge_lists.ensures.merged a.content newest.lists begins in
    let w = all_read tells a (g.met.D.Disk.lawful c.args.disk.now) laws newest.lists levels m.read c.in-Ok.ensures.opened c.requires.stands m.are in
    record {
      undamaged = λ contents are. tt;
      first = tt;
      damaged = λ p damage. none_damaged tells a (g.met.D.Disk.lawful c.args.disk.now) laws levels w.contents p told c.in-Ok.ensures.opened (c.requires.stands told) (w.segments told) damage;
    }

pub returns-in-Ok-merge_lists-clause-retrieves : goal.returns-in-Ok-merge_lists-clause-retrieves
returns-in-Ok-merge_lists-clause-retrieves g c =
    let levels : List Tables = c.args.levels.now in
    let rows_are : c.deref_mut.result.now ≡ map (λ (level : Tables). 0) levels = c.deref_mut.ensures.value ∙ c.in-Ok.ensures.rows in
    record {
      reads = subst (λ (n : ℕ). Reads g.D.Disk.tells n (g.D.Disk.state c.args.disk.now) (g.D.Disk.state c.merge_lists.new.disk)) (ap (left_of levels) rows_are ∙ left_begins levels)
          c.merge_lists.ensures.reads.retrieves.reads;
      cause = search rules;
    }

pub returns-in-Err-merge_lists-clause-retrieves : goal.returns-in-Err-merge_lists-clause-retrieves
returns-in-Err-merge_lists-clause-retrieves g c =
    let levels : List Tables = c.args.levels.now in
    let rows_are : c.deref_mut.result.now ≡ map (λ (level : Tables). 0) levels = c.deref_mut.ensures.value ∙ c.in-Ok.ensures.rows in
    record {
      reads = subst (λ (n : ℕ). Reads g.D.Disk.tells n (g.D.Disk.state c.args.disk.now) (g.D.Disk.state c.merge_lists.new.disk)) (ap (left_of levels) rows_are ∙ left_begins levels)
          c.merge_lists.ensures.reads.retrieves.reads;
      cause = search rules;
    }
