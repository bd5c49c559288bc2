use Rattle.std.proofs.Common.{⊎_elim, inl, inr, ap, rules, List, Ok, Err, refl, subst, sym, ◌∙◌, arith}
use Rattle.std.specs.Prelude.{⊤}
use Rattle.std.specs.List.{All}
use Rattle.alta_layout.specs.Places.{other}
use Rattle.alta_layout.specs.declared.slot.Slot.{Slot}
use Rattle.alta_disk.specs.Parts.{Touches}
use Rattle.alta_disk.proofs.Moments.{leaves_start, passes_as, passes_start}
use Rattle.alta_meaning.specs.Opened.{IsOpened}
use Rattle.alta_meaning.specs.Views.{state_of}
use Rattle.alta_root.specs.Slots.{Counts}
use Rattle.alta_root.specs.Switches.{slot_range}
use Rattle.alta_root.specs.declared.root.Root.{Root}
use Rattle.alta_rewrite.specs.Brings.{IsOpenedEither}
use Rattle.alta_rewrite.specs.Puts.{Fills, MayPut, Puts, Putting}
use Rattle.alta_rewrite.specs.declared.piece.Piece.{Piece}
use Rattle.alta_rewrite.specs.Rewrites.{MayBecome}
use Rattle.alta_rewrite.proofs.CallLaws.{IsNaming, brings_as, bringing, bytes_now, drafts_as, full_held, full_places, held_now, leaves_one, leaves_same, leaves_told, levels_spared, names_as, naming, tables_done, tables_opened}
use Rattle.alta_rewrite.proofs.DraftLaws.{draft_extents, draft_fits, draft_may, draft_none, draft_rows}
use Rattle.alta_rewrite.proofs.NameLaws.{coming_at, coming_by}
use Rattle.alta_rewrite.proofs.SwitchLaws.{levels_then, then_of}
use Rattle.alta_rewrite.proofs.rewriting.rewrite.Goals as goal

pub put_root-requires-clause-follows : goal.put_root-requires-clause-follows
put_root-requires-clause-follows g c = λ told.
    let now = g.D.Disk.state c.args.disk.now in
    let is = drafts_as c.args.levels c.args.ends c.args.next c.args.location now.limit c.limit-limit.result c.limit-limit.ensures c.args.root.now (Ok c.in-Ok.draft) c.in-Ok.ensures in
    subst (λ (s : Slot). MayPut s c.in-Ok.draft.root c.deref.result.now now.limit now.content) (sym c.other.ensures)
    (subst (λ (ps : List Piece). MayPut (other c.args.slot) c.in-Ok.draft.root ps now.limit now.content) (sym c.deref.ensures.value)
    (draft_may now.limit c.args.root.now c.args.levels c.args.ends c.args.next c.args.location c.in-Ok.draft is c.in_ok-pieces.pieces.items c.in_ok-pieces.ensures
    c.args.slot now.content (c.requires.switch.counts told) c.requires.names.few c.requires.names.number_is c.requires.names.location_is))

pub put_root-requires-clause-fits : goal.put_root-requires-clause-fits
put_root-requires-clause-fits g c = let now = g.D.Disk.state c.args.disk.now in
    let is = drafts_as c.args.levels c.args.ends c.args.next c.args.location now.limit c.limit-limit.result c.limit-limit.ensures c.args.root.now (Ok c.in-Ok.draft) c.in-Ok.ensures in
    subst (λ (ps : List Piece). All (Fills now.limit) ps) (sym c.deref.ensures.value)
    (draft_fits now.limit c.args.root.now c.args.levels c.args.ends c.args.next c.args.location c.in-Ok.draft is c.in_ok-pieces.pieces.items c.in_ok-pieces.ensures)

pub returns-in-Err-clause-held : goal.returns-in-Err-clause-held
returns-in-Err-clause-held g c = record {
  works =
      λ held job told may. tt;
  full =
      λ held job told may need gap e.
      let now = g.D.Disk.state c.args.disk.now in
      full_held c.args.levels c.args.ends c.args.next c.args.location now.content (bytes_now g.D.Disk.tells now (g.met.D.Disk.lawful c.args.disk.now) told) c.args.slot c.args.root.now (c.requires.switch.counts told) now.limit held job may need gap
      (full_places c.args.levels c.args.ends c.args.next c.args.location now.limit c.args.root.now c.in-Err.fault
      (drafts_as c.args.levels c.args.ends c.args.next c.args.location now.limit c.limit-limit.result c.limit-limit.ensures c.args.root.now (Err c.in-Err.fault) c.in-Err.ensures) need gap e);
  stands =
      λ held may.
      let now = g.D.Disk.state c.args.disk.now in
      leaves_same g.D.Disk.tells (state_of held.view) now (g.met.D.Disk.lawful c.args.disk.now) c.requires.switch.settled (held_now g.D.Disk.tells held c.args.levels c.args.ends c.args.next c.args.location now.content may);
}

pub returns-in-Err-clause-opened : goal.returns-in-Err-clause-opened
returns-in-Err-clause-opened g c = record {
  opened =
      λ o there may.
      let now = g.D.Disk.state c.args.disk.now in
      let lawful = g.met.D.Disk.lawful c.args.disk.now in
      leaves_start g.D.Disk.tells now (MayBecome now.limit o c.args.levels c.args.ends c.args.next c.args.location) lawful
      (λ z here. inl (subst (IsOpened o) (sym (c.requires.switch.settled z here)) (may (lawful.told z here)).is));
  opened_then =
      λ o there told may. tt;
}

pub returns-in-Err-clause-nothing : goal.returns-in-Err-clause-nothing
returns-in-Err-clause-nothing g c = record {
  memory =
      search rules;
  unwritten =
      search rules;
  why =
      λ need gap e.
      let now = g.D.Disk.state c.args.disk.now in
      full_places c.args.levels c.args.ends c.args.next c.args.location now.limit c.args.root.now c.in-Err.fault
      (drafts_as c.args.levels c.args.ends c.args.next c.args.location now.limit c.limit-limit.result c.limit-limit.ensures c.args.root.now (Err c.in-Err.fault) c.in-Err.ensures) need gap e;
}

pub returns-in-Err-clause-disk : goal.returns-in-Err-clause-disk
returns-in-Err-clause-disk g c = record {
  images =
      passes_start g.D.Disk.tells (g.D.Disk.state c.args.disk.now) (λ old new. ⊤) (g.met.D.Disk.lawful c.args.disk.now) (λ image. tt);
  durable =
      tt;
  spared =
      λ told. tt;
  cause =
      search rules;
  costs =
      search rules;
}

pub returns-in_err-pieces-clause-held : goal.returns-in_err-pieces-clause-held
returns-in_err-pieces-clause-held g c = record {
  works =
      λ held job told may. search rules;
  full =
      search rules;
  stands =
      λ held may.
      let now = g.D.Disk.state c.args.disk.now in
      leaves_same g.D.Disk.tells (state_of held.view) now (g.met.D.Disk.lawful c.args.disk.now) c.requires.switch.settled (held_now g.D.Disk.tells held c.args.levels c.args.ends c.args.next c.args.location now.content may);
}

pub returns-in_err-pieces-clause-opened : goal.returns-in_err-pieces-clause-opened
returns-in_err-pieces-clause-opened g c = record {
  opened =
      λ o there may.
      let now = g.D.Disk.state c.args.disk.now in
      let lawful = g.met.D.Disk.lawful c.args.disk.now in
      leaves_start g.D.Disk.tells now (MayBecome now.limit o c.args.levels c.args.ends c.args.next c.args.location) lawful
      (λ z here. inl (subst (IsOpened o) (sym (c.requires.switch.settled z here)) (may (lawful.told z here)).is));
  opened_then =
      λ o there told may. search rules;
}

pub returns-in_err-pieces-clause-disk : goal.returns-in_err-pieces-clause-disk
returns-in_err-pieces-clause-disk g c = record {
  images =
      passes_start g.D.Disk.tells (g.D.Disk.state c.args.disk.now) (λ old new. ⊤) (g.met.D.Disk.lawful c.args.disk.now) (λ image. tt);
  durable =
      search rules;
  spared =
      λ told. search rules;
  cause =
      search rules;
  costs =
      search rules;
}

pub returns-in_err-put_root-clause-held : goal.returns-in_err-put_root-clause-held
returns-in_err-put_root-clause-held g c = record {
  works =
      λ held job told may. search rules;
  full =
      search rules;
  stands =
      λ held may.
      let now = g.D.Disk.state c.args.disk.now in
      let later = levels_then c.args.levels held.view.levels c.in-Ok.draft.places in
      let coming = coming_by c.args.slot c.args.root.now c.args.levels c.args.ends c.args.next c.args.location c.in-Ok.draft.places later in
      leaves_one now (g.D.Disk.state c.put_root.new.disk) (state_of held.view)
      (c.put_root.ensures.stands (state_of held.view) (state_of held.view) coming later (held_now g.D.Disk.tells held c.args.levels c.args.ends c.args.next c.args.location now.content may)
      (λ told.
      let is = drafts_as c.args.levels c.args.ends c.args.next c.args.location now.limit c.limit-limit.result c.limit-limit.ensures c.args.root.now (Ok c.in-Ok.draft) c.in-Ok.ensures in
      brings_as (other c.args.slot) c.other.result c.other.ensures c.in-Ok.draft.root c.in_ok-pieces.pieces.items c.deref.result.now c.deref.ensures.value coming later (state_of held.view) now.content
      (bringing c.args.levels c.args.ends c.args.next c.args.location now.content (bytes_now g.D.Disk.tells now (g.met.D.Disk.lawful c.args.disk.now) told) c.args.slot c.args.root.now (c.requires.switch.counts told) now.limit held held.job (may told)
      c.in-Ok.draft is c.requires.names.few c.in_ok-pieces.pieces.items c.in_ok-pieces.ensures c.requires.names.number_is c.requires.names.location_is c.requires.names.rising
      (omega (arith, c.limit-limit.type_inv, c.limit-limit.ensures)) ((g.met.D.Disk.lawful c.args.disk.now).fits told)).brings_held));
}

pub returns-in_err-put_root-clause-opened : goal.returns-in_err-put_root-clause-opened
returns-in_err-put_root-clause-opened g c = record {
  opened =
      λ o there may.
      let now = g.D.Disk.state c.args.disk.now in
      let coming = coming_at o c.args.levels c.args.ends c.args.next c.args.location c.in-Ok.draft.places in
      let naming_is : g.D.Disk.tells → IsNaming o c.args.levels c.args.ends c.args.next c.args.location now.limit c.args.slot c.in-Ok.draft c.in_ok-pieces.pieces.items now.content = λ told.
      naming c.args.levels c.args.ends c.args.next c.args.location now.content (bytes_now g.D.Disk.tells now (g.met.D.Disk.lawful c.args.disk.now) told) c.args.slot c.args.root.now (c.requires.switch.counts told) now.limit c.in-Ok.draft
      (drafts_as c.args.levels c.args.ends c.args.next c.args.location now.limit c.limit-limit.result c.limit-limit.ensures c.args.root.now (Ok c.in-Ok.draft) c.in-Ok.ensures) c.requires.names.few
      c.in_ok-pieces.pieces.items c.in_ok-pieces.ensures c.requires.names.number_is c.requires.names.location_is c.requires.names.rising (omega (arith, c.limit-limit.type_inv, c.limit-limit.ensures)) o there (may told) in
      leaves_told g.D.Disk.tells now (g.D.Disk.state c.put_root.new.disk) (IsOpenedEither o coming) (MayBecome now.limit o c.args.levels c.args.ends c.args.next c.args.location)
      (Putting c.other.result c.in-Ok.draft.root c.deref.result.now) (g.met.D.Disk.lawful c.args.disk.now) c.put_root.ensures.syncs.images
      (c.put_root.ensures.opened o coming (λ told. (may told).is)
      (λ told. names_as (other c.args.slot) c.other.result c.other.ensures c.in-Ok.draft.root c.in_ok-pieces.pieces.items c.deref.result.now c.deref.ensures.value coming now.content (naming_is told).names))
      (λ told z either. ⊎_elim (λ before. inl before) (λ later. inr (coming, (naming_is told).coming_is, later)) either);
  opened_then =
      λ o there told may. search rules;
}

pub returns-in_err-put_root-clause-disk : goal.returns-in_err-put_root-clause-disk
returns-in_err-put_root-clause-disk g c = record {
  images =
      passes_as (g.D.Disk.state c.args.disk.now) (g.D.Disk.state c.put_root.new.disk) (Putting c.other.result c.in-Ok.draft.root c.deref.result.now) (λ old new. ⊤) c.put_root.ensures.syncs.images
      (λ z left. (left.0, left.1, tt));
  durable =
      search rules;
  spared =
      λ told. search rules;
  cause =
      search rules;
  costs =
      search rules;
}

pub returns-clause-held : goal.returns-clause-held
returns-clause-held g c = record {
  works =
      λ held job told may.
      let now = g.D.Disk.state c.args.disk.now in
      let is = drafts_as c.args.levels c.args.ends c.args.next c.args.location now.limit c.limit-limit.result c.limit-limit.ensures c.args.root.now (Ok c.in-Ok.draft) c.in-Ok.ensures in
      let then = then_of held c.args.root.now c.args.levels c.args.ends job c.in-Ok.draft.places in
      let later = levels_then c.args.levels held.view.levels c.in-Ok.draft.places in
      let coming = coming_by c.args.slot c.args.root.now c.args.levels c.args.ends c.args.next c.args.location c.in-Ok.draft.places later in
      let will = bringing c.args.levels c.args.ends c.args.next c.args.location now.content (bytes_now g.D.Disk.tells now (g.met.D.Disk.lawful c.args.disk.now) told) c.args.slot c.args.root.now (c.requires.switch.counts told) now.limit held job may
      c.in-Ok.draft is c.requires.names.few c.in_ok-pieces.pieces.items c.in_ok-pieces.ensures c.requires.names.number_is c.requires.names.location_is c.requires.names.rising
      (omega (arith, c.limit-limit.type_inv, c.limit-limit.ensures)) ((g.met.D.Disk.lawful c.args.disk.now).fits told) in
      let (middle, puts, switched) = c.in_ok-put_root.ensures.put told in (
        then,
        record {
          switched_is = will.switched_is;
          is = c.in_ok-put_root.ensures.held then coming told
              (brings_as (other c.args.slot) c.other.result c.other.ensures c.in-Ok.draft.root c.in_ok-pieces.pieces.items c.deref.result.now c.deref.ensures.value coming later (state_of then.view) now.content will.brings_then) will.view_is refl;
          slot_is = c.other-2.ensures;
          counts = subst (λ (s : Slot). Counts s c.in-Ok.draft.root (g.D.Disk.state c.put_root.new.disk).content) (c.other.ensures ∙ sym c.other-2.ensures) switched.counts;
          tables = tables_done c.args.levels held.view.levels now.limit c.args.root.now c.args.ends c.args.next c.args.location c.in-Ok.draft is;
        },
      );
  full =
      search rules;
  stands =
      λ held may.
      let now = g.D.Disk.state c.args.disk.now in
      let later = levels_then c.args.levels held.view.levels c.in-Ok.draft.places in
      let coming = coming_by c.args.slot c.args.root.now c.args.levels c.args.ends c.args.next c.args.location c.in-Ok.draft.places later in
      leaves_one now (g.D.Disk.state c.put_root.new.disk) (state_of held.view)
      (c.put_root.ensures.stands (state_of held.view) (state_of held.view) coming later (held_now g.D.Disk.tells held c.args.levels c.args.ends c.args.next c.args.location now.content may)
      (λ told.
      let is = drafts_as c.args.levels c.args.ends c.args.next c.args.location now.limit c.limit-limit.result c.limit-limit.ensures c.args.root.now (Ok c.in-Ok.draft) c.in-Ok.ensures in
      brings_as (other c.args.slot) c.other.result c.other.ensures c.in-Ok.draft.root c.in_ok-pieces.pieces.items c.deref.result.now c.deref.ensures.value coming later (state_of held.view) now.content
      (bringing c.args.levels c.args.ends c.args.next c.args.location now.content (bytes_now g.D.Disk.tells now (g.met.D.Disk.lawful c.args.disk.now) told) c.args.slot c.args.root.now (c.requires.switch.counts told) now.limit held held.job (may told)
      c.in-Ok.draft is c.requires.names.few c.in_ok-pieces.pieces.items c.in_ok-pieces.ensures c.requires.names.number_is c.requires.names.location_is c.requires.names.rising
      (omega (arith, c.limit-limit.type_inv, c.limit-limit.ensures)) ((g.met.D.Disk.lawful c.args.disk.now).fits told)).brings_held));
}

pub returns-clause-opened : goal.returns-clause-opened
returns-clause-opened g c = record {
  opened =
      λ o there may.
      let now = g.D.Disk.state c.args.disk.now in
      let coming = coming_at o c.args.levels c.args.ends c.args.next c.args.location c.in-Ok.draft.places in
      let naming_is : g.D.Disk.tells → IsNaming o c.args.levels c.args.ends c.args.next c.args.location now.limit c.args.slot c.in-Ok.draft c.in_ok-pieces.pieces.items now.content = λ told.
      naming c.args.levels c.args.ends c.args.next c.args.location now.content (bytes_now g.D.Disk.tells now (g.met.D.Disk.lawful c.args.disk.now) told) c.args.slot c.args.root.now (c.requires.switch.counts told) now.limit c.in-Ok.draft
      (drafts_as c.args.levels c.args.ends c.args.next c.args.location now.limit c.limit-limit.result c.limit-limit.ensures c.args.root.now (Ok c.in-Ok.draft) c.in-Ok.ensures) c.requires.names.few
      c.in_ok-pieces.pieces.items c.in_ok-pieces.ensures c.requires.names.number_is c.requires.names.location_is c.requires.names.rising (omega (arith, c.limit-limit.type_inv, c.limit-limit.ensures)) o there (may told) in
      leaves_told g.D.Disk.tells now (g.D.Disk.state c.put_root.new.disk) (IsOpenedEither o coming) (MayBecome now.limit o c.args.levels c.args.ends c.args.next c.args.location)
      (Putting c.other.result c.in-Ok.draft.root c.deref.result.now) (g.met.D.Disk.lawful c.args.disk.now) c.put_root.ensures.syncs.images
      (c.put_root.ensures.opened o coming (λ told. (may told).is)
      (λ told. names_as (other c.args.slot) c.other.result c.other.ensures c.in-Ok.draft.root c.in_ok-pieces.pieces.items c.deref.result.now c.deref.ensures.value coming now.content (naming_is told).names))
      (λ told z either. ⊎_elim (λ before. inl before) (λ later. inr (coming, (naming_is told).coming_is, later)) either);
  opened_then =
      λ o there told may.
      let now = g.D.Disk.state c.args.disk.now in
      let coming = coming_at o c.args.levels c.args.ends c.args.next c.args.location c.in-Ok.draft.places in
      let drafted = drafts_as c.args.levels c.args.ends c.args.next c.args.location now.limit c.limit-limit.result c.limit-limit.ensures c.args.root.now (Ok c.in-Ok.draft) c.in-Ok.ensures in
      let is = naming c.args.levels c.args.ends c.args.next c.args.location now.content (bytes_now g.D.Disk.tells now (g.met.D.Disk.lawful c.args.disk.now) told) c.args.slot c.args.root.now (c.requires.switch.counts told) now.limit c.in-Ok.draft
      drafted c.requires.names.few c.in_ok-pieces.pieces.items c.in_ok-pieces.ensures c.requires.names.number_is c.requires.names.location_is c.requires.names.rising (omega (arith, c.limit-limit.type_inv, c.limit-limit.ensures)) o there may in (
        coming,
        record {
          coming_is = is.coming_is;
          is = c.in_ok-put_root.ensures.opened_then coming told
              (names_as (other c.args.slot) c.other.result c.other.ensures c.in-Ok.draft.root c.in_ok-pieces.pieces.items c.deref.result.now c.deref.ensures.value coming now.content is.names);
          slot_is = c.other-2.ensures ∙ ap other is.slot_is;
          root_is = sym is.names.root_is;
          levels_are = tables_opened c.args.levels o now.limit c.args.root.now c.args.ends c.args.next c.args.location c.in-Ok.draft drafted;
        },
      );
}

pub returns-clause-answers : goal.returns-clause-answers
returns-clause-answers g c = record {
  counts =
      search rules;
  version =
      let now = g.D.Disk.state c.args.disk.now in
      let is = drafts_as c.args.levels c.args.ends c.args.next c.args.location now.limit c.limit-limit.result c.limit-limit.ensures c.args.root.now (Ok c.in-Ok.draft) c.in-Ok.ensures in
      ap (λ (r : Root). r.version) is.root_is;
  rows =
      let now = g.D.Disk.state c.args.disk.now in
      draft_rows now.limit c.args.root.now c.args.levels c.args.ends c.args.next c.args.location c.in-Ok.draft
      (drafts_as c.args.levels c.args.ends c.args.next c.args.location now.limit c.limit-limit.result c.limit-limit.ensures c.args.root.now (Ok c.in-Ok.draft) c.in-Ok.ensures);
  extents =
      let now = g.D.Disk.state c.args.disk.now in
      draft_extents now.limit c.args.root.now c.args.levels c.args.ends c.args.next c.args.location c.in-Ok.draft
      (drafts_as c.args.levels c.args.ends c.args.next c.args.location now.limit c.limit-limit.result c.limit-limit.ensures c.args.root.now (Ok c.in-Ok.draft) c.in-Ok.ensures)
      (omega (arith, c.limit-limit.type_inv, c.limit-limit.ensures));
  none =
      λ empty.
      let now = g.D.Disk.state c.args.disk.now in
      draft_none now.limit c.args.root.now c.args.levels c.args.ends c.args.next c.args.location c.in-Ok.draft
      (drafts_as c.args.levels c.args.ends c.args.next c.args.location now.limit c.limit-limit.result c.limit-limit.ensures c.args.root.now (Ok c.in-Ok.draft) c.in-Ok.ensures) empty;
}

pub returns-clause-disk : goal.returns-clause-disk
returns-clause-disk g c = record {
  images =
      passes_as (g.D.Disk.state c.args.disk.now) (g.D.Disk.state c.put_root.new.disk) (Putting c.other.result c.in-Ok.draft.root c.deref.result.now) (λ old new. ⊤) c.put_root.ensures.syncs.images
      (λ z left. (left.0, left.1, tt));
  durable =
      search rules;
  spared =
      λ told.
      let now = g.D.Disk.state c.args.disk.now in
      let then = g.D.Disk.state c.put_root.new.disk in
      let is = drafts_as c.args.levels c.args.ends c.args.next c.args.location now.limit c.limit-limit.result c.limit-limit.ensures c.args.root.now (Ok c.in-Ok.draft) c.in-Ok.ensures in
      let may = draft_may now.limit c.args.root.now c.args.levels c.args.ends c.args.next c.args.location c.in-Ok.draft is c.in_ok-pieces.pieces.items c.in_ok-pieces.ensures
      c.args.slot now.content (c.requires.switch.counts told) c.requires.names.few c.requires.names.number_is c.requires.names.location_is in
      let put = c.in_ok-put_root.ensures.put told in
      levels_spared c.args.slot c.args.root.now c.in-Ok.draft.root c.in_ok-pieces.pieces.items now.limit now.content put.0 then.content may (c.requires.switch.counts told)
      (subst (λ (s : Slot). Puts s c.in_ok-pieces.pieces.items now.content put.0) c.other.ensures (subst (λ (ps : List Piece). Puts c.other.result ps now.content put.0) c.deref.ensures.value put.1))
      (subst (λ (s : Slot). Touches (slot_range s) put.0 then.content) c.other.ensures put.2.touches);
  cause =
      search rules;
  costs =
      search rules;
}
