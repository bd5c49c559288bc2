-- One event more.
use Rattle.std.proofs.Common.{◌≡◌, ◌⊎◌, ⊎_elim, inl, inr, ℕ, zero, suc, ◌<◌, get_or, ◌+◌, ◌≤◌, Bool, true, false, Vec, Global, List, [], ◌∷◌, ◌++◌, length, take, drop, refl, sym, ◌∙◌, ap, subst, arith, length-append}
use Rattle.std.specs.Prelude.{nat_le, if◌then◌else◌}
use Rattle.std.proofs.lemmas.Bool.Decides.{nat_tests}
use Rattle.std.proofs.lemmas.Bool.{and_parts, and_from, cases_lt}
use Rattle.std.proofs.lemmas.List.{take_more, take_all, drop_all, take-append-le, drop-append-le}
use Rattle.alta_codec.specs.Bytes.{AreBytes}
use Rattle.alta_codec.proofs.ByteLaws.{AreBytes-append, AreBytes-take, AreBytes-drop}
use Rattle.alta_disk.specs.Disk.{After, Same, Torn, Holds, Passes}
use Rattle.alta_disk.specs.MediaLaws.{image_after, torn_same}
use Rattle.alta_disk.specs.Media.{Media, start, put, step, after, begins_inside, is_sound, IsImage, MayLeave, MayHaveLeft, state_of, ranges_after, IsKept}
use Rattle.alta_disk.specs.Images.{Pends, Tears, Firms, Stays}
use Rattle.alta_disk.specs.declared.event.Event.{Event}
use Rattle.alta_disk.specs.declared.event.Event.TheVariants.{Wrote, Tore, Synced}

after-push : (m : Media) (es : List Event) (e : Event) → after m (es ++ e ∷ []) ≡ step (after m es) e
after-push m [] e = refl
after-push m (x ∷ es) e = after-push (step m x) es e

sound-push : (m : Media) (es : List Event) (e : Event) → is_sound m es ≡ true → begins_inside (after m es) e ≡ true → is_sound m (es ++ e ∷ []) ≡ true
sound-push m [] e sound inside = and_from (begins_inside m e) true inside refl
sound-push m (x ∷ es) e sound inside =
    let parts = and_parts (begins_inside m x) (is_sound (step m x) es) sound in and_from (begins_inside m x) (is_sound (step m x) (es ++ e ∷ [])) parts.0 (sound-push (step m x) es e parts.1 inside)

pub after_pushed : (m : Media) (es items : List Event) (e : Event) → items ≡ es ++ e ∷ [] → after m items ≡ step (after m es) e
after_pushed m es items e is = ap (λ (l : List Event). after m l) is ∙ after-push m es e

pub sound_pushed : (m : Media) (es items : List Event) (e : Event) → items ≡ es ++ e ∷ [] → is_sound m es ≡ true → begins_inside (after m es) e ≡ true → is_sound m items ≡ true
sound_pushed m es items e is sound inside = ap (λ (l : List Event). is_sound m l) is ∙ sound-push m es e sound inside

-- a call that adds an event takes each image by its step
pub passes_pushed : (first first' : List ℕ) (es items : List Event) (e : Event) (move : List ℕ → List ℕ → Type 0) (faults taken limit faults' taken' limit' : ℕ) → first' ≡ first → items ≡ es ++ e ∷ []
    → ((c : List ℕ) → MayLeave (step (after (start first) es) e) c → After (MayLeave (after (start first) es)) move c)
    → Passes move (state_of first es faults taken limit) (state_of first' items faults' taken' limit')
passes_pushed first first' es items e move faults taken limit faults' taken' limit' same is moves =
    subst (λ (f : List ℕ). Passes move (state_of first es faults taken limit) (state_of f items faults' taken' limit')) (sym same)
    (subst (λ (l : List Event). Passes move (state_of first es faults taken limit) (state_of first l faults' taken' limit')) (sym is) pushed)
  where
    pushed : Passes move (state_of first es faults taken limit) (state_of first (es ++ e ∷ []) faults' taken' limit')
    pushed = record {
      later = omega (arith, length-append es (e ∷ []));
      now = now;
      between = λ t c le left. between t c left.0 left.1 left.2 left.3 (le_cases left.0 (length es));
      keeps = λ t c le left. (left.0, left.1, omega (arith, left.2, length-append es (e ∷ [])), subst (λ (l : List Event). MayLeave (after (start first) l) c) (sym (take-append-le left.0 es (e ∷ []) left.2)) left.3);
    }
      where
        now : (c : List ℕ) → MayLeave (after (start first) (es ++ e ∷ [])) c → After (MayLeave (after (start first) es)) move c
        now c here = moves c (subst (λ (m : Media). MayLeave m c) (after-push (start first) es e) here)

        le_cases : (k n : ℕ) → (k ≤ n) ⊎ (n + 1 ≤ k)
        le_cases k n = grind arith

        between : (t : ℕ) (c : List ℕ) (k : ℕ) → t ≤ k → k ≤ length (es ++ e ∷ []) → MayLeave (after (start first) (take k (es ++ e ∷ []))) c → (k ≤ length es) ⊎ (length es + 1 ≤ k)
            → MayHaveLeft first es t c ⊎ After (MayLeave (after (start first) es)) move c
        between t c k le within here (inl old) = inl (k, le, old, subst (λ (l : List Event). MayLeave (after (start first) l) c) (take-append-le k es (e ∷ []) old) here)
        between t c k le within here (inr last) =
            inr (now c (subst (λ (l : List Event). MayLeave (after (start first) l) c) (take_all k (es ++ e ∷ []) (omega (arith, length-append es (e ∷ [])))) here))

pub inside_test : (at : ℕ) (content : List ℕ) (m : Media) → content ≡ m.content → at ≤ length content → nat_le at (length m.content) ≡ true
inside_test at content m is le = let n : length content ≡ length m.content = ap length is in grind (arith, nat_tests)

-- the ranges of one event more
ranges_push : (earlier : List (ℕ × ℕ)) (es : List Event) (e : Event) → ranges_after earlier (es ++ e ∷ []) ≡ ranges_after (ranges_after earlier es) (e ∷ [])
ranges_push earlier [] e = refl
ranges_push earlier (Wrote at bytes ∷ es) e = ranges_push ((at, length bytes.items) ∷ earlier) es e
ranges_push earlier (Tore at n ∷ es) e = ranges_push ((at, n) ∷ earlier) es e
ranges_push earlier (Synced ∷ es) e = ranges_push earlier es e

-- what is kept agrees with one event more, after which the same is firm
module _ (first content : List ℕ) (es : List Event) (synced : ℕ) (kept : IsKept first content es synced) where
  content_bytes : AreBytes content
  content_bytes = subst AreBytes (sym (kept.seen ∙ sym (ap (λ (l : List Event). (after (start first) l).content) (take_all (length es) es (omega arith))))) (kept.bytes (length es))

  -- content after one event more is bytes at each moment
  bytes_more : (content' : List ℕ) (items : List Event) (e : Event) → items ≡ es ++ e ∷ [] → content' ≡ (after (start first) items).content → AreBytes content' → (k : ℕ) → AreBytes (after (start first) (take k items)).content
  bytes_more content' items e is seen fits k =
      ⊎_elim (λ old. subst (λ (l : List Event). AreBytes (after (start first) l).content) (sym (ap (λ (l : List Event). take k l) is ∙ take-append-le k es (e ∷ []) (omega (arith, old)))) (kept.bytes k))
      (λ new. subst (λ (l : List Event). AreBytes (after (start first) l).content) (sym (take_all k items (omega (arith, new, ap length is, length-append es (e ∷ []))))) (subst AreBytes seen fits))
      (cases_lt k (length es + 1))

  kept_more : (content' : List ℕ) (items : List Event) (e : Event) → AreBytes content' → items ≡ es ++ e ∷ [] → begins_inside (after (start first) es) e ≡ true → content' ≡ (step (after (start first) es) e).content
      → (step (after (start first) es) e).firm ≡ (after (start first) es).firm → (step (after (start first) es) e).pending ≡ ranges_after (after (start first) es).pending (e ∷ [])
      → IsKept first content' items synced
  kept_more content' items e fits is inside content_is firm_is pending_is =
      let pushed = after_pushed (start first) es items e is in
      record {
        seen = content_is ∙ sym (ap (λ (m : Media). m.content) pushed);
        sound = sound_pushed (start first) es items e is kept.sound inside;
        bytes = bytes_more content' items e is (content_is ∙ sym (ap (λ (m : Media). m.content) pushed)) fits;
        within = omega (arith, kept.within, ap length is, length-append es (e ∷ []));
        firm = ap (λ (m : Media). m.firm) pushed ∙ firm_is ∙ kept.firm ∙ ap (λ (l : List Event). (after (start first) l).content) (sym (ap (λ (l : List Event). take synced l) is ∙ take-append-le synced es (e ∷ []) kept.within));
        pending = ap (λ (m : Media). m.pending) pushed ∙ pending_is ∙ ap (λ (r : List (ℕ × ℕ)). ranges_after r (e ∷ [])) kept.pending ∙ sym (ranges_push [] (drop synced es) e)
            ∙ ap (λ (l : List Event). ranges_after [] l) (sym (ap (λ (l : List Event). drop synced l) is ∙ drop-append-le synced es (e ∷ []) kept.within));
      }

  -- after a write that is done
  pub kept_wrote : (content' : List ℕ) (items : List Event) (at : ℕ) (v : Vec ℕ Global) (bytes : List ℕ) → AreBytes bytes → items ≡ es ++ Wrote at v ∷ [] → v.items ≡ bytes → at ≤ length content → Holds content at bytes content'
      → IsKept first content' items synced
  kept_wrote content' items at v bytes fits is copied inside holds =
      kept_more content' items (Wrote at v) (subst AreBytes (sym holds) put_fits) is (inside_test at content (after (start first) es) kept.seen inside)
      (holds ∙ ap (λ (l : List ℕ). put l at bytes) kept.seen ∙ ap (λ (l : List ℕ). put (after (start first) es).content at l) (sym copied)) refl refl
    where
      put_fits : AreBytes (put content at bytes)
      put_fits =
          AreBytes-append (take at content ++ bytes) (drop (at + length bytes) content) (AreBytes-append (take at content) bytes (AreBytes-take at content content_bytes) fits) (AreBytes-drop (at + length bytes) content content_bytes)

  -- after a write that failed, if there was room to keep it
  pub kept_tore : (content' : List ℕ) (items : List Event) (at n : ℕ) (room : Bool) → items ≡ (if room then es ++ Tore at n ∷ [] else es) → at ≤ length content → content' ≡ content
      → IsKept first content' items synced
  kept_tore content' items at n true is inside same = kept_more content' items (Tore at n) (subst AreBytes (sym same) content_bytes) is (inside_test at content (after (start first) es) kept.seen inside) (same ∙ kept.seen) refl refl
  kept_tore content' items at n false is inside same =
      subst (λ (l : List ℕ). IsKept first l items synced) (sym same) (subst (λ (l : List Event). IsKept first content l synced) (sym is) kept)

  -- after a sync
  pub kept_synced : (items : List Event) (n : ℕ) → items ≡ es ++ Synced ∷ [] → n ≡ length items → IsKept first content items n
  kept_synced items n is all =
      let pushed = after_pushed (start first) es items Synced is in
      record {
        seen = kept.seen ∙ sym (ap (λ (m : Media). m.content) pushed);
        sound = sound_pushed (start first) es items Synced is kept.sound refl;
        bytes = bytes_more content items Synced is (kept.seen ∙ sym (ap (λ (m : Media). m.content) pushed)) content_bytes;
        within = omega (arith, all);
        firm = ap (λ (m : Media). m.firm) pushed ∙ sym (ap (λ (m : Media). m.content) pushed) ∙ ap (λ (l : List Event). (after (start first) l).content) (sym (take_all n items (omega (arith, all))));
        pending = ap (λ (m : Media). m.pending) pushed ∙ ap (λ (l : List Event). ranges_after [] l) (sym (drop_all n items (omega (arith, all))));
      }

-- a sync that is done
pub synced_only : (first first' : List ℕ) (es items : List Event) → first' ≡ first → items ≡ es ++ Synced ∷ [] → (c : List ℕ) → MayLeave (after (start first') items) c → c ≡ (after (start first) es).content
synced_only first first' es items same is c here =
    subst (λ (m : Media). MayLeave m c) (after_pushed (start first) es items Synced is) (subst (λ (f : List ℕ). MayLeave (after (start f) items) c) same here)

-- each image after a sync is the content, which was one of the images
pub synced_moves : (first : List ℕ) (es : List Event) → is_sound (start first) es ≡ true → ((k : ℕ) → AreBytes (after (start first) (take k es)).content) → (c : List ℕ) → MayLeave (step (after (start first) es) Synced) c → After (MayLeave (after (start first) es)) Same c
synced_moves first es sound fits c here = ((after (start first) es).content, image_after (start first) es refl sound fits, here)

-- each image after a write is one from before it, torn
pub wrote_moves : (first : List ℕ) (es : List Event) (at : ℕ) (v : Vec ℕ Global) (bytes : List ℕ) → v.items ≡ bytes → (c : List ℕ) → MayLeave (step (after (start first) es) (Wrote at v)) c → After (MayLeave (after (start first) es)) (Torn at (length bytes)) c
wrote_moves first es at v bytes copied c (d, before, (torn, fits)) = subst (λ (l : List ℕ). After (MayLeave (after (start first) es)) (Torn at (length l)) c) copied (d, before, torn)

pub tore_moves : (first : List ℕ) (es : List Event) (at n : ℕ) (c : List ℕ) → MayLeave (step (after (start first) es) (Tore at n)) c → After (MayLeave (after (start first) es)) (Torn at n) c
tore_moves first es at n c (d, before, (torn, fits)) = (d, before, torn)

-- the next event of a replay
pub after_more : (m : Media) (es : List Event) (i : ℕ) (e : Event) → i < length es → e ≡ get_or es i e → after m (take (i + 1) es) ≡ step (after m (take i es)) e
after_more m es i e inside item = after_pushed m (take i es) (take (i + 1) es) e (take_more es i e inside ∙ ap (λ (x : Event). take i es ++ x ∷ []) (sym item))

-- and it begins inside the content
pub begins_next : (m : Media) (es : List Event) (i : ℕ) (e : Event) → i < length es → e ≡ get_or es i e → is_sound m es ≡ true → begins_inside (after m (take i es)) e ≡ true
begins_next m [] i e inside item sound = absurd (omega arith)
begins_next m (x ∷ es) zero e inside item sound = ap (λ (y : Event). begins_inside m y) item ∙ (and_parts (begins_inside m x) (is_sound (step m x) es) sound).0
begins_next m (x ∷ es) (suc i) e inside item sound = begins_next (step m x) es i e (omega arith) item (and_parts (begins_inside m x) (is_sound (step m x) es) sound).1

-- what a call leaves, exactly
module _ (first first' : List ℕ) (es items : List Event) (same : first' ≡ first) where
  media_pushed : (e : Event) → items ≡ es ++ e ∷ [] → after (start first') items ≡ step (after (start first) es) e
  media_pushed e is = ap (λ (f : List ℕ). after (start f) items) same ∙ after_pushed (start first) es items e is

  pub wrote_pends : (at : ℕ) (v : Vec ℕ Global) (bytes : List ℕ) → items ≡ es ++ Wrote at v ∷ [] → v.items ≡ bytes → Pends at (length bytes) (after (start first) es) (after (start first') items)
  wrote_pends at v bytes is copied =
      subst (λ (l : List ℕ). Pends at (length l) (after (start first) es) (after (start first') items)) copied
      (subst (λ (m : Media). Pends at (length v.items) (after (start first) es) m) (sym (media_pushed (Wrote at v) is)) (record { firm = refl; pending = refl; images = λ c. (λ here. here, λ here. here) }))

  pub tore_tears : (at n : ℕ) → items ≡ es ++ Tore at n ∷ [] → Tears at n (after (start first) es) (after (start first') items)
  tore_tears at n is =
      subst (λ (m : Media). Tears at n (after (start first) es) m) (sym (media_pushed (Tore at n) is))
      (record { content = refl; pends = record { firm = refl; pending = refl; images = λ c. (λ here. here, λ here. here) } })

  pub synced_firms : items ≡ es ++ Synced ∷ [] → Firms (after (start first) es) (after (start first') items)
  synced_firms is = subst (λ (m : Media). Firms (after (start first) es) m) (sym (media_pushed Synced is)) (record { content = refl; firm = refl; pending = refl; images = λ c. (λ here. here, λ here. here) })

  pub idle_stays : items ≡ es → Stays (after (start first) es) (after (start first') items)
  idle_stays is =
      let unmoved : after (start first') items ≡ after (start first) es = ap (λ (f : List ℕ). after (start f) items) same ∙ ap (λ (l : List Event). after (start first) l) is in
      record { same = unmoved; images = λ c. (subst (λ (m : Media). MayLeave m c) unmoved, subst (λ (m : Media). MayLeave m c) (sym unmoved)) }

-- the front of sound events is sound
pub sound_front : (m : Media) (es : List Event) (k : ℕ) → is_sound m es ≡ true → is_sound m (take k es) ≡ true
sound_front m es zero sound = refl
sound_front m [] (suc k) sound = refl
sound_front m (e ∷ es) (suc k) sound =
    let parts = and_parts (begins_inside m e) (is_sound (step m e) es) sound in and_from (begins_inside m e) (is_sound (step m e) (take k es)) parts.0 (sound_front (step m e) es k parts.1)

pub sound_front_of : (first : List ℕ) (events : List Event) (first' : List ℕ) (events' : List Event) (k : ℕ) → first' ≡ first → events' ≡ events → is_sound (start first) events ≡ true
    → is_sound (start first') (take k events') ≡ true
sound_front_of first events first' events' k same all sound =
    subst (λ (f : List ℕ). is_sound (start f) (take k events') ≡ true) (sym same) (subst (λ (l : List Event). is_sound (start first) (take k l) ≡ true) (sym all) (sound_front (start first) events k sound))

-- the ranges of the next event
pub ranges_more : (es : List Event) (i : ℕ) (e : Event) → i < length es → e ≡ get_or es i e → ranges_after [] (take (i + 1) es) ≡ ranges_after (ranges_after [] (take i es)) (e ∷ [])
ranges_more es i e inside item = ap (λ (l : List Event). ranges_after [] l) (take_more es i e inside ∙ ap (λ (x : Event). take i es ++ x ∷ []) (sym item)) ∙ ranges_push [] (take i es) e

-- the firm bytes are one of the images
firm_image : (firm : List ℕ) (ranges : List (ℕ × ℕ)) → AreBytes firm → IsImage firm ranges firm
firm_image firm [] fits = refl
firm_image firm (range ∷ ranges) fits = (firm, firm_image firm ranges fits, (torn_same range.0 range.1 firm, fits))

pub firm_left : (m : Media) (image : List ℕ) → AreBytes m.firm → image ≡ m.firm → MayLeave m image
firm_left m image fits is = subst (λ (l : List ℕ). MayLeave m l) (sym is) (firm_image m.firm m.pending fits)

-- so is the content
pub content_left : (first : List ℕ) (events : List Event) (image : List ℕ) → is_sound (start first) events ≡ true → ((k : ℕ) → AreBytes (after (start first) (take k events)).content) → image ≡ (after (start first) events).content → MayLeave (after (start first) events) image
content_left first events image sound fits is = subst (λ (l : List ℕ). MayLeave (after (start first) events) l) (sym is) (image_after (start first) events refl sound fits)
