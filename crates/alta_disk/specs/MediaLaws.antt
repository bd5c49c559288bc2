-- A disk in memory keeps what each disk keeps.
use Rattle.std.specs.Prelude.{◌≡◌, ℕ, zero, suc, ◌≤◌, true, nat_le, List, [], ◌∷◌, length, take}
use Rattle.std.proofs.Common.{refl, sym, ap, subst, arith}
use Rattle.std.proofs.lemmas.Bool.{and_parts}
use Rattle.std.proofs.lemmas.Bool.Decides.{nat_tests}
use Rattle.std.proofs.lemmas.List.{take_all}
use Rattle.alta_codec.specs.Bytes.{AreBytes}
use Rattle.alta_disk.specs.Disk.{Torn, IsLawful}
use Rattle.alta_disk.specs.Writes.{holds_torn}
use Rattle.alta_disk.specs.Media.{Media, start, put, step, after, begins_inside, is_sound, IsImage, MayLeave, state_of, IsKept}
use Rattle.alta_disk.specs.declared.event.Event.{Event}
use Rattle.alta_disk.specs.declared.event.Event.TheVariants.{Wrote, Tore, Synced}

pub begins : (m : Media) (at : ℕ) → nat_le at (length m.content) ≡ true → at ≤ length m.content
begins m at is = grind (arith, nat_tests)

pub torn_same : (at n : ℕ) (c : List ℕ) → Torn at n c c
torn_same at n c = record { before = refl; after = refl; no_shorter = omega arith; no_longer = omega arith }

-- one event more leaves the content as one of the images
image_step : (m : Media) (e : Event) → MayLeave m m.content → begins_inside m e ≡ true → AreBytes (step m e).content
    → MayLeave (step m e) (step m e).content
image_step m (Wrote at bytes) here inside fits = (
  m.content,
  here,
  (
    holds_torn m.content at bytes.items (put m.content at bytes.items)
        (begins m at inside) refl,
    fits,
  ),
)
image_step m (Tore at n) here inside fits = (m.content, here, (torn_same at n m.content, fits))
image_step m Synced here inside fits = refl

pub image_after : (m : Media) (es : List Event) → MayLeave m m.content → is_sound m es ≡ true
    → ((k : ℕ) → AreBytes (after m (take k es)).content) → MayLeave (after m es) (after m es).content
image_after m [] here sound fits = here
image_after m (e ∷ es) here sound fits =
    let parts = and_parts (begins_inside m e) (is_sound (step m e) es) sound
    in image_after (step m e) es (image_step m e here parts.0 (fits 1)) parts.1 (λ k. fits (suc k))

-- what is firm was content, so it is bytes
step_firm : (m : Media) (e : Event) → AreBytes m.firm → AreBytes m.content → AreBytes (step m e).firm
step_firm m (Wrote at bytes) firm content = firm
step_firm m (Tore at n) firm content = firm
step_firm m Synced firm content = content

firm_bytes : (m : Media) (es : List Event) → AreBytes m.firm → ((k : ℕ) → AreBytes (after m (take k es)).content)
    → (k : ℕ) → AreBytes (after m (take k es)).firm
firm_bytes m es firm fits zero = firm
firm_bytes m [] firm fits (suc k) = firm
firm_bytes m (e ∷ es) firm fits (suc k) = firm_bytes (step m e) es (step_firm m e firm (fits 0)) (λ j. fits (suc j)) k

pub firm_after : (m : Media) (es : List Event) → AreBytes m.firm → ((k : ℕ) → AreBytes (after m (take k es)).content)
    → AreBytes (after m es).firm
firm_after m [] firm fits = firm
firm_after m (e ∷ es) firm fits = firm_after (step m e) es (step_firm m e firm (fits 0)) (λ j. fits (suc j))

image_bytes : (firm : List ℕ) (pending : List (ℕ × ℕ)) (c : List ℕ) → AreBytes firm
    → IsImage firm pending c → AreBytes c
image_bytes firm [] c fits same = subst AreBytes (sym same) fits
image_bytes firm (range ∷ ranges) c fits (d, before, (torn, bytes)) = bytes

pub media_lawful : (first : List ℕ) (events : List Event) (faults taken limit : ℕ) (content : List ℕ) (synced : ℕ)
    → IsKept first content events synced → length content ≤ limit
    → IsLawful (Unit {0}) (state_of first events faults taken limit)
media_lawful first events faults taken limit content synced kept fits = record {
  fits = λ told. omega (arith, fits, ap length kept.seen);
  present = λ told. image_after (start first) events refl kept.sound kept.bytes;
  told = λ c here. tt;
  counts_now = λ t c le here. (
    length events,
    le,
    omega arith,
    subst
        (λ (es : List Event). MayLeave (after (start first) es) c) (sym (whole (length events) (omega arith))) here,
  );
  bytes = λ t c left. let m = after (start first) (take left.0 events)
      in image_bytes m.firm m.pending c (firm_bytes (start first) events (kept.bytes 0) kept.bytes left.0) left.3;
  only_now = λ c left. subst (λ (es : List Event). MayLeave (after (start first) es) c) (whole left.0 left.1) left.3;
}
  where
    whole : (k : ℕ) → length events ≤ k → take k events ≡ events
    whole k le = take_all k events le
