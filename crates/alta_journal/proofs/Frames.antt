-- What the layers above need of a half, under a root of any version: where its tail lies, and what leaves its entries as they are.
use Rattle.std.proofs.Common.{◌≡◌, ℕ, ◌+◌, ◌-◌, ◌<◌, ◌≤◌, List, [], ◌∷◌, length, get_or, sym, ◌∙◌, ap, subst, arith}
use Rattle.alta_layout.specs.declared.places.TheConstants.{HALF_BYTES, HEAD_BYTES}
use Rattle.alta_disk.specs.Parts.{part, Clear, Touches}
use Rattle.alta_disk.proofs.PartLaws.{touches_torn}
use Rattle.alta_journal.specs.Journal.{Begins, EndsAt, Appends}
use Rattle.alta_journal.specs.Places.{half_at, left_behind, HasClosedGate}
use Rattle.alta_journal.specs.declared.entry.Entry.{Entry}
use Rattle.alta_journal.proofs.HalfLaws.{half_stays, half_long, half_byte}

module _ (version : ℕ) where
  -- the first closed gate lies inside the half
  pub ends_inside : (start place : ℕ) (entries : List Entry) (image : List ℕ) → start + HALF_BYTES ≤ HEAD_BYTES → EndsAt version start place entries image → place < start + HALF_BYTES
  ends_inside start place entries image disk e = omega (arith, e.starts, e.begins.gate, half_long start image (omega (arith, e.whole)))

  -- an append may begin there
  pub ends_closed : (start place : ℕ) (entries : List Entry) (image : List ℕ) → start + HALF_BYTES ≤ HEAD_BYTES → EndsAt version start place entries image → HasClosedGate place image
  ends_closed start place entries image disk e =
      let inside = ends_inside start place entries image disk e in
      let at : start + (place - start) ≡ place = omega (arith, e.starts) in
      (omega (arith, inside, e.whole), λ is_open. e.closed.1 (half_byte start (place - start) image (omega (arith, inside, e.starts)) ∙ ap (λ (k : ℕ). get_or image k 0) at ∙ is_open))

  -- the entries stay where the half's bytes stay
  pub ends_stay : (start place : ℕ) (entries : List Entry) (old new : List ℕ) → EndsAt version start place entries old → part start HALF_BYTES new ≡ part start HALF_BYTES old → length old ≤ length new
      → EndsAt version start place entries new
  ends_stay start place entries old new e same longer =
      let half : half_at start old ≡ half_at start new = sym (half_stays start old new same) in
      record {
        starts = e.starts;
        begins = subst (λ (h : List ℕ). Begins version entries (place - start) h) half e.begins;
        closed = subst (λ (h : List ℕ). HasClosedGate (place - start) h) half e.closed;
        whole = omega (arith, e.whole);
      }

  -- and so under all that touches nothing of the half
  pub ends_untouched : (start place : ℕ) (entries : List Entry) (ranges : List (ℕ × ℕ)) (old new : List ℕ) → EndsAt version start place entries old → Touches ranges old new → Clear start HALF_BYTES ranges
      → EndsAt version start place entries new
  ends_untouched start place entries ranges old new e touches clear = ends_stay start place entries old new e (touches.parts start HALF_BYTES clear) touches.no_shorter

  -- an append touches what the half has from its gate on
  pub appends_touch : (start place : ℕ) (entry : Entry) (old new : List ℕ) → Appends version start place entry old new → Touches ((place, 1 + left_behind start place) ∷ []) old new
  appends_touch start place entry old new appends = touches_torn place (1 + left_behind start place) ((place, 1 + left_behind start place) ∷ []) old new appends.outside (λ a m clear. clear.0)
