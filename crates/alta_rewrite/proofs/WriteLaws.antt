-- What writing one piece more does.
use Rattle.std.proofs.Common.{◌≡◌, inl, inr, ⊎_elim, ℕ, zero, suc, ◌+◌, ◌<◌, ◌≤◌, List, [], ◌∷◌, ◌++◌, length, take, get_or, refl, sym, ap, subst, ◌∙◌, arith, append_assoc, append-nil}
use Rattle.std.specs.Prelude.{max}
use Rattle.std.specs.List.{All}
use Rattle.std.proofs.lemmas.List.{map_more}
use Rattle.std.proofs.lemmas.List.Elements.{All-more, All-weaker}
use Rattle.alta_codec.specs.declared.extent.Extent.{Extent}
use Rattle.alta_disk.specs.Disk.{DiskState, After, Holds, Passes, Torn}
use Rattle.alta_disk.specs.Images.{end_of}
use Rattle.alta_disk.specs.Parts.{Apart, Clear, Touches}
use Rattle.alta_disk.specs.Writes.{holds_torn, length-holds}
use Rattle.alta_disk.proofs.Moments.{passes_then}
use Rattle.alta_disk.proofs.PartLaws.{part_torn, part_written, touches_as, touches_then, touches_torn}
use Rattle.alta_meaning.proofs.KeptStates.{unmap}
use Rattle.alta_meaning.proofs.KnownLaws.{all_both}
use Rattle.alta_meaning.specs.Opened.{bytes_at}
use Rattle.alta_rewrite.specs.Puts.{extents_in, ranges_in, Fills, IsLaid, AreLaid, HasPiece, Writes}
use Rattle.alta_rewrite.specs.declared.piece.Piece.{Piece}
use Rattle.alta_content.proofs.Elements.{all_right}

-- ---- ranges

end_more : (n : ℕ) (ranges : List (ℕ × ℕ)) (range : ℕ × ℕ) → end_of n (ranges ++ range ∷ []) ≡ max (end_of n ranges) (range.0 + range.1)
end_more n [] range = refl
end_more n (r ∷ rs) range = let more = end_more n rs range in omega (arith, more)

clear_front : (a m : ℕ) (ranges : List (ℕ × ℕ)) (range : ℕ × ℕ) → Clear a m (ranges ++ range ∷ []) → Clear a m ranges
clear_front a m [] range clear = tt
clear_front a m (r ∷ rs) range clear = (clear.0, clear_front a m rs range clear.1)

clear_last : (a m : ℕ) (ranges : List (ℕ × ℕ)) (range : ℕ × ℕ) → Clear a m (ranges ++ range ∷ []) → Clear a m (range ∷ [])
clear_last a m [] range clear = clear
clear_last a m (r ∷ rs) range clear = clear_last a m rs range clear.1

pub clear_at : (a m : ℕ) (pieces : List Piece) (i : ℕ) (d : Piece) → i < length pieces → Clear a m (ranges_in pieces) → Apart a m (get_or pieces i d).extent.place (get_or pieces i d).extent.bytes
clear_at a m [] i d lt clear = absurd (omega (arith, lt))
clear_at a m (p ∷ ps) zero d lt clear = clear.0
clear_at a m (p ∷ ps) (suc i) d lt clear = clear_at a m ps i d (omega (arith, lt)) clear.1

-- ---- one piece

laid_at : (taken : List Extent) (limit size : ℕ) (before pieces : List Piece) (i : ℕ) (d : Piece) → i < length pieces → AreLaid taken limit size before pieces → IsLaid taken limit size (before ++ take i pieces) (get_or pieces i d)
laid_at taken limit size before [] i d lt laid = absurd (omega (arith, lt))
laid_at taken limit size before (p ∷ ps) zero d lt laid = subst (λ (b : List Piece). IsLaid taken limit size b p) (sym (append-nil before)) laid.0
laid_at taken limit size before (p ∷ ps) (suc i) d lt laid =
    subst (λ (b : List Piece). IsLaid taken limit size b (get_or ps i d)) (append_assoc before (p ∷ []) (take i ps)) (laid_at taken limit size (before ++ p ∷ []) ps i d (omega (arith, lt)) laid.1)

abbrev IsApartFrom : Piece → Extent → Type 0
IsApartFrom piece e = Apart piece.extent.place piece.extent.bytes e.place e.bytes

module _ (taken : List Extent) (limit : ℕ) (first : List ℕ) (pieces : List Piece) (laid : AreLaid taken limit (length first) [] pieces) (i : ℕ) (d : Piece) (lt : i < length pieces) (now : List ℕ)
    (wrote : Writes (take i pieces) first now) where
  abbrev piece : Piece
  piece = get_or pieces i d

  here : IsLaid taken limit (length first) (take i pieces) piece
  here = laid_at taken limit (length first) [] pieces i d lt laid

  pub write_inside : piece.extent.place ≤ length now
  write_inside = omega (arith, here.reached, wrote.size)

  module _ (size : length piece.bytes.now ≡ piece.extent.bytes) (then : List ℕ) (holds : Holds now piece.extent.place piece.bytes.now then) where
    torn : Torn piece.extent.place piece.extent.bytes now then
    torn = subst (λ (n : ℕ). Torn piece.extent.place n now then) size (holds_torn now piece.extent.place piece.bytes.now then write_inside holds)

    abbrev ranges : List (ℕ × ℕ)
    ranges = ranges_in (take i pieces) ++ (piece.extent.place, piece.extent.bytes) ∷ []

    ranges_more : ranges_in (take (i + 1) pieces) ≡ ranges
    ranges_more = map_more (λ (p : Piece). (p.extent.place, p.extent.bytes)) pieces i d lt

    touches_more : Touches ranges first then
    touches_more =
        touches_then ranges first now then
        (touches_as (ranges_in (take i pieces)) ranges first now wrote.touches (λ a m clear. clear_front a m (ranges_in (take i pieces)) (piece.extent.place, piece.extent.bytes) clear))
        (touches_torn piece.extent.place piece.extent.bytes ranges now then torn (λ a m clear. (clear_last a m (ranges_in (take i pieces)) (piece.extent.place, piece.extent.bytes) clear).0))

    size_more : length then ≡ end_of (length first) ranges
    size_more =
        let long = length-holds now piece.extent.place piece.bytes.now then write_inside holds in
        let more = end_more (length first) (ranges_in (take i pieces)) (piece.extent.place, piece.extent.bytes) in
        omega (arith, long, more, wrote.size, size)

    beside : All (λ (p : Piece). IsApartFrom piece p.extent) (take i pieces)
    beside = unmap (IsApartFrom piece) (λ (p : Piece). p.extent) (take i pieces) (all_right (IsApartFrom piece) taken (extents_in (take i pieces)) here.gap.apart)

    stays : (p : Piece) → HasPiece now p × IsApartFrom piece p.extent → HasPiece then p
    stays p (had, apart) =
        part_torn piece.extent.place piece.extent.bytes p.extent.place p.extent.bytes now then torn (⊎_elim (λ before. inr before) (λ behind. inl behind) apart) ∙ had

    written : HasPiece then piece
    written = subst (λ (n : ℕ). bytes_at (record { place = piece.extent.place; bytes = n }) then ≡ piece.bytes.now) size (part_written piece.extent.place piece.bytes.now now then write_inside holds)

    there_more : All (HasPiece then) (take (i + 1) pieces)
    there_more =
        All-more (HasPiece then) pieces i d lt
        (All-weaker (λ (p : Piece). HasPiece now p × IsApartFrom piece p.extent) (HasPiece then) stays (take i pieces) (all_both (HasPiece now) (λ (p : Piece). IsApartFrom piece p.extent) (take i pieces) wrote.there beside))
        written

    pub write_more : Writes (take (i + 1) pieces) first then
    write_more = record {
      touches = subst (λ (rs : List (ℕ × ℕ)). Touches rs first then) (sym ranges_more) touches_more;
      size = size_more ∙ ap (end_of (length first)) (sym ranges_more);
      there = there_more;
    }

-- ---- a run of writes

-- one write more inside these ranges
pub run_more : (a b c : DiskState) (ranges : List (ℕ × ℕ)) (at n : ℕ) → Passes (Touches ranges) a b → Passes (Torn at n) b c → ((x m : ℕ) → Clear x m ranges → Apart x m at n) → Passes (Touches ranges) a c
run_more a b c ranges at n so_far next inside = passes_then a b c (Touches ranges) (Torn at n) (Touches ranges) so_far next (λ z here. here) from_second
  where
    from_second : (z : List ℕ) → After b.images (Torn at n) z → After a.images (Touches ranges) z
    from_second z (y, now, torn) =
        let (x, before, touches) = so_far.now y now in
        (x, before, touches_then ranges x y z touches (touches_torn at n ranges y z torn inside))

pub inside_all : (pieces : List Piece) (i : ℕ) (d : Piece) (limit : ℕ) → i < length pieces → All (Fills limit) pieces → (a m : ℕ) → Clear a m (ranges_in pieces) → Apart a m (get_or pieces i d).extent.place (length (get_or pieces i d).bytes.now)
inside_all pieces i d limit lt fills a m clear = subst (λ (n : ℕ). Apart a m (get_or pieces i d).extent.place n) (sym (fills i d lt).0) (clear_at a m pieces i d lt clear)
