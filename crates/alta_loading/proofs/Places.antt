-- Where the list of a row stands, and that its faults are those of its level.
use Rattle.std.proofs.Common.{◌≡◌, inl, inr, ℕ, zero, suc, ◌+◌, ◌<◌, List, [], ◌∷◌, length, take, drop, get_or, sym, subst, ap, ◌∙◌, arith}
use Rattle.std.specs.List.{sum_by}
use Rattle.std.proofs.lemmas.List.{drop-drop, drop-take, take-take}
use Rattle.std.proofs.lemmas.List.Sums.{sum_by-cons}
use Rattle.alta_codec.specs.declared.extent.Extent.{Extent}
use Rattle.alta_content.specs.declared.document.DocRow.{DocRow}
use Rattle.alta_disk.specs.Parts.{part}
use Rattle.alta_meaning.specs.Broken.{IsFaultAmong, IsBrokenIn}
use Rattle.alta_level.specs.Damage.{data_place, stored_at}
use Rattle.alta_level.specs.Stored.{Stored, IsListFault}
use Rattle.alta_loading.specs.Lists.{stored_as, stored_in}
use Rattle.alta_table.specs.declared.term.TermRow.{TermRow}
use Rattle.alta_table.specs.Places.{stream_extent, summary_extent}
use Rattle.alta_table.specs.Tables.{Tables}
use Rattle.alta_table.specs.Terms.{counts_of, data_of, streams_of, summaries_of, terms_of}

-- ---- two parts that were read as one

pub front_part : (a b n place : ℕ) (image whole : List ℕ) → n ≡ a + b → whole ≡ take n (drop place image) → take a whole ≡ part place a image
front_part a b n place image whole e w = ap (take a) w ∙ take-take a n (drop place image) (omega (arith, e))

pub back_part : (a b n place : ℕ) (image whole : List ℕ) → n ≡ a + b → whole ≡ take n (drop place image) → drop a whole ≡ part (place + a) b image
back_part a b n place image whole e w =
    ap (drop a) w ∙ ap (λ (k : ℕ). drop a (take k (drop place image))) e ∙ drop-take a b (drop place image) ∙ ap (take b) (drop-drop a place image)

-- so a list whose stream and summary were read as one is the one that stands there
pub stored_read : (level : Tables) (row n : ℕ) (stream summary : Extent) (image whole front behind : List ℕ) → stream ≡ stream_extent level row → summary ≡ summary_extent level row → n ≡ stream.bytes + summary.bytes
    → whole ≡ part stream.place n image → front ≡ take stream.bytes whole → behind ≡ drop stream.bytes whole → stored_as level row front behind ≡ stored_in level row image
stored_read level row n stream summary image whole front behind s t size read f b =
    let there : Extent → Extent → Stored = λ x y. stored_as level row (part x.place x.bytes image) (part (x.place + x.bytes) y.bytes image) in
    ap (λ (x : List ℕ). stored_as level row x behind) (f ∙ front_part stream.bytes summary.bytes n stream.place image whole size read)
    ∙ ap (λ (y : List ℕ). stored_as level row (part stream.place stream.bytes image) y) (b ∙ back_part stream.bytes summary.bytes n stream.place image whole size read)
    ∙ ap (λ (x : Extent). there x summary) s ∙ ap (λ (y : Extent). there (stream_extent level row) y) t

-- ---- a fault of a list is one of its level

-- the list of a row, whose stream begins at a place
abbrev pub standing : TermRow → List ℕ → ℕ → Stored
standing row image place = record {
  stream = part place row.stream image;
  stream_place = place;
  summary = part (place + row.stream) row.summary image;
  summary_place = place + row.stream;
  term = row.term;
  count = row.count;
}

standing-at : (row : TermRow) (image : List ℕ) (place : ℕ) → standing row image place ≡ stored_at row (drop place image) place
standing-at row image place =
    let f : List ℕ → Stored = λ s. record { stream = part place row.stream image; stream_place = place; summary = s; summary_place = place + row.stream; term = row.term; count = row.count } in
    ap (λ (l : List ℕ). f (take row.summary l)) (sym (drop-drop row.stream place image))

-- the list of row i of these, the first of which begins at a place
abbrev pub standing_row : List TermRow → List ℕ → ℕ → ℕ → Stored
standing_row rows image i place = record {
  stream = part place (get_or (streams_of rows) i 0) image;
  stream_place = place;
  summary = part (place + get_or (streams_of rows) i 0) (get_or (summaries_of rows) i 0) image;
  summary_place = place + get_or (streams_of rows) i 0;
  term = get_or (terms_of rows) i [];
  count = get_or (counts_of rows) i 0;
}

fault_among : (documents : List DocRow) (rows : List TermRow) (image : List ℕ) (place i p : ℕ) → i < length rows
    → IsListFault documents (standing_row rows image i (place + sum_by data_of (take i rows))) p → IsFaultAmong documents rows place image p
fault_among documents [] image place i p l f = absurd (omega (arith, l))
fault_among documents (row ∷ rows) image place zero p l f =
    let here : place + 0 ≡ place = omega arith in
    inl (subst (λ s. IsListFault documents s p) (ap (standing row image) here ∙ standing-at row image place) f)
fault_among documents (row ∷ rows) image place (suc i) p l f =
    let there : place + sum_by data_of (row ∷ take i rows) ≡ place + data_of row + sum_by data_of (take i rows) = omega (arith, sum_by-cons data_of row (take i rows)) in
    inr (fault_among documents rows image (place + data_of row) i p (omega (arith, l)) (subst (λ s. IsListFault documents s p) (ap (standing_row rows image i) there) f))

pub fault_of_level : (level : Tables) (image : List ℕ) (i p : ℕ) → i < length level.terms → IsListFault level.documents (stored_in level i image) p → IsBrokenIn level image p
fault_of_level level image i p l f = fault_among level.documents level.terms image (data_place level) i p l f
