-- Tables that were opened stand on the image, and with contents that were read they are the levels of what is opened.
use Rattle.std.proofs.Common.{◌≡◌, ℕ, ◌+◌, ◌≤◌, List, [], ◌∷◌, ◌++◌, length, map, drop, refl, sym, subst, ap, ap₂, ◌∙◌, arith, Ok, length-drop}
use Rattle.std.specs.List.{All}
use Rattle.std.proofs.lemmas.List.{length-take}
use Rattle.std.proofs.lemmas.List.Elements.{All-nil, All-cons, All-head, All-tail}
use Rattle.alta_layout.specs.declared.slot.Slot.{Slot}
use Rattle.alta_codec.proofs.ByteLaws.{AreBytes-drop, AreBytes-take}
use Rattle.alta_codec.specs.Bytes.{AreBytes}
use Rattle.alta_codec.specs.declared.extent.Extent.{Extent}
use Rattle.alta_content.specs.declared.content.Content.{Content}
use Rattle.alta_meaning.specs.Broken.{HasLevels}
use Rattle.alta_meaning.specs.Levels.{Level}
use Rattle.alta_meaning.specs.Opened.{Opened, IsOpened, bytes_at, tables_at, extent_of}
use Rattle.alta_meaning.specs.Standing.{AreLevels, tables_by}
use Rattle.alta_joins.specs.Contents.{AreContentsOf, AreSegmentsOn, StandsOn, level_with, levels_with}
use Rattle.alta_level.specs.Segments.{IsSegment}
use Rattle.alta_root.specs.Root.{AreExtents}
use Rattle.alta_root.specs.declared.root.Root.{Root}
use Rattle.alta_root.proofs.Frames.{counts_sound}
use Rattle.alta_table.specs.Tables.{AreTables, Tables}
use Rattle.alta_table.proofs.FrontLaws.{whole_has_parts}
use Rattle.alta_table.proofs.TableLaws.{tables_are}
use Rattle.alta_meaning.proofs.ReadLaws.{AreRead, was_read}

-- ---- they stand on the image

-- tables that are read in an extent that lies on the image are those of a segment that fills it
record IsLaid (extent : Extent) (level : Tables) (image : List ℕ) : Type 0 where
  stands : StandsOn image level
  extent_is : extent_of level ≡ extent

laid : (extent : Extent) (level : Tables) (image : List ℕ) → AreBytes image → extent.place + extent.bytes ≤ length image → tables_at extent image ≡ Ok level → IsLaid extent level image
unfolding tables_at
laid extent level image are inside found =
    let bytes = bytes_at extent image in
    let fit : AreBytes bytes = AreBytes-take extent.bytes (drop extent.place image) (AreBytes-drop extent.place image are) in
    let long : extent.bytes ≤ length bytes = omega (arith, length-take extent.bytes (drop extent.place image), length-drop extent.place image, inside) in
    let tables : AreTables bytes extent.place extent.bytes level = tables_are bytes extent.place extent.bytes level fit (whole_has_parts bytes extent.place extent.bytes fit long) found in
    let same : extent_of level ≡ extent = ap₂ (λ (place size : ℕ). record { place = place; bytes = size }) tables.at tables.keeps.filled in
    record {
      stands = record {
        tables = subst (λ (e : Extent). tables_at e image ≡ Ok level) (sym same) found;
        whole = omega (arith, inside, tables.at, tables.keeps.filled);
      };
      extent_is = same;
    }

-- each of these stands in its extent
record AreLaid (extents : List Extent) (levels : List Tables) (image : List ℕ) : Type 0 where
  stand : All (StandsOn image) levels
  extents_are : map extent_of levels ≡ extents

all_laid : (size : ℕ) (before : List Extent) (extents : List Extent) (levels : List Tables) (image : List ℕ) → AreBytes image → size ≡ length image → AreExtents size before extents → AreRead extents levels image
    → AreLaid extents levels image
all_laid size before [] [] image are is sound read = record { stand = All-nil (StandsOn image); extents_are = refl }
all_laid size before [] (t ∷ ts) image are is sound read = absurd read
all_laid size before (e ∷ es) [] image are is sound read = absurd read
all_laid size before (e ∷ es) (t ∷ ts) image are is (own, sound) (found, read) =
    let first = laid e t image are (omega (arith, own.inside, is)) found in
    let rest = all_laid size (before ++ e ∷ []) es ts image are is sound read in
    record {
      stand = All-cons (StandsOn image) t ts first.stands rest.stand;
      extents_are = ap (λ (x : Extent). x ∷ map extent_of ts) first.extent_is ∙ ap (λ (xs : List Extent). e ∷ xs) rest.extents_are;
    }

found_laid : (slot : Slot) (root : Root) (deleted : List ℕ) (levels : List Tables) (image : List ℕ) → AreBytes image → HasLevels slot root deleted levels image → AreLaid root.levels.items levels image
found_laid slot root deleted levels image are has =
    let read = was_read root deleted [] root.levels.items image levels has.tables in
    subst (λ (ts : List Tables). AreLaid root.levels.items ts image) (sym read.final_is)
    (all_laid (length image) (root.deletions ∷ []) root.levels.items read.more image are refl (counts_sound slot root image has.counts).levels read.read)

pub found_stand : (slot : Slot) (root : Root) (deleted : List ℕ) (levels : List Tables) (image : List ℕ) → AreBytes image → HasLevels slot root deleted levels image → All (StandsOn image) levels
found_stand slot root deleted levels image are has = (found_laid slot root deleted levels image are has).stand

opened_laid : (o : Opened) (image : List ℕ) → AreBytes image → IsOpened o image → AreLaid o.root.levels.items o.levels image
opened_laid o image are opened =
    found_laid o.slot o.root o.deleted o.levels image are (record { counts = opened.counts; list = opened.named.list; tables = opened.named.tables })

pub opened_stand : (o : Opened) (image : List ℕ) → AreBytes image → IsOpened o image → All (StandsOn image) o.levels
opened_stand o image are opened = (opened_laid o image are opened).stand

pub opened_extents : (o : Opened) (image : List ℕ) → AreBytes image → IsOpened o image → map extent_of o.levels ≡ o.root.levels.items
opened_extents o image are opened = (opened_laid o image are opened).extents_are

-- ---- with their contents

with_extents : (levels : List Tables) (contents : List Content) → AreContentsOf levels contents → map (λ (l : Level). l.extent) (levels_with levels contents) ≡ map extent_of levels
with_extents [] contents are = refl
with_extents (l ∷ ls) [] are = absurd are
with_extents (l ∷ ls) (c ∷ cs) (is, are) = ap (λ (es : List Extent). extent_of l ∷ es) (with_extents ls cs are)

with_tables : (levels : List Tables) (contents : List Content) → AreContentsOf levels contents → map tables_by (levels_with levels contents) ≡ levels
with_tables [] contents are = refl
with_tables (l ∷ ls) [] are = absurd are
with_tables (l ∷ ls) (c ∷ cs) (is, are) = ap (λ (t : Tables). t ∷ map tables_by (levels_with ls cs)) is.tables ∙ ap (λ (ts : List Tables). l ∷ ts) (with_tables ls cs are)

pub with_contents : (levels : List Tables) (contents : List Content) → AreContentsOf levels contents → map (λ (l : Level). l.content) (levels_with levels contents) ≡ contents
with_contents [] [] are = refl
with_contents [] (c ∷ cs) are = absurd are
with_contents (l ∷ ls) [] are = absurd are
with_contents (l ∷ ls) (c ∷ cs) (is, are) = ap (λ (ds : List Content). c ∷ ds) (with_contents ls cs are)

abbrev IsHere : List ℕ → Level → Type 0
IsHere image l = IsSegment (bytes_at l.extent image) l.content

with_segments : (image : List ℕ) (levels : List Tables) (contents : List Content) → AreSegmentsOn image levels contents → All (IsHere image) (levels_with levels contents)
with_segments image [] contents are = All-nil (IsHere image)
with_segments image (l ∷ ls) [] are = absurd are
with_segments image (l ∷ ls) (c ∷ cs) (is, are) = All-cons (IsHere image) (level_with l c) (levels_with ls cs) is (with_segments image ls cs are)

pub read_levels_are : (o : Opened) (contents : List Content) (image : List ℕ) → AreBytes image → IsOpened o image → AreContentsOf o.levels contents → AreSegmentsOn image o.levels contents
    → AreLevels o (levels_with o.levels contents) image
read_levels_are o contents image are opened kept segments = record {
  extents = sym (with_extents o.levels contents kept ∙ (opened_laid o image are opened).extents_are);
  tables = sym (with_tables o.levels contents kept);
  segments = with_segments image o.levels contents segments;
}

-- ---- where an image stands for a state

segments_of : (image : List ℕ) (tables : List Tables) (levels : List Level) → map extent_of tables ≡ map (λ (l : Level). l.extent) levels → All (IsHere image) levels
    → AreSegmentsOn image tables (map (λ (l : Level). l.content) levels)
segments_of image [] [] e all = tt
segments_of image [] (l ∷ ls) e all = absurd (omega (arith, ap (λ (xs : List Extent). length xs) e))
segments_of image (t ∷ ts) [] e all = absurd (omega (arith, ap (λ (xs : List Extent). length xs) e))
segments_of image (t ∷ ts) (l ∷ ls) e all =
    let first : extent_of t ≡ l.extent = cc in
    let rest : map extent_of ts ≡ map (λ (l : Level). l.extent) ls = cc in
    (subst (λ (x : Extent). IsSegment (bytes_at x image) l.content) (sym first) (All-head (IsHere image) l ls all), segments_of image ts ls rest (All-tail (IsHere image) l ls all))

pub levels_segments : (o : Opened) (levels : List Level) (image : List ℕ) → AreBytes image → IsOpened o image → AreLevels o levels image → AreSegmentsOn image o.levels (map (λ (l : Level). l.content) levels)
levels_segments o levels image are opened is = segments_of image o.levels levels ((opened_laid o image are opened).extents_are ∙ is.extents) is.segments
