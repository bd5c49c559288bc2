-- A catalog without newest documents, and rows that it may stand on.
use Rattle.std.proofs.Common.{◌≡◌, ℕ, ◌+◌, ◌-◌, ◌*◌, ◌<◌, ◌≤◌, Bool, IsTrue, List, [], ◌∷◌, ◌++◌, length, map, refl, sym, subst, arith}
use Rattle.std.specs.Prelude.{Contains}
use Rattle.std.specs.List.{All, filter}
use Rattle.std.proofs.lemmas.List.{append-nil}
use Rattle.std.proofs.lemmas.List.Elements.{All-nil, All-head, All-tail, All-append, All-filter, All-map}
use Rattle.alta_codec.specs.Rising.{IsRising}
use Rattle.alta_content.specs.Rows.{IsPlaced, end_of}
use Rattle.alta_content.specs.declared.document.DocRow.{DocRow}
use Rattle.alta_meaning.specs.Opened.{table_rows}
use Rattle.alta_meaning.specs.Ordered.{Precedes, RowsPrecede}
use Rattle.alta_machine.specs.Changes.{words_in}
use Rattle.alta_meaning.proofs.KeptStates.{rise_some}
use Rattle.alta_meaning.proofs.KnownLaws.{all_weaker}
use Rattle.alta_memlevel.specs.Added.{Added, HasContent, IsInSpace, IsSpace}
use Rattle.alta_memlevel.specs.Documents.{IsBefore, IsMade}
use Rattle.alta_machine.specs.declared.document.State.{State}
use Rattle.alta_catalog.specs.Knowing.{IsEndIn, KnowsBy, Notes}
use Rattle.alta_catalog.specs.Rows.{AreRowsOf, documents_left}
use Rattle.alta_catalog.specs.declared.catalog.Catalog.{Catalog}
use Rattle.alta_catalog.proofs.EndLaws.{space_all}
use Rattle.alta_catalog.proofs.SharingLaws.{space_precedes}
use Rattle.alta_catalog.proofs.StartLaws.{IsCounted, all_rows, row_of}
use Rattle.alta_content.proofs.Elements.{all_left, all_right}

-- ---- a catalog

-- what a catalog knows whose documents are all of levels
pub record IsSettled (c : Catalog) (olds : List Added) (s : State) : Type 0 where
  pub rows : AreRowsOf (table_rows c.levels.items) olds
  pub sound : IsTrue c.memory.sound
  pub content : HasContent [] c.memory.content
  pub space : IsSpace olds
  pub filled : All (λ (a : Added). 3 ≤ a.row.cells) olds
  pub behind : All (λ (a : Added). IsBefore c.next c.location a.row) olds
  pub rising : IsRising c.gone
  pub ends : (end : ℕ) → Contains c.gone end → IsEndIn olds end
  pub notes : Notes c.next c.names (documents_left c.gone olds) s
  pub first : c.first ≡ c.next
  pub from : (1 ≤ c.next) × (1 ≤ c.location)
  pub fits : (c.next ≤ 4294967296) × (c.location ≤ 1 + (c.next - 1) * 262146)
  pub count : c.count ≡ length s.documents
  pub words : c.words ≡ words_in s

pub settled_knows : (c : Catalog) (olds : List Added) (s : State) → IsSettled c olds s → KnowsBy c olds s
settled_knows c olds s is =
    let same : olds ++ [] ≡ olds = append-nil olds in (
      record {
        olds = olds;
        added = [];
        rows = is.rows;
        sound = is.sound;
        content = is.content;
        made = All-nil IsMade;
        space = subst IsSpace (sym same) is.space;
        filled = subst (All (λ (a : Added). 3 ≤ a.row.cells)) (sym same) is.filled;
        behind = subst (All (λ (a : Added). IsBefore c.next c.location a.row)) (sym same) is.behind;
        rising = is.rising;
        ends = λ end has. subst (λ (xs : List Added). IsEndIn xs end) (sym same) (is.ends end has);
        notes = subst (λ (xs : List Added). Notes c.next c.names (documents_left c.gone xs) s) (sym same) is.notes;
        numbered = tt;
        next = omega (arith, is.first);
        from = (omega (arith, is.first, is.from.0), is.from.1);
        fits = is.fits;
        count = is.count;
        words = is.words;
      },
      refl,
    )

-- ---- rows

-- Rows rise, and each has a place and cells, before a number and a location.
pub record AreSettled (next location : ℕ) (rows : List DocRow) : Type 0 where
  pub rise : RowsPrecede rows
  pub placed : All IsPlaced rows
  pub filled : All (λ (row : DocRow). 3 ≤ row.cells) rows
  pub before : All (IsBefore next location) rows

-- they still do where some of the last ones are left out
pub settled_part : (next location : ℕ) (p : DocRow → Bool) (xs ys : List DocRow) → AreSettled next location (xs ++ ys) → AreSettled next location (xs ++ filter p ys)
settled_part next location p xs ys are = record {
  rise = rise_some p xs ys are.rise;
  placed = part IsPlaced are.placed;
  filled = part (λ (row : DocRow). 3 ≤ row.cells) are.filled;
  before = part (IsBefore next location) are.before;
}
  where
    part : (P : DocRow → Type 0) → All P (xs ++ ys) → All P (xs ++ filter p ys)
    part P all = All-append P xs (filter p ys) (all_left P xs ys all) (All-filter p P ys (all_right P xs ys all))

-- the rows of documents that rise
pub space_settled : (next location : ℕ) (xs : List Added) → IsSpace xs → All (λ (a : Added). 3 ≤ a.row.cells) xs → All (λ (a : Added). IsBefore next location a.row) xs → AreSettled next location (map row_of xs)
space_settled next location xs space filled before = record {
  rise = space_precedes xs space;
  placed = All-map IsPlaced row_of xs (all_weaker IsInSpace (λ (a : Added). IsPlaced a.row) xs (λ a is. record { positive = is.positive; some = is.some; below = is.below }) (space_all xs space));
  filled = All-map (λ (row : DocRow). 3 ≤ row.cells) row_of xs filled;
  before = All-map (IsBefore next location) row_of xs before;
}

-- documents of such rows
pub settled_space : (xs : List Added) → RowsPrecede (map row_of xs) → All IsPlaced (map row_of xs) → All IsCounted xs → IsSpace xs
settled_space [] rise placed counted = tt
settled_space (a ∷ xs) rise placed counted =
    let one : IsPlaced a.row = All-head IsPlaced a.row (map row_of xs) placed in
    let behind : All (λ (b : Added). Precedes a.row b.row) xs = all_rows (Precedes a.row) xs rise.0 in (
      record { positive = one.positive; some = one.some; counted = sym (All-head IsCounted a xs counted); below = one.below },
      all_weaker (λ (b : Added). Precedes a.row b.row) (λ (b : Added). a.row.number < b.row.number) xs (λ b precedes. precedes.0) behind,
      all_weaker (λ (b : Added). Precedes a.row b.row) (λ (b : Added). end_of a.row < b.row.first) xs (λ b precedes. precedes.1) behind,
      settled_space xs rise.1 (All-tail IsPlaced a.row (map row_of xs) placed) (All-tail IsCounted a xs counted),
    )
