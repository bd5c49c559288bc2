-- What a rewrite makes of what is opened, whatever the streams of levels that stay are.
use Rattle.std.proofs.Common.{◌≡◌, ℕ, true, List, [], ◌∷◌, ◌++◌, length, map, drop, refl, sym, ap, subst, ◌∙◌, arith, Ok}
use Rattle.std.specs.Prelude.{Option, Some, None}
use Rattle.std.specs.List.{All, flat_map}
use Rattle.std.proofs.lemmas.List.{drop-map, map-append}
use Rattle.std.proofs.lemmas.List.Elements.{All-cons, All-head, All-nil, All-tail}
use Rattle.std.proofs.lemmas.List.Folds.{flat_map-map}
use Rattle.alta_layout.specs.Places.{half_start}
use Rattle.alta_codec.specs.Bytes.{AreBytes}
use Rattle.alta_codec.specs.declared.extent.Extent.{Extent}
use Rattle.alta_content.specs.declared.content.Content.{Content}
use Rattle.alta_content.specs.declared.document.DocRow.{DocRow}
use Rattle.alta_meaning.proofs.KeptStates.{IsSwitched, switch_keeps, switched_is}
use Rattle.alta_meaning.proofs.KnownLaws.{allows_replayed, ordered_all}
use Rattle.alta_meaning.proofs.OrderLaws.{HasDocuments, known_ordered, levels_named, rooted_known}
use Rattle.alta_meaning.proofs.PlaceLaws.{gone_ends}
use Rattle.alta_meaning.specs.Chain.{◌>>=◌}
use Rattle.alta_meaning.specs.Entries.{AllowsAll}
use Rattle.alta_meaning.specs.Holding.{Holding, taken_by_held}
use Rattle.alta_meaning.specs.Known.{Known, known_of, replayed}
use Rattle.alta_meaning.specs.Levels.{Level}
use Rattle.alta_meaning.specs.Opened.{Opened, IsOpened, bytes_at, have_ends, known_at, live_in, table_rows, tables_at}
use Rattle.alta_meaning.specs.Ordered.{AreBelow, AreOrdered, IsOrdered, RowsPrecede}
use Rattle.alta_meaning.specs.Standing.{tables_by, view_of}
use Rattle.alta_meaning.specs.Switching.{InPlace}
use Rattle.alta_meaning.specs.Views.{View, rooted, state_of}
use Rattle.alta_meaning.specs.Work.{Job, gone_among, level_rows}
use Rattle.alta_meaning.specs.Working.{switched}
use Rattle.alta_journal.specs.Placed.{placed as placed_entries}
use Rattle.alta_machine.specs.declared.document.State.{State}
use Rattle.alta_root.proofs.Frames.{counts_sound}
use Rattle.alta_root.specs.Root.{extents_of}
use Rattle.alta_root.specs.declared.root.Root.{Root}
use Rattle.alta_rewrite.proofs.ComeLaws.{EndsIn, root_ends, bytes_long, bytes_fit}
use Rattle.alta_table.proofs.FrontLaws.{whole_has_parts}
use Rattle.alta_table.proofs.TableLaws.{tables_are}
use Rattle.alta_table.specs.Tables.{Tables}
use Rattle.alta_rewrite.specs.Drafts.{rewrite_places, root_to_come, table_to_come}
use Rattle.alta_rewrite.specs.Rewrites.{HaveRows, MayRewriteOpened, levels_to_come, rows_to_come, tables_between, tables_in}
use Rattle.alta_rewrite.specs.declared.ends.Ends.{Ends}
use Rattle.alta_rewrite.specs.declared.levels.NextLevels.{NextLevels}
use Rattle.alta_rewrite.specs.declared.places.Places.{Places}
use Rattle.alta_rewrite.proofs.SwitchLaws.{levels_then, new_levels, rows_placed, switch_is, switched_then, then_of}
use Rattle.alta_meaning.proofs.ReadLaws.{AreRead, was_read}

-- ---- tables that were read

table_stands : (extent : Extent) (t : Tables) (image : List ℕ) → AreBytes image → EndsIn (length image) extent → tables_at extent image ≡ Ok t → HasDocuments t
unfolding tables_at
table_stands extent t image fits le e =
    (tables_are (bytes_at extent image) extent.place extent.bytes t (bytes_fit extent image fits)
    (whole_has_parts (bytes_at extent image) extent.place extent.bytes (bytes_fit extent image fits) (omega (arith, bytes_long extent image le))) e).keeps.documents_stand

documents_stand : (extents : List Extent) (tables : List Tables) (image : List ℕ) → AreBytes image → All (EndsIn (length image)) extents → AreRead extents tables image → All HasDocuments tables
documents_stand [] [] image fits inside read = All-nil HasDocuments
documents_stand [] (t ∷ ts) image fits inside read = absurd read
documents_stand (e ∷ es) [] image fits inside read = absurd read
documents_stand (e ∷ es) (t ∷ ts) image fits inside read =
    All-cons HasDocuments t ts (table_stands e t image fits (All-head (EndsIn (length image)) e es inside) read.0) (documents_stand es ts image fits (All-tail (EndsIn (length image)) e es inside) read.1)

-- ---- rows

abbrev pub rows_of_table : Tables → List DocRow
rows_of_table t = t.documents

abbrev pub rows_of_level : Level → List DocRow
rows_of_level l = l.content.documents

pub rows_by : (ts : List Tables) (ls : List Level) → map rows_of_table ts ≡ map rows_of_level ls → table_rows ts ≡ level_rows ls
rows_by ts ls e =
    sym (flat_map-map (λ (rows : List DocRow). rows) rows_of_table ts) ∙ ap (flat_map (λ (rows : List DocRow). rows)) e ∙ flat_map-map (λ (rows : List DocRow). rows) rows_of_level ls

-- a function of new levels, and of those that stay
between : {X Y : Type 0} (f : X → Y) (xs ys zs : List X) → map f (xs ++ (ys ++ zs)) ≡ map f xs ++ (map f ys ++ map f zs)
between f xs ys zs = map-append f xs (ys ++ zs) ∙ ap (λ ws. map f xs ++ ws) (map-append f ys zs)

abbrev pub come_of : NextLevels → List Tables → Places → List Tables
come_of levels tables places = tables_between (table_to_come places.oldest levels.oldest) levels.stay_from tables (table_to_come places.newest levels.newest)

new_rows : (content : Content) (found : Option Extent) → map rows_of_table (tables_in (table_to_come found content)) ≡ map rows_of_level (new_levels content found)
new_rows content None = refl
new_rows content (Some extent) = refl

new_tables : (content : Content) (found : Option Extent) → map tables_by (new_levels content found) ≡ tables_in (table_to_come found content)
new_tables content None = refl
new_tables content (Some extent) = refl

come_rows : (levels : NextLevels) (there : List Level) (tables : List Tables) (places : Places) → map rows_of_table tables ≡ map rows_of_level there → table_rows (come_of levels tables places) ≡ level_rows (levels_then levels there places)
come_rows levels there tables places same =
    rows_by (come_of levels tables places) (levels_then levels there places)
    (between rows_of_table (tables_in (table_to_come places.oldest levels.oldest)) (drop levels.stay_from tables) (tables_in (table_to_come places.newest levels.newest))
    ∙ ap (λ (xs : List (List DocRow)). xs ++ (map rows_of_table (drop levels.stay_from tables) ++ map rows_of_table (tables_in (table_to_come places.newest levels.newest)))) (new_rows levels.oldest places.oldest)
    ∙ ap (λ (xs : List (List DocRow)). map rows_of_level (new_levels levels.oldest places.oldest) ++ (xs ++ map rows_of_table (tables_in (table_to_come places.newest levels.newest))))
    (sym (drop-map rows_of_table levels.stay_from tables) ∙ ap (drop levels.stay_from) same ∙ drop-map rows_of_level levels.stay_from there)
    ∙ ap (λ (xs : List (List DocRow)). map rows_of_level (new_levels levels.oldest places.oldest) ++ (map rows_of_level (drop levels.stay_from there) ++ xs)) (new_rows levels.newest places.newest)
    ∙ sym (between rows_of_level (new_levels levels.oldest places.oldest) (drop levels.stay_from there) (new_levels levels.newest places.newest)))

-- the tables of the levels to come
pub tables_then : (levels : NextLevels) (there : List Level) (places : Places) → map tables_by (levels_then levels there places) ≡ come_of levels (map tables_by there) places
tables_then levels there places =
    between tables_by (new_levels levels.oldest places.oldest) (drop levels.stay_from there) (new_levels levels.newest places.newest)
    ∙ ap (λ (xs : List Tables). xs ++ (map tables_by (drop levels.stay_from there) ++ map tables_by (new_levels levels.newest places.newest))) (new_tables levels.oldest places.oldest)
    ∙ ap (λ (xs : List Tables). tables_in (table_to_come places.oldest levels.oldest) ++ (xs ++ map tables_by (new_levels levels.newest places.newest))) (sym (drop-map tables_by levels.stay_from there))
    ∙ ap (λ (xs : List Tables). tables_in (table_to_come places.oldest levels.oldest) ++ (drop levels.stay_from (map tables_by there) ++ xs)) (new_tables levels.newest places.newest)

-- ---- what is opened

module _ (o : Opened) (old : List ℕ) (is : IsOpened o old) where
  pub opened_read : AreRead o.root.levels.items o.levels old
  opened_read =
      let was = was_read o.root o.deleted [] o.root.levels.items old o.levels is.named.tables in
      subst (λ (ts : List Tables). AreRead o.root.levels.items ts old) (sym was.final_is) was.read

  all_end : All (EndsIn (length old)) o.root.levels.items
  all_end = All-tail (EndsIn (length old)) o.root.deletions o.root.levels.items (root_ends (length old) o.root (counts_sound o.slot o.root old is.counts))

  pub opened_documents : AreBytes old → All HasDocuments o.levels
  opened_documents fits = documents_stand o.root.levels.items o.levels old fits all_end opened_read

pub opened_known : (o : Opened) (there : List Level) → HaveRows o there → known_at o.root o.deleted o.levels ≡ known_of (rooted (view_of o there))
opened_known o there have =
    ap (λ (rows : List DocRow). known_by rows) (rows_by o.levels there have.rows ∙ sym (flat_map-map (λ (t : Tables). t.documents) tables_by there))
    ∙ rooted_known (record o { levels = map tables_by there }) there refl
  where
    known_by : List DocRow → Known
    known_by rows = record { next = o.root.next_number; live = live_in o.deleted rows }

-- ---- what comes

module _ (o : Opened) (there : List Level) (levels : NextLevels) (ends : Ends) (next location : ℕ) (old : List ℕ) (may : MayRewriteOpened o there levels ends next location old) (fits : AreBytes old) where
  abbrev view : View
  view = view_of o there

  known : known_at o.root o.deleted o.levels ≡ known_of (rooted view)
  known = opened_known o there may.have

  rooted_ordered : IsOrdered (known_of (rooted view))
  rooted_ordered = subst IsOrdered known (known_ordered o old may.is.named (opened_documents o old may.is fits))

  allowed : AllowsAll (rooted view) o.entries
  allowed = (allows_replayed (rooted view) (half_start o.slot) o.entries may.is.named.known (subst (λ (k : Known). replayed k (placed_entries (half_start o.slot) o.entries) ≡ Ok may.is.named.known) known may.is.named.admitted)).0

  pub state_ordered : IsOrdered (known_of (state_of view))
  state_ordered = ordered_all (rooted view) o.entries rooted_ordered (counts_sound o.slot o.root old may.is.counts).number.0 allowed

  -- ---- what is held of it, with a job, and what job there is then
  module _ (before job : Option Job) where
    abbrev pub held : Holding
    held = record { view = view; list = o.root.deletions; job = before }

    taken_is : taken_by_held held ≡ extents_of o.root
    taken_is = ap (λ (es : List Extent). o.root.deletions ∷ es) (sym may.have.extents)

    pub opened_switch : (limit : ℕ) → switched limit held (levels_to_come levels view) job ≡ (rewrite_places limit o.root levels ends >>= λ places. Ok (then_of held o.root levels ends job places))
    opened_switch limit = switch_is limit held o.root levels ends job taken_is refl may.given.agrees.listed may.given.agrees.deleted

    module _ (limit : ℕ) (places : Places) (places_are : rewrite_places limit o.root levels ends ≡ Ok places) where
      abbrev pub then : Holding
      then = then_of held o.root levels ends job places

      pub opened_then : switched limit held (levels_to_come levels view) job ≡ Ok then
      opened_then = switched_then limit held o.root levels ends job taken_is refl may.given.agrees.listed may.given.agrees.deleted places places_are

      pub same_state : state_of then.view ≡ state_of view
      same_state = switch_keeps limit held (levels_to_come levels view) job then opened_then may.given.documents

      pub then_rows : level_rows then.view.levels ≡ rows_to_come levels view
      then_rows =
          let is : IsSwitched limit held (levels_to_come levels view) job then = switched_is limit held (levels_to_come levels view) job then opened_then in
          ap (λ (h : Holding). level_rows h.view.levels) is.then_is ∙ rows_placed limit held o.root levels ends job taken_is refl may.given.agrees.listed may.given.agrees.deleted is.now is.placed_is

      abbrev root : Root
      root = root_to_come o.root ends levels.stay_from next location places

      -- tables with the rows to come are in place
      pub tables_in_place : (tables : List Tables) → table_rows tables ≡ level_rows then.view.levels → InPlace root ends.deleted.now tables
      tables_in_place tables rows =
          let are : table_rows tables ≡ rows_to_come levels view = rows ∙ then_rows in
          record {
            rise = subst RowsPrecede (sym are) may.given.rise;
            below = subst (AreBelow root) (sym are) may.given.below;
            ends = subst (λ (ds : List ℕ). have_ends tables ds ≡ true) (ap (gone_among view) are ∙ sym may.given.agrees.deleted) (gone_ends view tables);
          }

      pub place : InPlace root ends.deleted.now (map tables_by then.view.levels)
      place = tables_in_place (map tables_by then.view.levels) (flat_map-map (λ (t : Tables). t.documents) tables_by then.view.levels)

      abbrev pub come : List Tables
      come = come_of levels o.levels places

      pub come_place : InPlace root ends.deleted.now come
      come_place = tables_in_place come (come_rows levels there o.levels places may.have.rows)

      pub come_ordered : AreOrdered (live_in ends.deleted.now (table_rows come))
      come_ordered =
          subst (λ (rows : List DocRow). AreOrdered (live_in ends.deleted.now rows))
          (flat_map-map (λ (t : Tables). t.documents) tables_by then.view.levels ∙ sym (come_rows levels there o.levels places may.have.rows))
          (subst AreOrdered (levels_named ends.deleted.now then.view.levels) (subst (λ (s : State). IsOrdered (known_of s)) (sym same_state) state_ordered).ordered)
