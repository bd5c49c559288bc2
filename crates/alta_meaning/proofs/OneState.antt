-- An image stands for one state, and is opened as one thing then.
use Rattle.std.proofs.Common.{◌≡◌, ℕ, ◌+◌, List, [], ◌∷◌, ◌++◌, length, take, drop, map, refl, sym, ap, subst, ◌∙◌, arith, length-append}
use Rattle.std.specs.List.{All, flat_map}
use Rattle.std.proofs.lemmas.List.{append_cancel_left, take_at, drop_at}
use Rattle.std.proofs.lemmas.List.Elements.{All-head, All-tail}
use Rattle.alta_codec.specs.declared.extent.Extent.{Extent}
use Rattle.alta_level.specs.Coded.{summary_bytes}
use Rattle.alta_level.specs.Segments.{IsSegment, row_of, rows_of, list_bytes, segment_bytes}
use Rattle.alta_content.specs.Lists.{AreListsBehind, MayFollowList}
use Rattle.alta_content.specs.declared.content.Content.{Content}
use Rattle.alta_content.specs.TermList.{TermList}
use Rattle.alta_machine.specs.declared.document.State.{State}
use Rattle.alta_postings.specs.Deltas.{Spells, decoded_list, stream_bytes}
use Rattle.alta_postings.proofs.Reading.{spelling_reads}
use Rattle.alta_meaning.specs.Levels.{Level}
use Rattle.alta_meaning.specs.Views.{state_of}
use Rattle.alta_table.specs.Tables.{Tables, tables_bytes}
use Rattle.alta_content.specs.declared.document.DocRow.{DocRow}
use Rattle.alta_table.specs.declared.term.TermRow.{TermRow}
use Rattle.alta_meaning.specs.Opened.{Opened, IsOpened, bytes_at}
use Rattle.alta_meaning.specs.Standing.{AreLevels, Means, StandsFor, tables_by, view_of}
use Rattle.alta_meaning.proofs.OneReading.{one_opened}

-- ---- lists

head_or : {X : Type 0} → X → List X → X
head_or d [] = d
head_or d (x ∷ xs) = x

rest_of : {X : Type 0} → List X → List X
rest_of [] = []
rest_of (x ∷ xs) = xs

same_head : {X : Type 0} (x y : X) (xs ys : List X) → x ∷ xs ≡ y ∷ ys → x ≡ y
unfolding head_or
same_head x y xs ys e = ap (head_or x) e

same_rest : {X : Type 0} (x y : X) (xs ys : List X) → x ∷ xs ≡ y ∷ ys → xs ≡ ys
unfolding rest_of
same_rest x y xs ys e = ap rest_of e

no_cons : {X : Type 0} (x : X) (xs : List X) → [] ≡ x ∷ xs → ⊥
no_cons x xs e = omega (arith, ap length e)

-- lists of the same length in front of others
same_front : (a b c d : List ℕ) → length a ≡ length b → a ++ c ≡ b ++ d → a ≡ b
same_front a b c d long e = sym (take_at a c (length a) refl) ∙ ap (λ (l : List ℕ). take (length a) l) e ∙ take_at b d (length a) (sym long)

same_back : (a b c d : List ℕ) → length a ≡ length b → a ++ c ≡ b ++ d → c ≡ d
same_back a b c d long e = sym (drop_at a c (length a) refl) ∙ ap (λ (l : List ℕ). drop (length a) l) e ∙ drop_at b d (length a) (sym long)

-- ---- the lists of a content

-- the length of a list's bytes, by its row
bytes_of : TermRow → ℕ
bytes_of row = row.stream + row.summary

length_is : (l : TermList) → length (list_bytes l) ≡ bytes_of (row_of l)
unfolding bytes_of
length_is l = grind (arith, length-append)

same_list : (l m : TermList) → l.term ≡ m.term → l.locations ≡ m.locations → l ≡ m
same_list l m a b =
    let f : List ℕ → TermList = λ x. record { term = x; locations = l.locations } in
    let g : List ℕ → TermList = λ x. record { term = m.term; locations = x } in
    ap f a ∙ ap g b

one_list : (documents : List DocRow) (before after : List ℕ) (l m : TermList) → MayFollowList documents before l → MayFollowList documents after m → row_of l ≡ row_of m → list_bytes l ≡ list_bytes m → l ≡ m
one_list documents before after l m a b rows bytes =
    let streams : stream_bytes 0 l.locations ≡ stream_bytes 0 m.locations =
    same_front (stream_bytes 0 l.locations) (stream_bytes 0 m.locations) (summary_bytes l.locations) (summary_bytes m.locations) (ap (λ (r : TermRow). r.stream) rows) bytes in
    let first : Spells (stream_bytes 0 l.locations) l.locations = record { rising = a.rising; spelled = refl } in
    let second : Spells (stream_bytes 0 m.locations) m.locations = record { rising = b.rising; spelled = refl } in
    same_list l m (ap (λ (r : TermRow). r.term) rows)
    (sym (spelling_reads (stream_bytes 0 l.locations) l.locations first).1 ∙ ap decoded_list streams ∙ (spelling_reads (stream_bytes 0 m.locations) m.locations second).1)

one_lists : (documents : List DocRow) (before after : List ℕ) (ls ms : List TermList) → AreListsBehind documents before ls → AreListsBehind documents after ms → rows_of ls ≡ rows_of ms
    → flat_map list_bytes ls ≡ flat_map list_bytes ms → ls ≡ ms
unfolding AreListsBehind
one_lists documents before after [] [] a b rows bytes = refl
one_lists documents before after [] (m ∷ ms) a b rows bytes = absurd (no_cons (row_of m) (rows_of ms) rows)
one_lists documents before after (l ∷ ls) [] a b rows bytes = absurd (no_cons (row_of l) (rows_of ls) (sym rows))
one_lists documents before after (l ∷ ls) (m ∷ ms) a b rows bytes =
    let row : row_of l ≡ row_of m = same_head (row_of l) (row_of m) (rows_of ls) (rows_of ms) rows in
    let long : length (list_bytes l) ≡ length (list_bytes m) = length_is l ∙ ap bytes_of row ∙ sym (length_is m) in
    ap (λ (x : TermList). x ∷ ls) (one_list documents before after l m a.0 b.0 row (same_front (list_bytes l) (list_bytes m) (flat_map list_bytes ls) (flat_map list_bytes ms) long bytes))
    ∙ ap (λ (xs : List TermList). m ∷ xs)
    (one_lists documents l.term m.term ls ms a.1 b.1 (same_rest (row_of l) (row_of m) (rows_of ls) (rows_of ms) rows)
    (same_back (list_bytes l) (list_bytes m) (flat_map list_bytes ls) (flat_map list_bytes ms) long bytes))

-- ---- levels

level_of : Extent → List DocRow → List TermList → Level
level_of extent documents lists = record { extent = extent; content = record { documents = documents; lists = lists } }

segment_of : (c : Content) (bytes : List ℕ) → bytes ≡ segment_bytes c → bytes ≡ tables_bytes c.documents (rows_of c.lists) ++ flat_map list_bytes c.lists
unfolding segment_bytes
segment_of c bytes is = is

one_level : (l m : Level) (image : List ℕ) → l.extent ≡ m.extent → tables_by l ≡ tables_by m → IsSegment (bytes_at l.extent image) l.content → IsSegment (bytes_at m.extent image) m.content → l ≡ m
unfolding level_of
one_level l m image extents tables a b =
    let documents : l.content.documents ≡ m.content.documents = ap (λ (t : Tables). t.documents) tables in
    let rows : rows_of l.content.lists ≡ rows_of m.content.lists = ap (λ (t : Tables). t.terms) tables in
    let other : tables_bytes m.content.documents (rows_of m.content.lists) ≡ tables_bytes l.content.documents (rows_of l.content.lists) =
    sym (ap (λ (ds : List DocRow). tables_bytes ds (rows_of l.content.lists)) documents ∙ ap (λ (rs : List TermRow). tables_bytes m.content.documents rs) rows) in
    let here : tables_bytes l.content.documents (rows_of l.content.lists) ++ flat_map list_bytes l.content.lists ≡ tables_bytes l.content.documents (rows_of l.content.lists) ++ flat_map list_bytes m.content.lists =
    sym (segment_of l.content (bytes_at l.extent image) a.spelled) ∙ ap (λ (e : Extent). bytes_at e image) extents ∙ segment_of m.content (bytes_at m.extent image) b.spelled
    ∙ ap (λ (bytes : List ℕ). bytes ++ flat_map list_bytes m.content.lists) other in
    let bytes : flat_map list_bytes l.content.lists ≡ flat_map list_bytes m.content.lists =
    append_cancel_left (tables_bytes l.content.documents (rows_of l.content.lists)) (flat_map list_bytes l.content.lists) (flat_map list_bytes m.content.lists) here in
    ap (λ (e : Extent). level_of e l.content.documents l.content.lists) extents
    ∙ ap (λ (ds : List DocRow). level_of m.extent ds l.content.lists) documents
    ∙ ap (λ (ls : List TermList). level_of m.extent m.content.documents ls)
    (one_lists l.content.documents [] [] l.content.lists m.content.lists a.stands.lists_stand
    (subst (λ (ds : List DocRow). AreListsBehind ds [] m.content.lists) (sym documents) b.stands.lists_stand) rows bytes)

abbrev IsStored : List ℕ → Level → Type 0
IsStored image l = IsSegment (bytes_at l.extent image) l.content

abbrev extents_of : List Level → List Extent
extents_of levels = map (λ (l : Level). l.extent) levels

one_levels : (ls ms : List Level) (image : List ℕ) → extents_of ls ≡ extents_of ms → map tables_by ls ≡ map tables_by ms → All (IsStored image) ls → All (IsStored image) ms → ls ≡ ms
one_levels [] [] image extents tables a b = refl
one_levels [] (m ∷ ms) image extents tables a b = absurd (no_cons m.extent (extents_of ms) extents)
one_levels (l ∷ ls) [] image extents tables a b = absurd (no_cons l.extent (extents_of ls) (sym extents))
one_levels (l ∷ ls) (m ∷ ms) image extents tables a b =
    ap (λ (x : Level). x ∷ ls)
    (one_level l m image (same_head l.extent m.extent (extents_of ls) (extents_of ms) extents) (same_head (tables_by l) (tables_by m) (map tables_by ls) (map tables_by ms) tables)
    (All-head (IsStored image) l ls a) (All-head (IsStored image) m ms b))
    ∙ ap (λ (xs : List Level). m ∷ xs)
    (one_levels ls ms image (same_rest l.extent m.extent (extents_of ls) (extents_of ms) extents) (same_rest (tables_by l) (tables_by m) (map tables_by ls) (map tables_by ms) tables)
    (All-tail (IsStored image) l ls a) (All-tail (IsStored image) m ms b))

-- what is opened has one list of levels
pub one_are : (o : Opened) (ls ms : List Level) (image : List ℕ) → AreLevels o ls image → AreLevels o ms image → ls ≡ ms
one_are o ls ms image a b = one_levels ls ms image (sym a.extents ∙ b.extents) (sym a.tables ∙ b.tables) a.segments b.segments

-- ---- states

pub stands_opened : (s : State) (image : List ℕ) → (stands : StandsFor s image) → IsOpened stands.opened image
stands_opened s image stands = record { counts = stands.counts; named = stands.means.named }

one_meaning : (o : Opened) (s t : State) (image : List ℕ) → Means s o image → Means t o image → s ≡ t
one_meaning o s t image a b = sym a.state_is ∙ ap (λ (ls : List Level). state_of (view_of o ls)) (one_are o a.levels b.levels image a.are b.are) ∙ b.state_is

-- an image stands for one state
pub one_state : (s t : State) (image : List ℕ) → StandsFor s image → StandsFor t image → s ≡ t
one_state s t image a b =
    one_meaning b.opened s t image (subst (λ (o : Opened). Means s o image) (one_opened image a.opened b.opened (stands_opened s image a) (stands_opened t image b)) a.means) b.means
