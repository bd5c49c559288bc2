-- What is known of the states of which what is opened may speak.
use Rattle.std.proofs.Common.{◌≡◌, ℕ, ◌+◌, Bool, cond, List, [], ◌∷◌, ◌++◌, map, refl, sym, ◌∙◌, ap, subst}
use Rattle.std.specs.Prelude.{Ok, Err, is_some}
use Rattle.alta_layout.specs.Places.{half_start}
use Rattle.alta_meaning.specs.Entries.{Allows, AllowsAll, IsRefusedAt, after_entries, after_entry, entries_in}
use Rattle.alta_meaning.specs.Known.{Known, Named, admits, known_behind, known_of, named_of, replayed}
use Rattle.alta_meaning.specs.Opened.{IsNamed, Opened, known_at, live_in, table_rows}
use Rattle.alta_meaning.specs.Switching.{with_entry}
use Rattle.alta_meaning.proofs.Entering.{after_more}
use Rattle.alta_meaning.proofs.KnownLaws.{admitted_from, allowed_from, allows_replayed, known_entry}
use Rattle.alta_meaning.proofs.Tests.{by_test}
use Rattle.alta_journal.specs.Placed.{placed}
use Rattle.alta_journal.specs.declared.entry.Entry.{Entry}
use Rattle.alta_journal.specs.declared.placed.Placed.{Placed}
use Rattle.alta_machine.specs.declared.document.Document.{Document}
use Rattle.alta_machine.specs.declared.document.State.{State}
use Rattle.alta_root.specs.declared.root.Root.{Root}
use Rattle.alta_table.specs.Tables.{Tables}
use Rattle.alta_catalog.specs.Knowing.{Knows}
use Rattle.alta_catalog.specs.Rows.{MayBe, MayStart, documents_left}
use Rattle.alta_catalog.proofs.KnowingLaws.{rows_of_all}
use Rattle.alta_catalog.proofs.NotingLaws.{names_there, number_named}
use Rattle.alta_machine.specs.Changes.{has_name, number_of}
use Rattle.alta_meaning.specs.Names.{number_of as named_number}
use Rattle.alta_catalog.specs.declared.catalog.Catalog.{Catalog}
use Rattle.alta_catalog.proofs.StartLaws.{live_named}

-- ---- the next number, and the live documents

known_with : ℕ → List Named → Known
known_with next live = record { next = next; live = live }

pub start_known : (s : State) (root : Root) (deleted : List ℕ) (levels : List Tables) → MayStart s root deleted levels → known_of s ≡ known_at root deleted levels
unfolding known_with
start_known s root deleted levels may =
    ap known_of may.state_is ∙ ap (known_with root.next_number) (sym (live_named deleted may.olds) ∙ ap (live_in deleted) may.rows.rows_are)

pub behind_known : (s : State) (o : Opened) (image : List ℕ) (is : IsNamed o image) → MayBe s o → is.known ≡ known_of s
behind_known s o image is may =
    let found : replayed (known_of may.start) (placed (half_start o.slot) o.entries) ≡ Ok is.known =
    ap (λ (k : Known). replayed k (placed (half_start o.slot) o.entries)) (start_known may.start o.root o.deleted o.levels may.starts) ∙ is.admitted in
    (allows_replayed may.start (half_start o.slot) o.entries is.known found).1 ∙ ap known_of (sym may.state_is)

-- the live documents' names and numbers, as their rows have them
pub live_of_rows : (c : Catalog) (s : State) → Knows c s → map named_of s.documents ≡ live_in c.gone (table_rows c.levels.items ++ c.memory.content.documents)
live_of_rows c s f =
    ap (λ (ds : List Document). map named_of ds) (sym f.notes.documents) ∙ sym (live_named c.gone (f.olds ++ f.added)) ∙ ap (live_in c.gone) (rows_of_all c s f)

pub one_known : (c : Catalog) (s t : State) → Knows c s → Knows c t → known_of s ≡ known_of t
unfolding known_with
one_known c s t f g =
    ap (λ (n : ℕ). known_with n (map named_of s.documents)) (sym f.notes.next ∙ g.notes.next)
    ∙ ap (known_with t.next) (live_of_rows c s f ∙ sym (live_of_rows c t g))

-- a name has the same number in each
pub number_alike : (c : Catalog) (s t : State) → Knows c s → Knows c t → (name : List ℕ) → number_of name s ≡ number_of name t
number_alike c s t f g name =
    number_named name s.documents ∙ ap (λ (known : Known). named_number name known.live) (one_known c s t f g) ∙ sym (number_named name t.documents)

-- and is free in each or in none
pub name_alike : (c : Catalog) (s t : State) → Knows c s → Knows c t → (name : List ℕ) → has_name name s ≡ has_name name t
name_alike c s t f g name =
    sym (names_there c.next c.names (documents_left c.gone (f.olds ++ f.added)) s f.notes name) ∙ ap is_some (number_alike c s t f g name)
    ∙ names_there c.next c.names (documents_left c.gone (g.olds ++ g.added)) t g.notes name

-- ---- entries

pub entered : (s : State) (o : Opened) (entry : Entry) → MayBe s o → MayBe (after_entry s entry) (with_entry o entry)
entered s o entry may = record {
  start = may.start;
  starts = may.starts;
  state_is = ap (λ (x : State). after_entry x entry) may.state_is ∙ sym (after_more may.start o.entries entry);
}

pub before_entry : (t : State) (o : Opened) (entry : Entry) → MayBe t (with_entry o entry) → (s : State) × MayBe s o × (t ≡ after_entry s entry)
before_entry t o entry may = (
  after_entries may.start o.entries,
  record { start = may.start; starts = may.starts; state_is = refl },
  may.state_is ∙ after_more may.start o.entries entry,
)

pub none_yet : (s : State) (o : Opened) → o.entries ≡ [] → MayBe s o → MayStart s o.root o.deleted o.levels
none_yet s o none may =
    let same : s ≡ may.start = may.state_is ∙ ap (after_entries may.start) none in
    subst (λ (x : State). MayStart x o.root o.deleted o.levels) (sym same) may.starts

-- the first entry that is not allowed is the first that is not admitted
refused_at : (s : State) (before : List Placed) (p : Placed) (behind : List Placed) → AllowsAll s (entries_in before) → (Allows (after_entries s (entries_in before)) p.entry → ⊥)
    → replayed (known_of s) (before ++ p ∷ behind) ≡ Err (p.place + 5)
refused_at s [] p behind allowed refused =
    by_test (admits (known_of s) p.entry) (λ yes. absurd (refused (allowed_from s p.entry yes)))
    (λ no. ap (λ (b : Bool). cond b (replayed (known_behind (known_of s) p.entry) behind) (Err (p.place + 5))) no)
refused_at s (q ∷ before) p behind allowed refused =
    ap (λ (b : Bool). cond b (replayed (known_behind (known_of s) q.entry) (before ++ p ∷ behind)) (Err (q.place + 5))) (admitted_from s q.entry allowed.0)
    ∙ ap (λ (known : Known). replayed known (before ++ p ∷ behind)) (sym (known_entry s q.entry))
    ∙ refused_at (after_entry s q.entry) before p behind allowed.1 refused

pub refused_is : (s : State) (found : List Placed) (place : ℕ) → IsRefusedAt s found place → replayed (known_of s) found ≡ Err place
refused_is s found place r =
    ap (λ (ps : List Placed). replayed (known_of s) ps) r.split ∙ refused_at s r.before r.refused r.behind r.allowed r.not_allowed ∙ ap (λ (n : ℕ). Err n) (sym r.place_is)
