-- What is known of the states that what is opened may speak of.
use Rattle.std.proofs.Common.{◌≡◌, ℕ, ◌+◌, ◌≤◌, true, List, length, sym, ◌∙◌, ap, subst}
use Rattle.alta_layout.specs.declared.places.TheConstants.{HALF_BYTES}
use Rattle.alta_layout.specs.Places.{half_start}
use Rattle.alta_catalog.specs.Rows.{MayBe, MayStart}
use Rattle.alta_catalog.proofs.StartLaws.{live_named}
use Rattle.alta_meaning.specs.Entries.{Allows, AllowsAll}
use Rattle.alta_meaning.specs.Known.{Known, Named, admits, known_of, replayed}
use Rattle.alta_meaning.specs.Opened.{Opened, IsOpened, known_at, live_in}
use Rattle.alta_meaning.specs.Switching.{MayAppend}
use Rattle.alta_meaning.proofs.KnownLaws.{admitted_from, allows_replayed}
use Rattle.alta_journal.specs.Entry.{MayBeRecorded}
use Rattle.alta_journal.specs.Placed.{placed}
use Rattle.alta_journal.specs.Record.{body_of}
use Rattle.alta_journal.specs.declared.entry.Entry.{Entry}
use Rattle.alta_machine.specs.declared.document.State.{State}
use Rattle.alta_root.specs.declared.root.Root.{Root}
use Rattle.alta_table.specs.Tables.{Tables}

-- before the entries, what is known of a state is what opening knows
pub start_known : (root : Root) (deleted : List ℕ) (levels : List Tables) (s : State) → MayStart s root deleted levels → known_of s ≡ known_at root deleted levels
start_known root deleted levels s starts =
    ap known_of starts.state_is
    ∙ ap (λ (live : List Named). record { next = root.next_number; live = live }) (sym (live_named deleted starts.olds) ∙ ap (live_in deleted) starts.rows.rows_are)

-- behind the entries too, and each of them is allowed where it stands
pub speaks : (o : Opened) (image : List ℕ) (is : IsOpened o image) (s : State) (may : MayBe s o) → AllowsAll may.start o.entries × (is.named.known ≡ known_of s)
speaks o image is s may =
    let replays = allows_replayed may.start (half_start o.slot) o.entries is.named.known
    (ap (λ (k : Known). replayed k (placed (half_start o.slot) o.entries)) (start_known o.root o.deleted o.levels may.start may.starts) ∙ is.named.admitted) in
    (replays.0, replays.1 ∙ ap known_of (sym may.state_is))

-- an entry that the state allows, and the root's version, may be appended where it fits
pub may_append : (o : Opened) (image : List ℕ) (is : IsOpened o image) (s : State) → MayBe s o → (entry : Entry) → Allows s entry → MayBeRecorded o.root.version entry
    → o.tail + (1 + length (body_of entry)) ≤ half_start o.slot + HALF_BYTES → MayAppend entry o is.named.known
may_append o image is s may entry allowed recorded fits = record {
  admitted = subst (λ (k : Known). admits k entry ≡ true) (sym (speaks o image is s may).1) (admitted_from s entry allowed);
  recorded = recorded;
  fits = fits;
}
