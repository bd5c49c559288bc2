-- Documents that were added behind others: their content may be joined with those of the others.
use Rattle.std.proofs.Common.{◌≡◌, ℕ, ◌<◌, ◌≤◌, List, [], ◌∷◌, ◌++◌, sym, ap, subst, ◌∙◌, append-nil, arith}
use Rattle.std.specs.List.{All}
use Rattle.std.proofs.lemmas.Grind.{flat_map-append}
use Rattle.std.proofs.lemmas.List.Elements.{All-head, All-push, All-tail, All-weaker}
use Rattle.alta_content.specs.declared.document.DocRow.{DocRow}
use Rattle.alta_content.specs.Joining.{rows_in}
use Rattle.alta_content.specs.Parts.{IsPart, MayJoin}
use Rattle.alta_content.specs.Rows.{AreDocuments, AreDocumentsBehind, Before, behind_row, start}
use Rattle.alta_content.specs.declared.content.Content.{Content}
use Rattle.alta_memlevel.specs.Added.{Added, HasContent}
use Rattle.alta_memlevel.specs.Documents.{AreAdded, IsBefore, IsFrom}
use Rattle.alta_memlevel.proofs.Part.{have_part, rows_follow}
use Rattle.alta_memlevel.proofs.Read.{rows_added}

module _ (number location : ℕ) (added : List Added) (a : AreAdded number location added) where
  follow_behind : (before : Before) (rows : List DocRow) → before.number < number → before.end < location → AreDocumentsBehind before rows → All (IsBefore number location) rows
      → AreDocumentsBehind before (rows ++ rows_added added)
  unfolding AreDocumentsBehind
  follow_behind before [] n e h b =
      rows_follow before added a.space a.made
      (All-weaker (IsFrom number location) (λ (b : Added). before.number < b.row.number) (λ b g. omega (arith, g.0, n)) added a.behind)
      (All-weaker (IsFrom number location) (λ (b : Added). before.end < b.row.first) (λ b g. omega (arith, g.1, e)) added a.behind)
  follow_behind before (r ∷ rs) n e h b =
      let own = All-head (IsBefore number location) r rs b in
      (h.0, follow_behind (behind_row before r) rs own.0 own.1 h.1 (All-tail (IsBefore number location) r rs b))

pub may_join_behind : (number location : ℕ) (contents : List Content) (added : List Added) (content : Content) → 1 ≤ number → 1 ≤ location
    → MayJoin contents → All (IsBefore number location) (rows_in contents) → AreAdded number location added → HasContent added content → MayJoin (contents ++ content ∷ [])
may_join_behind number location contents added content n l h b a c = record {
  parts = All-push IsPart contents content h.parts (have_part added content c a.made);
  documents =
      let rows : rows_in (contents ++ content ∷ []) ≡ rows_in contents ++ rows_added added =
      flat_map-append (λ (c : Content). c.documents) contents (content ∷ []) ∙ ap (λ l. rows_in contents ++ l) (append-nil content.documents ∙ c.documents) in
      subst AreDocuments (sym rows) (follow_behind number location added a start (rows_in contents) (omega (arith, n)) (omega (arith, l)) h.documents b);
}
