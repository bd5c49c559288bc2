-- Entries of terms, and their data, one list after the other.
use Rattle.std.proofs.Common.{◌≡◌, ℕ, zero, suc, ◌<◌, List, [], ◌∷◌, ◌++◌, length, drop, take, get_or, refl, sym, ap, ◌∙◌, arith, append_assoc, append-nil}
use Rattle.std.proofs.Math.Seq.{drop-append_seam, take-append_seam}
use Rattle.std.specs.Prelude.{flat_map}
use Rattle.alta_codec.specs.Rising.{IsRising}
use Rattle.alta_content.specs.declared.document.DocRow.{DocRow}
use Rattle.alta_table.specs.declared.sizes.Head.{Head}
use Rattle.alta_table.specs.Documents.{documents_bytes}
use Rattle.alta_table.specs.Tables.{head_bytes, head_of}
use Rattle.alta_table.specs.Terms.{entry_bytes, terms_bytes, terms_bytes_behind}
use Rattle.alta_content.specs.declared.content.Content.{Content}
use Rattle.alta_content.specs.TermList.{TermList}
use Rattle.alta_content.specs.Fronts.{front_locations, front_term}
use Rattle.alta_content.specs.Lists.{AreListsBehind}
use Rattle.alta_level.specs.Segments.{list_bytes, row_of, rows_of, segment_bytes}

pub lists_rise : (documents : List DocRow) (before : List ℕ) (lists : List TermList) → AreListsBehind documents before lists
    → (k : ℕ) (d : TermList) → k < length lists → IsRising (get_or lists k d).locations
unfolding AreListsBehind
lists_rise documents before [] h k d l = absurd (omega arith)
lists_rise documents before (x ∷ xs) h zero d l = h.0.rising
lists_rise documents before (x ∷ xs) h (suc k) d l = lists_rise documents x.term xs h.1 k d (omega arith)

rows_many : (lists : List TermList) → length (rows_of lists) ≡ length lists
rows_many [] = refl
rows_many (l ∷ ls) = ap (λ n. suc n) (rows_many ls)

head_same : (documents terms document_bytes term_bytes : ℕ) (rows : List DocRow) (lists : List TermList) → documents ≡ length rows → terms ≡ length lists
    → document_bytes ≡ length (documents_bytes rows) → term_bytes ≡ length (terms_bytes (rows_of lists))
    → record { documents = documents; terms = terms; document_bytes = document_bytes; term_bytes = term_bytes } ≡ head_of rows (rows_of lists)
head_same documents terms document_bytes term_bytes rows lists a b c d =
    let f : ℕ → Head = λ x. record { documents = x; terms = terms; document_bytes = document_bytes; term_bytes = term_bytes } in
    let g : ℕ → Head = λ x. record { documents = length rows; terms = x; document_bytes = document_bytes; term_bytes = term_bytes } in
    let h : ℕ → Head = λ x. record { documents = length rows; terms = length (rows_of lists); document_bytes = x; term_bytes = term_bytes } in
    let k : ℕ → Head = λ x. record { documents = length rows; terms = length (rows_of lists); document_bytes = length (documents_bytes rows); term_bytes = x } in
    ap f a ∙ ap g (b ∙ sym (rows_many lists)) ∙ ap h c ∙ ap k d

-- head and tables were put behind the streams, and then turned in front of them
pub assembled : (content : Content) (head : Head) (size : ℕ) (b1 b2 b3 b4 first second streams : List ℕ) → b1 ≡ streams ++ head_bytes head → b2 ≡ b1 ++ first → b3 ≡ b2 ++ second
    → size ≡ length streams → b4 ≡ drop size b3 ++ take size b3
    → first ≡ documents_bytes content.documents → second ≡ terms_bytes (rows_of content.lists) → streams ≡ flat_map list_bytes content.lists
    → head.documents ≡ length content.documents → head.terms ≡ length content.lists → head.document_bytes ≡ length first → head.term_bytes ≡ length second → b4 ≡ segment_bytes content
unfolding segment_bytes
assembled content head size b1 b2 b3 b4 first second streams e1 e2 e3 long e4 d t s n m x y =
    let same : head ≡ head_of content.documents (rows_of content.lists) =
    head_same head.documents head.terms head.document_bytes head.term_bytes content.documents content.lists n m (x ∙ ap length d) (y ∙ ap length t) in
    let h = head_bytes head in
    let front = h ++ (first ++ second) in
    let behind : b3 ≡ streams ++ front =
    e3 ∙ ap (λ z. z ++ second) (e2 ∙ ap (λ z. z ++ first) e1 ∙ append_assoc streams h first)
    ∙ append_assoc streams (h ++ first) second ∙ ap (λ z. streams ++ z) (append_assoc h first second) in
    let turned : b4 ≡ front ++ streams =
    e4 ∙ ap (λ k. drop k b3 ++ take k b3) long ∙ ap (λ z. drop (length streams) z ++ take (length streams) z) behind
    ∙ ap (λ z. z ++ take (length streams) (streams ++ front)) (drop-append_seam streams front) ∙ ap (λ z. front ++ z) (take-append_seam streams front) in
    turned ∙ ap (λ z. front ++ z) s ∙ ap (λ z. (h ++ (first ++ z)) ++ flat_map list_bytes content.lists) t
    ∙ ap (λ z. (h ++ (z ++ terms_bytes (rows_of content.lists))) ++ flat_map list_bytes content.lists) d
    ∙ ap (λ z. (head_bytes z ++ (documents_bytes content.documents ++ terms_bytes (rows_of content.lists))) ++ flat_map list_bytes content.lists) same

-- what is left to spell of lists that are used up, behind the term `before`
pub record Leaves (all : List TermList) (terms_before streams_before terms streams before : List ℕ) (left : List TermList) : Type 0 where
  pub entries : terms ++ terms_bytes_behind before (rows_of left) ≡ terms_before ++ terms_bytes (rows_of all)
  pub written : streams ++ flat_map list_bytes left ≡ streams_before ++ flat_map list_bytes all
  pub rise : (k : ℕ) → (d : TermList) → k < length left → IsRising (get_or left k d).locations

-- the first of lists
abbrev pub front_list : List TermList → TermList
front_list lists = record { term = front_term lists; locations = front_locations lists }

pub front_same : (term locations : List ℕ) (lists : List TermList) → term ≡ front_term lists → locations ≡ front_locations lists
    → record { term = term; locations = locations } ≡ front_list lists
front_same term locations lists t l =
    ap (λ (x : List ℕ). let y : TermList = record { term = x; locations = locations } in y) t
    ∙ ap (λ (x : List ℕ). let y : TermList = record { term = front_term lists; locations = x } in y) l

pub leaves_rest : (all : List TermList) (t s terms streams before : List ℕ) (left : List TermList) (more most : List ℕ) → Leaves all t s terms streams before left → 0 < length left
    → more ≡ terms ++ entry_bytes before (row_of (front_list left)) → most ≡ streams ++ list_bytes (front_list left) → Leaves all t s more most (front_term left) (drop 1 left)
unfolding terms_bytes_behind
leaves_rest all t s terms streams before [] more most leaves some m w = absurd (omega (arith, some))
leaves_rest all t s terms streams before (l ∷ ls) more most leaves some m w = record {
  entries = ap (λ x. x ++ terms_bytes_behind l.term (rows_of ls)) m ∙ append_assoc terms (entry_bytes before (row_of l)) (terms_bytes_behind l.term (rows_of ls)) ∙ leaves.entries;
  written = ap (λ x. x ++ flat_map list_bytes ls) w ∙ append_assoc streams (list_bytes l) (flat_map list_bytes ls) ∙ leaves.written;
  rise = λ k d less. leaves.rise (suc k) d (omega (arith, less));
}

pub first_rises : (all : List TermList) (t s terms streams before : List ℕ) (left : List TermList) → Leaves all t s terms streams before left → 0 < length left → IsRising (front_locations left)
first_rises all t s terms streams before [] leaves some = absurd (omega (arith, some))
first_rises all t s terms streams before (l ∷ ls) leaves some = leaves.rise 0 l (omega arith)

pub leaves_none : (all : List TermList) (t s terms streams before : List ℕ) → Leaves all t s terms streams before [] → (terms ≡ t ++ terms_bytes (rows_of all)) × (streams ≡ s ++ flat_map list_bytes all)
unfolding terms_bytes_behind
leaves_none all t s terms streams before leaves = (sym (append-nil terms) ∙ leaves.entries, sym (append-nil streams) ∙ leaves.written)
