-- The tests decide whether a document has a line.
use Rattle.std.proofs.Common.{◌≡◌, ℕ, suc, ◌-◌, ◌≤◌, List, [], ◌∷◌, length, get_or, map, Bool, true, false, Option, Some, None, refl, sym, ap, subst, ◌∙◌}
use Rattle.std.specs.Prelude.{◌&&◌, not, ◌==◌, nat_le, count_by, ◌↔◌, if◌then◌else◌, IsSome}
use Rattle.std.specs.Bool.{Decides}
use Rattle.std.specs.List.{All, list_all}
use Rattle.std.specs.Str.{IsUtf8, is_utf8, bytes_eq}
use Rattle.std.proofs.lemmas.Bool.{and_parts, and_from, not-true, not_from_false, eqb-true, eq-eqb, leb-true, le-leb, false≢true}
use Rattle.std.proofs.lemmas.List.Elements.{All-nil, All-cons, All-head, All-tail}
use Rattle.std.proofs.lemmas.Slice.Eq.{bytes_eq-Decides}
use Rattle.std.proofs.lemmas.Str.{IsUtf8-from_is_utf8, is_utf8-from_IsUtf8}
use Rattle.alta_codec.specs.Bytes.{has_byte}
use Rattle.alta_machine.specs.declared.document.Document.{Document}
use Rattle.alta_machine.specs.declared.kinds.TheConstants.{WORD}
use Rattle.alta_machine.specs.DumpLines.{title_text, cells_again, add_line, IsLineOf, are_same, agree, is_alike, are_alike, has_line, line_of}
use Rattle.alta_machine.specs.Plain.{of_kind, rest_of, ends_title, ends_document, HasOneWord, IsPlain, has_one_word, is_plain}
use Rattle.alta_machine.specs.declared.line.TheConstants.{LINE_LIMIT}

-- ---- plain documents

list_decides : {X : Type 0} (test : X → Bool) (P : X → Type 0) → ((x : X) → Decides (test x) (P x)) → (xs : List X) → Decides (list_all test xs) (All P xs)
list_decides test P each [] = (λ e. All-nil P, λ all. refl)
list_decides test P each (x ∷ xs) =
    let rest = list_decides test P each xs in (
      λ e. let two = and_parts (test x) (list_all test xs) e in All-cons P x xs ((each x).0 two.0) (rest.0 two.1),
      λ all. and_from (test x) (list_all test xs) ((each x).1 (All-head P x xs all)) (rest.1 (All-tail P x xs all)),
    )

text_decides : (term : List ℕ) → Decides (is_utf8 (rest_of term)) (IsUtf8 (rest_of term))
text_decides term = (IsUtf8-from_is_utf8 (rest_of term), is_utf8-from_IsUtf8 (rest_of term))

one_word_decides : (cell : List (List ℕ)) → Decides (has_one_word cell) (HasOneWord cell)
one_word_decides cell =
    let texts = list_decides (λ term. is_utf8 (rest_of term)) (λ term. IsUtf8 (rest_of term)) text_decides (of_kind WORD cell) in (
      λ e. let two = and_parts (nat_le (length (of_kind WORD cell)) 1) (list_all (λ term. is_utf8 (rest_of term)) (of_kind WORD cell)) e in
          (leb-true (length (of_kind WORD cell)) 1 two.0, texts.0 two.1),
      λ one. and_from (nat_le (length (of_kind WORD cell)) 1) (list_all (λ term. is_utf8 (rest_of term)) (of_kind WORD cell))
          (le-leb (length (of_kind WORD cell)) 1 one.0) (texts.1 one.1),
    )

plain_decides : (cells : List (List (List ℕ))) → Decides (is_plain cells) (IsPlain cells)
unfolding is_plain
plain_decides cells =
    let one = count_by ends_title cells == 1 in
    let first = not (ends_title (get_or cells 0 [])) in
    let last = not (ends_title (get_or cells (length cells - 1) [])) in
    let words = list_decides has_one_word HasOneWord one_word_decides cells in (
      λ e.
          let a = and_parts one (first && (last && list_all has_one_word cells)) e in
          let b = and_parts first (last && list_all has_one_word cells) a.1 in
          let c = and_parts last (list_all has_one_word cells) b.1 in
          record { one_end = eqb-true (count_by ends_title cells) 1 a.0; not_first = not-true _ b.0; not_last = not-true _ c.0; words = words.0 c.1 },
      λ is.
          and_from one (first && (last && list_all has_one_word cells)) (eq-eqb (count_by ends_title cells) 1 is.one_end)
          (and_from first (last && list_all has_one_word cells) (not_from_false _ is.not_first)
          (and_from last (list_all has_one_word cells) (not_from_false _ is.not_last) (words.1 is.words))),
    )

-- ---- cells that are alike

same_decides : (xs ys : List (List ℕ)) → Decides (are_same xs ys) (xs ≡ ys)
same_decides [] [] = (λ e. refl, λ e. refl)
same_decides [] (y ∷ ys) = (λ e. absurd (false≢true e), λ e. absurd (cc e))
same_decides (x ∷ xs) [] = (λ e. absurd (false≢true e), λ e. absurd (cc e))
same_decides (x ∷ xs) (y ∷ ys) =
    let head = bytes_eq-Decides x y in
    let tail = same_decides xs ys in (
      λ e. let two = and_parts (bytes_eq x y) (are_same xs ys) e in λ i. head.0 two.0 i ∷ tail.0 two.1 i,
      λ e. let a : x ≡ y = cc e in let b : xs ≡ ys = cc e in and_from (bytes_eq x y) (are_same xs ys) (head.1 a) (tail.1 b),
    )

agree_decides : (a b : Bool) → Decides (agree a b) (a ≡ b)
agree_decides true true = (λ e. refl, λ e. refl)
agree_decides true false = (λ e. absurd (false≢true e), λ e. sym e)
agree_decides false true = (λ e. absurd (false≢true e), λ e. e)
agree_decides false false = (λ e. refl, λ e. refl)

-- what two cells that are alike have in common
record IsAlike (a b : List (List ℕ)) : Type 0 where
  words : of_kind WORD a ≡ of_kind WORD b
  title_end : ends_title a ≡ ends_title b
  document_end : ends_document a ≡ ends_document b

alike_decides : (a b : List (List ℕ)) → Decides (is_alike a b) (IsAlike a b)
alike_decides a b =
    let words = same_decides (of_kind WORD a) (of_kind WORD b) in
    let title = agree_decides (ends_title a) (ends_title b) in
    let document = agree_decides (ends_document a) (ends_document b) in (
      λ e.
          let x = and_parts (are_same (of_kind WORD a) (of_kind WORD b)) (agree (ends_title a) (ends_title b) && agree (ends_document a) (ends_document b)) e in
          let y = and_parts (agree (ends_title a) (ends_title b)) (agree (ends_document a) (ends_document b)) x.1 in
          record { words = words.0 x.0; title_end = title.0 y.0; document_end = document.0 y.1 },
      λ is.
          and_from (are_same (of_kind WORD a) (of_kind WORD b)) (agree (ends_title a) (ends_title b) && agree (ends_document a) (ends_document b)) (words.1 is.words)
          (and_from (agree (ends_title a) (ends_title b)) (agree (ends_document a) (ends_document b)) (title.1 is.title_end) (document.1 is.document_end)),
    )

head_is : {A : Type 0} (a b : A) (xs ys : List A) → a ∷ xs ≡ b ∷ ys → a ≡ b
head_is a b xs ys e = cc e

tail_is : {A : Type 0} (a b : A) (xs ys : List A) → a ∷ xs ≡ b ∷ ys → xs ≡ ys
tail_is a b xs ys e = cc e

record AreAlike (xs ys : List (List (List ℕ))) : Type 0 where
  words : map (of_kind WORD) xs ≡ map (of_kind WORD) ys
  title_ends : map ends_title xs ≡ map ends_title ys
  document_ends : map ends_document xs ≡ map ends_document ys

all_alike : (xs ys : List (List (List ℕ))) → Decides (are_alike xs ys) (AreAlike xs ys)
all_alike [] [] = (λ e. record { words = refl; title_ends = refl; document_ends = refl }, λ are. refl)
all_alike [] (y ∷ ys) = (λ e. absurd (false≢true e), λ are. let e : [] ≡ ends_title y ∷ map ends_title ys = are.title_ends in absurd (cc e))
all_alike (x ∷ xs) [] = (λ e. absurd (false≢true e), λ are. let e : ends_title x ∷ map ends_title xs ≡ [] = are.title_ends in absurd (cc e))
all_alike (x ∷ xs) (y ∷ ys) =
    let head = alike_decides x y in
    let tail = all_alike xs ys in (
      λ e.
          let two = and_parts (is_alike x y) (are_alike xs ys) e in
          let h = head.0 two.0 in
          let t = tail.0 two.1 in
          record { words = λ i. h.words i ∷ t.words i; title_ends = λ i. h.title_end i ∷ t.title_ends i; document_ends = λ i. h.document_end i ∷ t.document_ends i },
      λ are.
          let a : of_kind WORD x ≡ of_kind WORD y = head_is (of_kind WORD x) (of_kind WORD y) (map (of_kind WORD) xs) (map (of_kind WORD) ys) are.words in
          let b : ends_title x ≡ ends_title y = head_is (ends_title x) (ends_title y) (map ends_title xs) (map ends_title ys) are.title_ends in
          let c : ends_document x ≡ ends_document y = head_is (ends_document x) (ends_document y) (map ends_document xs) (map ends_document ys) are.document_ends in
          and_from (is_alike x y) (are_alike xs ys) (head.1 (record { words = a; title_end = b; document_end = c }))
          (tail.1 (record { words = tail_is (of_kind WORD x) (of_kind WORD y) (map (of_kind WORD) xs) (map (of_kind WORD) ys) are.words; title_ends = tail_is (ends_title x) (ends_title y) (map ends_title xs) (map ends_title ys) are.title_ends; document_ends = tail_is (ends_document x) (ends_document y) (map ends_document xs) (map ends_document ys) are.document_ends })),
    )

long_map : {A B : Type 0} (f : A → B) (xs : List A) → length (map f xs) ≡ length xs
long_map f [] = refl
long_map f (x ∷ xs) = ap suc (long_map f xs)

-- ---- lines

-- the facts of a line, whatever its bytes
record HasLine (d : Document) : Type 0 where
  plain : IsPlain d.cells
  alike : AreAlike (cells_again d) d.cells
  field : has_byte 9 (title_text d.cells) ≡ false
  short : length (add_line d) ≤ LINE_LIMIT

has_line_decides : (d : Document) → Decides (has_line d) (HasLine d)
unfolding has_line
has_line_decides d =
    let plain = plain_decides d.cells in
    let alike = all_alike (cells_again d) d.cells in
    let field = not (has_byte 9 (title_text d.cells)) in
    let short = nat_le (length (add_line d)) LINE_LIMIT in (
      λ e.
          let a = and_parts (is_plain d.cells) (are_alike (cells_again d) d.cells && (field && short)) e in
          let b = and_parts (are_alike (cells_again d) d.cells) (field && short) a.1 in
          let c = and_parts field short b.1 in
          record { plain = plain.0 a.0; alike = alike.0 b.0; field = not-true _ c.0; short = leb-true (length (add_line d)) LINE_LIMIT c.1 },
      λ has.
          and_from (is_plain d.cells) (are_alike (cells_again d) d.cells && (field && short)) (plain.1 has.plain)
          (and_from (are_alike (cells_again d) d.cells) (field && short) (alike.1 has.alike)
          (and_from field short (not_from_false _ has.field) (le-leb (length (add_line d)) LINE_LIMIT has.short))),
    )

is_line : (d : Document) (line : List ℕ) → line ≡ add_line d → HasLine d → IsLineOf d line
is_line d line e has = record {
  spells = e;
  plain = has.plain;
  as_many = sym (long_map ends_title (cells_again d)) ∙ ap length has.alike.title_ends ∙ long_map ends_title d.cells;
  words = has.alike.words;
  title_ends = has.alike.title_ends;
  document_ends = has.alike.document_ends;
  title_is_a_field = has.field;
  short = subst (λ (bytes : List ℕ). length bytes ≤ LINE_LIMIT) (sym e) has.short;
}

line_is : (d : Document) (line : List ℕ) → IsLineOf d line → HasLine d
line_is d line is = record {
  plain = is.plain;
  alike = record { words = is.words; title_ends = is.title_ends; document_ends = is.document_ends };
  field = is.title_is_a_field;
  short = subst (λ (bytes : List ℕ). length bytes ≤ LINE_LIMIT) is.spells is.short;
}

there : (d : Document) (line : List ℕ) (b : Bool) → has_line d ≡ b → (if b then Some (add_line d) else None) ≡ Some line → IsLineOf d line
there d line true has e = let same : line ≡ add_line d = sym (cc e) in is_line d line same ((has_line_decides d).0 has)
there d line false has e = absurd (cc e)

back : (d : Document) (line : List ℕ) (b : Bool) → has_line d ≡ b → IsLineOf d line → (if b then Some (add_line d) else None) ≡ Some line
back d line true has is = ap (λ (bytes : List ℕ). Some bytes) (sym is.spells)
back d line false has is = absurd (false≢true (sym has ∙ (has_line_decides d).1 (line_is d line is)))

pub line_decided : (d : Document) (line : List ℕ) → (line_of d ≡ Some line) ↔ IsLineOf d line
unfolding line_of
line_decided d line = (there d line (has_line d) refl, back d line (has_line d) refl)

some_has : (d : Document) (o : Option (List ℕ)) → line_of d ≡ o → IsSome o → (line : List ℕ) × IsLineOf d line
some_has d None e is = absurd (false≢true is)
some_has d (Some line) e is = (line, (line_decided d line).0 e)

pub has_some : (d : Document) → IsSome (line_of d) → (line : List ℕ) × IsLineOf d line
has_some d is = some_has d (line_of d) refl is
