-- The line of a document is text, and no other command than that which adds it.
use Rattle.std.proofs.Common.{◌≡◌, ℕ, ◌+◌, ◌-◌, ◌<◌, List, [], ◌∷◌, ◌++◌, false, length, lit<, take, drop, refl, sym, subst, arith}
use Rattle.std.specs.Prelude.{Some}
use Rattle.std.specs.List.{All, position_or_len}
use Rattle.std.specs.Str.{IsUtf8}
use Rattle.std.proofs.lemmas.Bool.{ne_eqb, or_from}
use Rattle.std.proofs.lemmas.List.Elements.{All-drop, All-head, All-replicate, All-tail, All-take, All-weaker}
use Rattle.std.proofs.lemmas.Str.{IsUtf8-append, IsUtf8-from_ascii, IsUtf8-nil}
use Rattle.std.proofs.lemmas.Str.Ascii.{IsAscii-from_all}
use Rattle.alta_codec.specs.Bytes.{has_byte}
use Rattle.alta_codec.specs.Name.{IsGraphic, IsName}
use Rattle.alta_machine.specs.declared.document.Document.{Document}
use Rattle.alta_machine.specs.declared.kinds.TheConstants.{WORD}
use Rattle.alta_machine.specs.Command.{adds}
use Rattle.alta_machine.specs.Lines.{asks, reading_of}
use Rattle.alta_model.proofs.Readings.{asked}
use Rattle.alta_query.proofs.Texts.{term_text}
use Rattle.alta_machine.specs.DumpLines.{IsLineOf, add_line, body_text, line_of, text_of, title_text, too_long, word_among, word_in}
use Rattle.alta_machine.specs.Plain.{HasOneWord, ends_title, of_kind, rest_of}
use Rattle.alta_dump.proofs.Decided.{line_decided}

-- ---- text

name_is_text : (name : List ℕ) → IsName name → IsUtf8 name
name_is_text name named = IsUtf8-from_ascii name (IsAscii-from_all name (All-weaker IsGraphic (λ b. b < 128) (λ b graphic. omega (arith, graphic.1)) name named.2))

too_long_is_text : IsUtf8 too_long
too_long_is_text = IsUtf8-from_ascii too_long (IsAscii-from_all too_long (All-replicate (λ b. b < 128) 129 120 (lit< tt)))

word_is_text : (foldings : List (List ℕ)) → All (λ term. IsUtf8 (rest_of term)) foldings → IsUtf8 (word_among foldings)
word_is_text [] texts = too_long_is_text
word_is_text (term ∷ terms) texts = All-head (λ t. IsUtf8 (rest_of t)) term terms texts

words_are_text : (cells : List (List (List ℕ))) → All HasOneWord cells → IsUtf8 (text_of cells)
words_are_text [] words = IsUtf8-nil
words_are_text (cell ∷ []) words = word_is_text (of_kind WORD cell) (All-head HasOneWord cell [] words).1
words_are_text (cell ∷ next ∷ cells) words =
    IsUtf8-append (word_in cell) (32 ∷ text_of (next ∷ cells)) (word_is_text (of_kind WORD cell) (All-head HasOneWord cell (next ∷ cells) words).1)
    (term_text 32 (text_of (next ∷ cells)) (lit< tt) (words_are_text (next ∷ cells) (All-tail HasOneWord cell (next ∷ cells) words)))

title_is_text : (cells : List (List (List ℕ))) → All HasOneWord cells → IsUtf8 (title_text cells)
unfolding title_text
title_is_text cells words =
    words_are_text (take (position_or_len ends_title (drop 1 cells)) (drop 1 cells))
    (All-take HasOneWord (position_or_len ends_title (drop 1 cells)) (drop 1 cells) (All-drop HasOneWord 1 cells words))

body_is_text : (cells : List (List (List ℕ))) → All HasOneWord cells → IsUtf8 (body_text cells)
unfolding body_text
body_is_text cells words =
    let behind = drop (position_or_len ends_title cells + 1) cells in
    words_are_text (take (length behind - 1) behind) (All-take HasOneWord (length behind - 1) behind (All-drop HasOneWord (position_or_len ends_title cells + 1) cells words))

line_is_text : (d : Document) → IsName d.name → All HasOneWord d.cells → IsUtf8 (add_line d)
unfolding add_line
line_is_text d named words =
    let title = title_text d.cells in let body = body_text d.cells in let last = 9 ∷ body in let fields = 9 ∷ (title ++ last) in
    let named_fields : IsUtf8 (d.name ++ fields) =
    IsUtf8-append d.name fields (name_is_text d.name named)
    (term_text 9 (title ++ last) (lit< tt) (IsUtf8-append title last (title_is_text d.cells words) (term_text 9 body (lit< tt) (body_is_text d.cells words)))) in
    term_text 97 (100 ∷ 100 ∷ 32 ∷ (d.name ++ fields)) (lit< tt)
    (term_text 100 (100 ∷ 32 ∷ (d.name ++ fields)) (lit< tt) (term_text 100 (32 ∷ (d.name ++ fields)) (lit< tt) (term_text 32 (d.name ++ fields) (lit< tt) named_fields)))

-- ---- the command

-- a name has no tab, and the title of a line has none
no_tab : (name : List ℕ) → All IsGraphic name → has_byte 9 name ≡ false
no_tab [] graphic = refl
no_tab (b ∷ bs) graphic =
    let g = All-head IsGraphic b bs graphic in
    or_from _ (has_byte 9 bs) (ne_eqb b 9 (λ e. omega arith)) (no_tab bs (All-tail IsGraphic b bs graphic))

asks_to_add : (d : Document) (line : List ℕ) → IsName d.name → IsLineOf d line → reading_of line ≡ asks (adds d.name (title_text d.cells) (body_text d.cells))
unfolding add_line
asks_to_add d line named is =
    (asked line (adds d.name (title_text d.cells) (body_text d.cells))).1
    ((is.short, subst IsUtf8 (sym is.spells) (line_is_text d named is.plain.words)), record { spells = sym is.spells; fine = (no_tab d.name named.2, is.title_is_a_field) })

pub line_asks : (d : Document) (line : List ℕ) → IsName d.name → line_of d ≡ Some line → reading_of line ≡ asks (adds d.name (title_text d.cells) (body_text d.cells))
line_asks d line named is = asks_to_add d line named ((line_decided d line).0 is)
